-- References among templates by their places, and the order in which their lists can be put together.
-- FAST 1.1, Templates, Template Reference Instructions.
use Rattle.std.specs.Prelude.{◌≡◌, ◌<◌, ℕ, List, length, slice_get, Some, Vec}
use Rattle.std.specs.declared.alloc.Global.{Global}

-- a template's reference of a number, from 0, and the template that it names
abbrev pub IsReference : List (Vec ℕ Global) → ℕ → ℕ → ℕ → Type 0
IsReference rows a k b = (row : Vec ℕ Global) × (slice_get rows a ≡ Some row) × (slice_get row.items k ≡ Some b)

-- each reference names a template that is there
abbrev pub AreWithin : List (Vec ℕ Global) → Type 0
AreWithin rows = (a k b : ℕ) → IsReference rows a k b → b < length rows

-- references lead from one to another
pub data Reaches (rows : List (Vec ℕ Global)) (a : ℕ) : ℕ → Type 0 where
  one : (k b : ℕ) → IsReference rows a k b → Reaches rows a b
  further : (k b c : ℕ) → Reaches rows a b → IsReference rows b k c → Reaches rows a c

-- the first that lies on a cycle
pub record IsFirstOnCycle (rows : List (Vec ℕ Global)) (t : ℕ) : Type 0 where
  pub within : t < length rows
  pub on_cycle : Reaches rows t t
  pub first : (u : ℕ) → u < t → ¬ (Reaches rows u u)

-- each stands in the order once, behind those that it refers to
pub record IsOrder (rows : List (Vec ℕ Global)) (order : List ℕ) : Type 0 where
  pub within : (p a : ℕ) → slice_get order p ≡ Some a → a < length rows
  pub complete : (a : ℕ) → a < length rows → (p : ℕ) × (slice_get order p ≡ Some a)
  pub once : (p q a : ℕ) → slice_get order p ≡ Some a → slice_get order q ≡ Some a → p ≡ q
  pub behind : (p a k b : ℕ) → slice_get order p ≡ Some a → IsReference rows a k b → (q : ℕ) × (q < p) × (slice_get order q ≡ Some b)
