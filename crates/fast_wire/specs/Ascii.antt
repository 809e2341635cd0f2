-- FAST 1.1, Transfer Encoding, ASCII String Representation: a string as the groups of an entity. Zero groups
-- in front may be a preamble; which of them are is our own reading, and so are the limits.
use Rattle.std.specs.Prelude.{◌≡◌, ℕ, zero, suc, ◌<◌, ◌≤◌, List, [], ◌∷◌, length, All}
use Rattle.fast_wire.specs.Entity.{IsSpelled, groups}
use Rattle.fast_wire.specs.Nullable.{units}
use Rattle.fast_wire.specs.declared.nullable.Nullable.{Nullable}
use Rattle.fast_wire.specs.declared.nullable.Nullable.TheVariants.{Null, Value}

-- a first group of 0 is a preamble, and the string is the rest; else the string is all groups
abbrev pub SpellsAscii : List ℕ → List ℕ → Type 0
SpellsAscii [] s = ⊥
SpellsAscii (zero ∷ gs) s = s ≡ gs
SpellsAscii (suc g ∷ gs) s = s ≡ suc g ∷ gs

-- the single group 0 is NULL; two first groups of 0 are a preamble; one before another group is a preamble
-- too; else the string is all groups
abbrev pub SpellsAsciiNullable : List ℕ → Nullable (List ℕ) → Type 0
SpellsAsciiNullable [] s = ⊥
SpellsAsciiNullable (zero ∷ []) s = s ≡ Null
SpellsAsciiNullable (zero ∷ zero ∷ gs) s = s ≡ Value gs
SpellsAsciiNullable (zero ∷ suc g ∷ gs) s = s ≡ Value (suc g ∷ gs)
SpellsAsciiNullable (suc g ∷ gs) s = s ≡ Value (suc g ∷ gs)

-- the bytes are an entity of at most 65,540 groups, and spell s
abbrev pub IsAsciiEntity : List ℕ → List ℕ → Type 0
IsAsciiEntity bytes s = IsSpelled 65540 (λ b s. SpellsAscii (groups b) s) bytes s

abbrev pub IsAsciiEntityNullable : List ℕ → Nullable (List ℕ) → Type 0
IsAsciiEntityNullable bytes s = IsSpelled 65540 (λ b s. SpellsAsciiNullable (groups b) s) bytes s

-- and s has at most 65,535 characters
pub record IsAscii (bytes s : List ℕ) : Type 0 where
  pub spelled : IsAsciiEntity bytes s
  pub limit : length s ≤ 65535

pub record IsAsciiNullable (bytes : List ℕ) (s : Nullable (List ℕ)) : Type 0 where
  pub spelled : IsAsciiEntityNullable bytes s
  pub limit : units s ≤ 65535

-- characters below 128, at most 65,535 of them: a string that has a form
abbrev pub IsAsciiText : List ℕ → Type 0
IsAsciiText s = All (λ c. c < 128) s × (length s ≤ 65535)
