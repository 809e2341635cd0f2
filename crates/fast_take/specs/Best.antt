-- What the best form of a field is that was read and is best spelled otherwise than it stands, or is NULL. (Own.)
use Rattle.std.specs.Prelude.{◌≤◌, ℕ, List, [], ◌∷◌, ◌++◌, length, drop, slice_range, Option, Some, None}
use Rattle.fast_take.specs.Prelude.{FieldPart, Scalar, Entry}
use Rattle.fast_take.specs.Relayed.{IsThere, Judges}
use Rattle.fast_take.specs.declared.best.Best.{Best}

-- the byte in front, if there is one
abbrev pub front_of : Option ℕ → List ℕ
front_of None = []
front_of (Some removal) = removal ∷ []

-- its bytes
abbrev pub form_of : List ℕ → Best → List ℕ
form_of bytes b = front_of b.removal ++ slice_range bytes b.first b.next

-- the bytes from one place to another, which are there, give a value, or NULL, and leave the entry afterwards, and this is the best
-- form
pub record HasBest (i : FieldPart) (old new : Entry) (bytes : List ℕ) (at : ℕ) (b : Best) : Type 0 where
  pub place : at ≤ b.next
  pub first : b.first ≤ b.next
  pub within : b.next ≤ length bytes
  pub value : Option Scalar
  pub is_there : IsThere i.kind b.there value
  pub judges : Judges b.bit (form_of bytes b) i old new value (drop at bytes) (drop b.next bytes)
