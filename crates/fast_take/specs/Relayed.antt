-- A field that is read at once: what was read is a form of its value, the entry is the one afterwards, and what the value's best
-- form is. (Own.)
use Rattle.std.specs.Prelude.{◌≡◌, ℕ, Bool, true, false, List, ◌++◌, Option, Some, None, Ok, IsTrue}
use Rattle.fast_take.specs.Prelude.{Usual, is_of, Kind, FieldPart, Scalar, Entry, next, IsBest, field_at}

-- the bytes before `rest` give the value under bit 1, and the entry is the one afterwards
pub record Takes (i : FieldPart) (old new : Entry) (v : Scalar) (bytes rest : List ℕ) : Type 0 where
  pub read : (more : List ℕ) → field_at Usual i old true (bytes ++ more) ≡ Ok (Some v, rest ++ more)
  pub entry : new ≡ next i old (Some v)

-- whether there is a value, which then is of the type
abbrev pub IsThere : Kind → Bool → Option Scalar → Type 0
IsThere k true v = (w : Scalar) × (v ≡ Some w) × IsTrue (is_of k w)
IsThere k false v = v ≡ None

-- the bytes before `rest` give a value, or NULL, under bit 1, the entry is the one afterwards, and the best form is this bit and
-- these bytes
pub record Judges (bit : Bool) (form : List ℕ) (i : FieldPart) (old new : Entry) (v : Option Scalar) (bytes rest : List ℕ) : Type 0 where
  pub read : (more : List ℕ) → field_at Usual i old true (bytes ++ more) ≡ Ok (v, rest ++ more)
  pub entry : new ≡ next i old v
  pub best : IsBest i old bit form v
