-- A field that bit 0 gives, and no byte: its value and the entry afterwards. (Own.)
use Rattle.std.specs.Prelude.{◌≡◌, ℕ, false, List, [], Option, Some, None, Ok, IsTrue}
use Rattle.fast_field.specs.Prelude.{Level, is_of, FieldPart, Scalar, Entry}
use Rattle.fast_field.specs.declared.passed.Passed.{Passed}
use Rattle.fast_field.specs.declared.passed.Passed.TheVariants.{Absent, Present, Elsewhere}
use Rattle.fast_field.specs.Bases.{next}
use Rattle.fast_field.specs.Best.{IsBest}
use Rattle.fast_field.specs.FieldReading.{field_at}

-- bit 0 gives the value, at each level, and is its best form
pub record Passes (i : FieldPart) (old new : Entry) (v : Option Scalar) : Type 0 where
  pub read : (level : Level) (bytes : List ℕ) → field_at level i old false bytes ≡ Ok (v, bytes)
  pub entry : new ≡ next i old v
  pub best : IsBest i old false [] v

abbrev pub IsPassed : FieldPart → Entry → Entry → Passed → Type 0
-- a value that is there is of the field's type
IsPassed i old new Present = (v : Scalar) × IsTrue (is_of i.kind v) × Passes i old new (Some v)
IsPassed i old new Absent = Passes i old new None
IsPassed i old new Elsewhere = new ≡ old
