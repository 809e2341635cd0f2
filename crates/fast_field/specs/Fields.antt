-- The forms of one field, by operator and bit. Where a field has no bit, the bit is true.
-- FAST 1.1, Field Operators. The limits are this project's own.
use Rattle.std.specs.Prelude.{◌≡◌, ℕ, pos, Bool, true, false, int_le, List, [], Option, Some, None, Ok, IsTrue}
use Rattle.fast_field.specs.Prelude.{Level, exponent_in_range, Operator, Part, Optional, FieldPart, Scalar, Entry}
use Rattle.fast_field.specs.Values.{integer_of}
use Rattle.fast_field.specs.Bases.{predicted}
use Rattle.fast_field.specs.Spelled.{Spelled}
use Rattle.fast_field.specs.Deltas.{Cut, uncut, DeltaForm, TailForm}

-- bit 0 of default: the initial value, or absent where there is none
abbrev pub InitialOrAbsent : FieldPart → Option Scalar → Type 0
InitialOrAbsent i (Some v) = i.initial ≡ Some v
InitialOrAbsent i None = (i.initial ≡ None) × (i.presence ≡ Optional)

abbrev pub FormOf : (level : Level) → Operator → FieldPart → Entry → Bool → Cut → List ℕ → Option Scalar → Type 0
FormOf level Operator.Plain i e false c b v = ⊥
FormOf level Operator.Plain i e true c b v = (c ≡ uncut) × Spelled level i.kind i.presence b v
FormOf level Operator.Constant i e false c b v = (c ≡ uncut) × (b ≡ []) × (i.presence ≡ Optional)
    × (v ≡ None)
FormOf level Operator.Constant i e true c b v = (c ≡ uncut) × (b ≡ []) × (v ≡ i.initial)
FormOf level Operator.Default i e false c b v = (c ≡ uncut) × (b ≡ []) × InitialOrAbsent i v
FormOf level Operator.Default i e true c b v = (c ≡ uncut) × Spelled level i.kind i.presence b v
FormOf level Operator.Copy i e false c b v = (c ≡ uncut) × (b ≡ []) × (predicted i e ≡ Ok v)
FormOf level Operator.Copy i e true c b v = (c ≡ uncut) × Spelled level i.kind i.presence b v
FormOf level Operator.Increment i e false c b v = (c ≡ uncut) × (b ≡ []) × (predicted i e ≡ Ok v)
FormOf level Operator.Increment i e true c b v = (c ≡ uncut) × Spelled level i.kind i.presence b v
FormOf level Operator.Delta i e false c b v = ⊥
FormOf level Operator.Delta i e true c b v = DeltaForm level i e c b v
FormOf level Operator.Tail i e false c b v = (c ≡ uncut) × (b ≡ []) × (predicted i e ≡ Ok v)
FormOf level Operator.Tail i e true c b v = TailForm level i e c b v

-- limits, also of what bit 0 gives: an exponent's, and a length's
abbrev pub within_part : Part → Scalar → Bool
within_part Part.Exponent v = exponent_in_range (integer_of v)
within_part Part.Length v = int_le (integer_of v) (pos 65535)
within_part p v = true

abbrev pub IsWithin : Part → Option Scalar → Type 0
IsWithin p None = Unit {0}
IsWithin p (Some v) = IsTrue (within_part p v)

pub record FormBy (level : Level) (i : FieldPart) (e : Entry) (bit : Bool) (cut : Cut) (b : List ℕ)
    (v : Option Scalar) : Type 0 where
  pub row : FormOf level i.operator i e bit cut b v
  pub within : IsWithin i.part v

-- under this bit the bytes are a form of the value
abbrev pub Form : (level : Level) → FieldPart → Entry → Bool → List ℕ → Option Scalar → Type 0
Form level i e bit b v = (cut : Cut) × FormBy level i e bit cut b v
