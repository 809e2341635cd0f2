-- What a value leaves behind that was sent although bit 0 gives it, and values that are there where a test says so.
use Rattle.std.proofs.Common.{Bool, IfSome, Option}
use Rattle.std.specs.Bool.{then_some}
use Rattle.fast_take.proofs.Common.{◌≡◌, true, false, refl, Some, None, is_of, scalar_eq-same, Operator, Scalar, FieldPart, Assigned, Leaves}

pub ends_same : (i : FieldPart) (v : Scalar) → i.operator ≡ Operator.Tail → is_of i.kind v ≡ true → Leaves false i (Assigned v) (Assigned v) (Some v)
ends_same i v o is = record { entry = rw o refl; left_out = rw (o, is) (scalar_eq-same v) }

-- ---- a value that is there where a test says so

pub some_or_none : {A : Type 0} (P : Option A → Type 0) (b : Bool) (x : A) → (b ≡ true → P (Some x)) → (b ≡ false → P None) → P (then_some b x)
some_or_none P' true x there gone = there refl
some_or_none P' false x there gone = gone refl

pub if_some : {A : Type 0} (P : A → Type 0) (b : Bool) (x : A) → (b ≡ true → P x) → IfSome (then_some b x) P
if_some P' true x there = there refl
if_some P' false x there = tt
