-- What it is to have taken a field: what was read of it, its entry afterwards, and its best form. (Own.)
use Rattle.std.specs.Prelude.{◌≡◌, ℕ, ◌≤◌, Bool, true, false, List, [], ◌++◌, length, drop, slice_range, Option, Some, None, Ok, Err}
use Rattle.std.specs.Option.{is_some}
use Rattle.fast_wire.specs.declared.level.Level.{Level}
use Rattle.fast_wire.specs.Reading.{Fails}
use Rattle.fast_value.specs.declared.kind.Kind.{Kind}
use Rattle.fast_value.specs.declared.kind.Operator.{Operator}
use Rattle.fast_value.specs.declared.scalar.Scalar.{Scalar}
use Rattle.fast_value.specs.declared.scalar.Scalar.TheVariants as scalar
use Rattle.fast_template.specs.declared.resolved.FieldPart.{FieldPart}
use Rattle.fast_dictionary.specs.declared.entry.Entry.{Entry}
use Rattle.fast_field.specs.Bases.{next}
use Rattle.fast_field.specs.Best.{IsBest}
use Rattle.fast_field.specs.Calls.{OrRefused}
unfoldable use Rattle.fast_field.specs.FieldReading.{field_at}
use Rattle.fast_field.specs.Found.{assigned_of}
use Rattle.fast_field.specs.Sent.{units_in}
use Rattle.fast_field.specs.Values.{of_units}
use Rattle.fast_field.specs.declared.fault.FieldFault.{FieldFault}
use Rattle.fast_take.specs.Numbers.{KeepsNothing}
use Rattle.fast_take.specs.declared.took.Took.{Took}
use Rattle.fast_take.specs.declared.took.Took.TheVariants.{Stands, Absent, Given, Other}
use Rattle.fast_take.specs.declared.took.Unkept.{Unkept}
use Rattle.fast_take.specs.declared.took.Unkept.TheVariants as unkept
use Rattle.fast_take.specs.declared.took.Aside.{Aside}

-- the place behind the field
abbrev pub place_of : Took → ℕ
place_of (Stands n) = n
place_of (Absent n) = n
place_of (Given n) = n
place_of (Other n) = n

-- whether it has a value
abbrev pub is_there : Took → Aside → Bool
is_there (Absent n) a = false
is_there (Other n) a = a.there
is_there t a = true

-- ---- the value

-- of a type, where no entry keeps it
abbrev pub value_aside : Kind → List ℕ → Unkept → Scalar
value_aside k bytes (unkept.UInt32 n) = scalar.U32 n
value_aside k bytes (unkept.Int32 n) = scalar.I32 n
value_aside k bytes (unkept.UInt64 n) = scalar.U64 n
value_aside k bytes (unkept.Int64 n) = scalar.I64 n
value_aside k bytes (unkept.Decimal e m) = scalar.Decimal e m
value_aside k bytes (unkept.Units s) = of_units k (units_in k bytes s)

-- by the operator: aside where it was sent and no entry keeps it, the initial value, or the entry's
abbrev pub value_there : Operator → FieldPart → Entry → Bool → Unkept → List ℕ → Option Scalar
value_there Operator.Constant i new bit u bytes = i.initial
value_there Operator.Plain i new bit u bytes = Some (value_aside i.kind bytes u)
value_there Operator.Default i new true u bytes = Some (value_aside i.kind bytes u)
value_there Operator.Default i new false u bytes = i.initial
value_there o i new bit u bytes = assigned_of new

abbrev pub if_there : Bool → Option Scalar → Option Scalar
if_there true v = v
if_there false v = None

-- the value of a field that was taken under this bit, which has this entry afterwards
abbrev pub value_taken : FieldPart → Entry → Bool → List ℕ → Aside → Took → Option Scalar
value_taken i new bit bytes a t = if_there (is_there t a) (value_there i.operator i new bit a.unkept bytes)

-- a number without sign of 32 bits, or none
abbrev pub count_of : Option ℕ → Option Scalar
count_of None = None
count_of (Some n) = Some (scalar.U32 n)

-- ---- the best form

-- its bit, by the one that was read
abbrev pub best_bit : Bool → Aside → Took → Bool
best_bit bit a (Stands n) = bit
best_bit bit a (Absent n) = bit
best_bit bit a (Given n) = false
best_bit bit a (Other n) = a.bit

-- and its bytes
abbrev pub best_form : List ℕ → ℕ → Aside → Took → List ℕ
best_form bytes at a (Stands n) = slice_range bytes at n
best_form bytes at a (Absent n) = slice_range bytes at n
best_form bytes at a (Given n) = []
best_form bytes at a (Other n) = a.made.items ++ slice_range bytes a.first n

-- where those of its bytes begin that stand in what was read
abbrev pub first_of : ℕ → Aside → Took → ℕ
first_of at a (Other n) = a.first
first_of at a t = at

-- ---- what is taken

-- The bytes from one place to the other are read as the value, whatever follows; the entry is the one afterwards; and this bit and
-- these bytes are the best form of the value.
pub record IsTook (level : Level) (i : FieldPart) (old new : Entry) (bit : Bool) (bytes : List ℕ) (at : ℕ) (a : Aside) (t : Took) : Type 0 where
  pub place : (at ≤ place_of t) × (place_of t ≤ length bytes)
  pub first : first_of at a t ≤ place_of t
  pub read : (more : List ℕ) → field_at level i old bit (drop at bytes ++ more) ≡ Ok (value_taken i new bit bytes a t, drop (place_of t) bytes ++ more)
  pub entry : new ≡ next i old (value_taken i new bit bytes a t)
  pub there : is_some (value_taken i new bit bytes a t) ≡ is_there t a
  pub best : IsBest i old (best_bit bit a t) (best_form bytes at a t) (value_taken i new bit bytes a t)

-- The bytes from one place to the other are read as this value, wherever that lies; and as above.
pub record IsTakenAs (level : Level) (i : FieldPart) (old new : Entry) (bit : Bool) (bytes : List ℕ) (at : ℕ) (a : Aside) (t : Took) (v : Option Scalar) : Type 0 where
  pub place : (at ≤ place_of t) × (place_of t ≤ length bytes)
  pub first : first_of at a t ≤ place_of t
  pub read : (more : List ℕ) → field_at level i old bit (drop at bytes ++ more) ≡ Ok (v, drop (place_of t) bytes ++ more)
  pub entry : new ≡ next i old v
  pub there : is_some v ≡ is_there t a
  pub best : IsBest i old (best_bit bit a t) (best_form bytes at a t) v

-- The field has this first fault, or memory was refused where no more bytes were needed; and the entry is as it was.
pub record IsStopped (level : Level) (i : FieldPart) (old new : Entry) (bit : Bool) (bytes : List ℕ) (at : ℕ) (f : FieldFault) : Type 0 where
  pub fault : Fails OrRefused f (field_at level i old bit (drop at bytes))
  pub entry : new ≡ old

-- The field has this first fault, and the entry is as it was.
pub record IsFaulted (level : Level) (i : FieldPart) (old new : Entry) (bit : Bool) (bytes : List ℕ) (at : ℕ) (f : FieldFault) : Type 0 where
  pub fault : field_at level i old bit (drop at bytes) ≡ Err f
  pub entry : new ≡ old

-- ---- No public clause names these.

-- what lies aside where no entry keeps what was sent
abbrev pub LiesAside : FieldPart → Bool → List ℕ → Unkept → Option Scalar → Type 0
LiesAside i bit bytes u v = (w : Scalar) → v ≡ Some w → bit ≡ true → KeepsNothing i.operator → value_aside i.kind bytes u ≡ w
