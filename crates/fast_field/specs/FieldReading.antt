-- Reading one field from the front of a list: its value and the bytes after it, or its first fault.
-- FAST 1.1, Field Operators, and Transfer Encoding, Field Encoding. The order of the checks is this project's own.
use Rattle.std.specs.Prelude.{◌≡◌, ℕ, ℤ, pos, ◌+ℤ◌, Bool, true, false, nat_le, nat_lt, if◌then◌else◌, List, length, Option, Some, None, Result, Ok, Err}
use Rattle.std.specs.Str.{is_utf8}
use Rattle.fast_field.specs.Prelude.{judged, overlong_signed, Level, Usual, ◌>>=◌, unsigned_at, signed_at, unsigned_nullable_at, signed_nullable_at, ascii_at, ascii_nullable_at, vector_at, vector_nullable_at, WireFault, Nullable, Null, Value, in_range, exponent_in_range, of_integer, Kind, Operator, Part, Presence, Mandatory, Optional, FieldPart, Scalar, Decimal, Entry}
use Rattle.fast_field.specs.declared.fault.FieldFault.{FieldFault}
use Rattle.fast_field.specs.Faults.{field_fault}
use Rattle.fast_field.specs.Values.{is_unsigned, integer_of, exponent_of, mantissa_of, units_of, of_units}
use Rattle.fast_field.specs.Bases.{delta_base, tail_base, predicted}
use Rattle.fast_field.specs.Deltas.{removed_of, put_together, ended_by}
use Rattle.fast_field.specs.Spelled.{overlong_number, overlong_units}
use Rattle.fast_field.specs.Fields.{within_part}

-- ---- Forms and values

-- the answer of a byte form, as a field's
abbrev pub in_field : {A : Type 0} → Result A WireFault → Result A FieldFault
in_field (Ok x) = Ok x
in_field (Err f) = Err (field_fault f)

-- a test that must hold
abbrev pub check : Bool → FieldFault → Result (Unit {0}) FieldFault
check true f = Ok tt
check false f = Err f

abbrev pub signless : Nullable ℕ → Nullable ℤ
signless Null = Null
signless (Value n) = Value (pos n)

-- an integer, with no sign where the first argument is true
abbrev pub integer_usually_at : Bool → Presence → List ℕ → Result (Nullable ℤ × List ℕ) FieldFault
integer_usually_at true Mandatory bytes = in_field (unsigned_at bytes) >>= λ x. Ok (Value (pos x.0), x.1)
integer_usually_at true Optional bytes =
    in_field (unsigned_nullable_at bytes) >>= λ x. Ok (signless x.0, x.1)
integer_usually_at false Mandatory bytes = in_field (signed_at bytes) >>= λ x. Ok (Value x.0, x.1)
integer_usually_at false Optional bytes = in_field (signed_nullable_at bytes)

-- it is judged once its stop bit has come, before NULL and all else
unfoldable pub integer_at : (level : Level) → Bool → Presence → List ℕ → Result (Nullable ℤ × List ℕ) FieldFault
integer_at level u p bytes = judged level 10 (overlong_number u) field_fault FieldFault.R6 (integer_usually_at u p) bytes

abbrev pub mantissa_entity_at : (level : Level) → List ℕ → Result (ℤ × List ℕ) FieldFault
mantissa_entity_at level bytes = judged level 10 overlong_signed field_fault FieldFault.R6 (λ b. in_field (signed_at b)) bytes

-- the limit of the entity that a string or vector begins with, and what is answered where it is overlong
abbrev pub entity_limit : Kind → ℕ
entity_limit Kind.Ascii = 65540
entity_limit k = 10

abbrev pub overlong_fault : Kind → FieldFault
overlong_fault Kind.Ascii = FieldFault.R9
overlong_fault k = FieldFault.R6

-- characters or bytes, of Unicode its bytes, in the form that is not nullable
abbrev pub part_usually_at : Kind → List ℕ → Result (List ℕ × List ℕ) FieldFault
part_usually_at Kind.Ascii bytes = in_field (ascii_at bytes)
part_usually_at k bytes = in_field (vector_at bytes)

unfoldable pub part_at : (level : Level) → Kind → List ℕ → Result (List ℕ × List ℕ) FieldFault
part_at level k bytes = judged level (entity_limit k) (overlong_units k Mandatory) field_fault (overlong_fault k) (part_usually_at k) bytes

-- and in the form of a presence
abbrev pub units_usually_at : Kind → Presence → List ℕ → Result (Nullable (List ℕ) × List ℕ) FieldFault
units_usually_at k Mandatory bytes = part_at Usual k bytes >>= λ x. Ok (Value x.0, x.1)
units_usually_at Kind.Ascii Optional bytes = in_field (ascii_nullable_at bytes)
units_usually_at k Optional bytes = in_field (vector_nullable_at bytes)

unfoldable pub units_at : (level : Level) → Kind → Presence → List ℕ → Result (Nullable (List ℕ) × List ℕ) FieldFault
units_at level k p bytes = judged level (entity_limit k) (overlong_units k p) field_fault (overlong_fault k) (units_usually_at k p) bytes

-- a number out of its type's bounds: of a part of a decimal it is the decimal that is out of range
abbrev pub range_fault : Part → FieldFault
range_fault Part.Exponent = FieldFault.R1
range_fault Part.Mantissa = FieldFault.R1
range_fault p = FieldFault.D2

-- a number as a value of an integer type
unfoldable pub integer_value : Part → Kind → ℤ → Result Scalar FieldFault
integer_value p k z = if in_range k z then Ok (of_integer k z) else Err (range_fault p)

-- an exponent and a mantissa as a decimal
unfoldable pub decimal_value : ℤ → ℤ → Result Scalar FieldFault
decimal_value e m = if in_range Kind.Int64 m then Ok (Decimal e m) else Err FieldFault.R1

-- characters or bytes as a value of their type
unfoldable pub unit_value : Kind → List ℕ → Result Scalar FieldFault
unit_value Kind.Unicode s = if is_utf8 s then Ok (of_units Kind.Unicode s) else Err FieldFault.R2
unit_value k s = Ok (of_units k s)

-- and within the limit on units
unfoldable pub limited_value : Kind → List ℕ → Result Scalar FieldFault
limited_value k s = if nat_lt 65535 (length s) then Err FieldFault.Limit else unit_value k s

-- NULL ends a reading, and the value is absent
abbrev pub unless_null : {A : Type 0} → Nullable A × List ℕ
    → (A → List ℕ → Result (Option Scalar × List ℕ) FieldFault)
    → Result (Option Scalar × List ℕ) FieldFault
unless_null (Null, rest) f = Ok (None, rest)
unless_null (Value x, rest) f = f x rest

abbrev pub as_value : Result Scalar FieldFault → List ℕ → Result (Option Scalar × List ℕ) FieldFault
as_value r rest = r >>= λ v. Ok (Some v, rest)

-- ---- What stands whole

unfoldable pub integer_spelled_at : (level : Level) → Part → Kind → Presence → List ℕ
    → Result (Option Scalar × List ℕ) FieldFault
integer_spelled_at level pt k p bytes = do
  z ← integer_at level (is_unsigned k) p bytes
  unless_null z (λ z. as_value (integer_value pt k z))

unfoldable pub mantissa_behind : (level : Level) → ℤ → List ℕ → Result (Option Scalar × List ℕ) FieldFault
mantissa_behind level e rest = do
  ok ← check (exponent_in_range e) FieldFault.R1
  m ← mantissa_entity_at level rest
  as_value (decimal_value e m.0) m.1

unfoldable pub decimal_spelled_at : (level : Level) → Presence → List ℕ → Result (Option Scalar × List ℕ) FieldFault
decimal_spelled_at level p bytes = do
  e ← integer_at level false p bytes
  unless_null e (mantissa_behind level)

unfoldable pub units_spelled_at : (level : Level) → Kind → Presence → List ℕ
    → Result (Option Scalar × List ℕ) FieldFault
units_spelled_at level k p bytes = do
  s ← units_at level k p bytes
  unless_null s (λ s. as_value (unit_value k s))

unfoldable pub spelled_at : (level : Level) → Part → Kind → Presence → List ℕ
    → Result (Option Scalar × List ℕ) FieldFault
spelled_at level pt Kind.Decimal p bytes = decimal_spelled_at level p bytes
spelled_at level pt Kind.Ascii p bytes = units_spelled_at level Kind.Ascii p bytes
spelled_at level pt Kind.Unicode p bytes = units_spelled_at level Kind.Unicode p bytes
spelled_at level pt Kind.Bytes p bytes = units_spelled_at level Kind.Bytes p bytes
spelled_at level pt k p bytes = integer_spelled_at level pt k p bytes

-- ---- Deltas. The base is asked for once a delta has come that is not NULL (own).

unfoldable pub integer_sum : FieldPart → Entry → ℤ → Result Scalar FieldFault
integer_sum i e d = do
  base ← delta_base i e
  integer_value i.part i.kind (integer_of base +ℤ d)

unfoldable pub integer_delta_at : (level : Level) → FieldPart → Entry → List ℕ
    → Result (Option Scalar × List ℕ) FieldFault
integer_delta_at level i e bytes = do
  d ← integer_at level false i.presence bytes
  unless_null d (λ d. as_value (integer_sum i e d))

unfoldable pub mantissa_delta_behind : (level : Level) → ℤ → ℤ → List ℕ → Result (Option Scalar × List ℕ) FieldFault
mantissa_delta_behind level e base rest = do
  ok ← check (exponent_in_range e) FieldFault.R1
  d ← mantissa_entity_at level rest
  as_value (decimal_value e (base +ℤ d.0)) d.1

unfoldable pub decimal_delta_at : (level : Level) → FieldPart → Entry → List ℕ
    → Result (Option Scalar × List ℕ) FieldFault
decimal_delta_at level i e bytes = do
  d ← integer_at level false i.presence bytes
  unless_null d (λ d rest. do
    base ← delta_base i e
    mantissa_delta_behind level (exponent_of base +ℤ d) (mantissa_of base) rest)

unfoldable pub new_part_behind : (level : Level) → Kind → ℤ → List ℕ → List ℕ
    → Result (Option Scalar × List ℕ) FieldFault
new_part_behind level k removal base rest = do
  there ← check (nat_le (removed_of removal) (length base)) FieldFault.D7
  s ← part_at level k rest
  as_value (limited_value k (put_together removal base s.0)) s.1

unfoldable pub unit_delta_at : (level : Level) → FieldPart → Entry → List ℕ
    → Result (Option Scalar × List ℕ) FieldFault
unit_delta_at level i e bytes = do
  removal ← integer_at level false i.presence bytes
  unless_null removal (λ removal rest. do
    fits ← check (in_range Kind.Int32 removal) FieldFault.D7
    base ← delta_base i e
    new_part_behind level i.kind removal (units_of base) rest)

unfoldable pub delta_at : (level : Level) → Kind → FieldPart → Entry → List ℕ
    → Result (Option Scalar × List ℕ) FieldFault
delta_at level Kind.Decimal i e bytes = decimal_delta_at level i e bytes
delta_at level Kind.Ascii i e bytes = unit_delta_at level i e bytes
delta_at level Kind.Unicode i e bytes = unit_delta_at level i e bytes
delta_at level Kind.Bytes i e bytes = unit_delta_at level i e bytes
delta_at level k i e bytes = integer_delta_at level i e bytes

-- ---- Tails. The base is asked for once a tail has come that is not NULL (own).

unfoldable pub ended_value : FieldPart → Entry → List ℕ → Result Scalar FieldFault
ended_value i e tail = do
  base ← tail_base i e
  limited_value i.kind (ended_by (units_of base) tail)

unfoldable pub tail_at : (level : Level) → FieldPart → Entry → List ℕ → Result (Option Scalar × List ℕ) FieldFault
tail_at level i e bytes = do
  tail ← units_at level i.kind i.presence bytes
  unless_null tail (λ tail. as_value (ended_value i e tail))

-- ---- The operators, by bit

unfoldable pub whole_at : (level : Level) → FieldPart → List ℕ → Result (Option Scalar × List ℕ) FieldFault
whole_at level i bytes = spelled_at level i.part i.kind i.presence bytes

unfoldable pub predicted_at : FieldPart → Entry → List ℕ
    → Result (Option Scalar × List ℕ) FieldFault
predicted_at i e bytes = predicted i e >>= λ v. Ok (v, bytes)

unfoldable pub row_at : (level : Level) → Operator → FieldPart → Entry → Bool → List ℕ
    → Result (Option Scalar × List ℕ) FieldFault
row_at level Operator.Plain i e bit bytes = whole_at level i bytes
row_at level Operator.Constant i e false bytes = Ok (None, bytes)
row_at level Operator.Constant i e true bytes = Ok (i.initial, bytes)
row_at level Operator.Default i e false bytes = Ok (i.initial, bytes)
row_at level Operator.Default i e true bytes = whole_at level i bytes
row_at level Operator.Copy i e false bytes = predicted_at i e bytes
row_at level Operator.Copy i e true bytes = whole_at level i bytes
row_at level Operator.Increment i e false bytes = predicted_at i e bytes
row_at level Operator.Increment i e true bytes = whole_at level i bytes
row_at level Operator.Delta i e bit bytes = delta_at level i.kind i e bytes
row_at level Operator.Tail i e false bytes = predicted_at i e bytes
row_at level Operator.Tail i e true bytes = tail_at level i e bytes

-- an exponent and a length are checked once more, also where bit 0 gave them
unfoldable pub part_checked : Part → Option Scalar → Result (Option Scalar) FieldFault
part_checked p None = Ok None
part_checked Part.Exponent (Some v) =
    if within_part Part.Exponent v then Ok (Some v) else Err FieldFault.R1
part_checked Part.Length (Some v) =
    if within_part Part.Length v then Ok (Some v) else Err FieldFault.Limit
part_checked p (Some v) = Ok (Some v)

-- the value and the bytes after it, or the first fault; want of memory is no fault of the bytes
unfoldable pub field_at : (level : Level) → FieldPart → Entry → Bool → List ℕ
    → Result (Option Scalar × List ℕ) FieldFault
field_at level i e bit bytes = do
  x ← row_at level i.operator i e bit bytes
  v ← part_checked i.part x.0
  Ok (v, x.1)

-- the first fault of a field under this bit on these bytes
abbrev pub IsFieldFault : (level : Level) → FieldPart → Entry → Bool → List ℕ → FieldFault → Type 0
IsFieldFault level i e bit rest f = field_at level i e bit rest ≡ Err f
