-- The first fault of a field, each check behind what stands before it and passed.
-- FAST 1.1, Field Operators, and Transfer Encoding, Field Encoding. The order of the checks is this project's own.
use Rattle.std.specs.Prelude.{◌≡◌, ◌<◌, ◌≤◌, ◌⊎◌, ℕ, ℤ, ◌+ℤ◌, Bool, true, false, List, ◌++◌, length, Option, Some, None, Ok, Err}
use Rattle.std.specs.Str.{is_utf8}
use Rattle.fast_wire.specs.Entity.{IsEntity}
use Rattle.fast_wire.specs.Reading.{EntityFault}
use Rattle.fast_wire.specs.Ascii.{IsAsciiEntity, IsAsciiEntityNullable}
use Rattle.fast_wire.specs.Vector.{IsLengthNullable}
use Rattle.fast_wire.specs.declared.level.Level.TheVariants.{Strict}
use Rattle.fast_wire.specs.Integer.{IsUnsigned}
use Rattle.fast_wire.specs.Nullable.{units}
use Rattle.fast_field.specs.Prelude.{overlong_signed, Level, Usual, WireFault, Value, in_range, exponent_in_range, Kind, Operator, Part, Presence, Mandatory, Optional, FieldPart, Scalar, Entry}
use Rattle.fast_field.specs.declared.fault.FieldFault.{FieldFault}
use Rattle.fast_field.specs.Faults.{field_fault}
use Rattle.fast_field.specs.Values.{is_unsigned, integer_of, exponent_of, mantissa_of, units_of}
use Rattle.fast_field.specs.Bases.{delta_base, tail_base, predicted}
use Rattle.fast_field.specs.Deltas.{Cut, removed_of, put_together, ended_by}
use Rattle.fast_field.specs.Spelled.{SpellsInteger, SpellsMantissa, SpellsPart, SpellsUnits, overlong_number, overlong_units}
use Rattle.fast_field.specs.Fields.{FormOf, within_part}
use Rattle.fast_field.specs.FieldReading.{entity_limit, overlong_fault, range_fault}

-- a form of a value stands there, and of the bytes behind it this is so
pub record Behind {V : Type 0} (Form : List ℕ → V → Type 0) (Next : V → List ℕ → Type 0) (bytes : List ℕ) : Type 0 where
  pub value : V
  pub front : List ℕ
  pub rest : List ℕ
  pub parts : bytes ≡ front ++ rest
  pub form : Form front value
  pub next : Next value rest

-- ---- entities

-- the bytes begin with an entity within the limit that is overlong
pub record BeginsOverlong (limit : ℕ) (overlong : List ℕ → Bool) (bytes : List ℕ) : Type 0 where
  pub entity : List ℕ
  pub behind : List ℕ
  pub parts : bytes ≡ entity ++ behind
  pub is_entity : IsEntity entity
  pub short : length entity ≤ limit
  pub is_long : overlong entity ≡ true

-- At the strict level an overlong entity is the fault, before all that is a fault at the usual level.
abbrev pub StopsAtLevel : Level → ℕ → (List ℕ → Bool) → FieldFault → (List ℕ → FieldFault → Type 0) → List ℕ → FieldFault → Type 0
StopsAtLevel Usual limit overlong fault StopsUsually bytes f = StopsUsually bytes f
StopsAtLevel Strict limit overlong fault StopsUsually bytes f =
    ((f ≡ fault) × BeginsOverlong limit overlong bytes) ⊎ ((BeginsOverlong limit overlong bytes → ⊥) × StopsUsually bytes f)

-- the bytes end before a stop bit, or the limit passes without one
abbrev pub NoEntity : ℕ → List ℕ → FieldFault → Type 0
NoEntity limit bytes f = (w : WireFault) × EntityFault limit bytes 0 w × (f ≡ field_fault w)

abbrev pub IntegerStops : Level → Bool → List ℕ → FieldFault → Type 0
IntegerStops level u = StopsAtLevel level 10 (overlong_number u) FieldFault.R6 (NoEntity 10)

abbrev pub MantissaStops : Level → List ℕ → FieldFault → Type 0
MantissaStops level = StopsAtLevel level 10 overlong_signed FieldFault.R6 (NoEntity 10)

-- a length past its limit, or else more than the bytes that have come
abbrev pub LengthStops : ℕ → List ℕ → FieldFault → Type 0
LengthStops n rest f = ((65535 < n) × (f ≡ FieldFault.Limit)) ⊎ ((n ≤ 65535) × (length rest < n) × (f ≡ FieldFault.NeedMore))

-- of an ASCII string the entity, and then its limit on characters; else the length's entity, and then what it counts
abbrev pub UnitsStopUsually : Kind → Presence → List ℕ → FieldFault → Type 0
UnitsStopUsually Kind.Ascii Mandatory b f = NoEntity 65540 b f ⊎ Behind IsAsciiEntity (λ s rest. (65535 < length s) × (f ≡ FieldFault.Limit)) b
UnitsStopUsually Kind.Ascii Optional b f = NoEntity 65540 b f ⊎ Behind IsAsciiEntityNullable (λ s rest. (65535 < units s) × (f ≡ FieldFault.Limit)) b
UnitsStopUsually k Mandatory b f = NoEntity 10 b f ⊎ Behind IsUnsigned (λ n rest. LengthStops n rest f) b
UnitsStopUsually k Optional b f = NoEntity 10 b f ⊎ Behind IsLengthNullable (λ n rest. LengthStops n rest f) b

abbrev pub UnitsStop : Level → Kind → Presence → List ℕ → FieldFault → Type 0
UnitsStop level k p = StopsAtLevel level (entity_limit k) (overlong_units k p) (overlong_fault k) (UnitsStopUsually k p)

-- ---- values

abbrev pub IsOutOfRange : Part → Kind → ℤ → FieldFault → Type 0
IsOutOfRange pt k z f = (in_range k z ≡ false) × (f ≡ range_fault pt)

abbrev pub IsNoUtf8 : Kind → List ℕ → FieldFault → Type 0
IsNoUtf8 Kind.Unicode s f = (is_utf8 s ≡ false) × (f ≡ FieldFault.R2)
IsNoUtf8 k s f = ⊥

-- what a delta or a tail makes has too many units, or else is no UTF-8
abbrev pub IsNoResult : Kind → List ℕ → FieldFault → Type 0
IsNoResult k s f = ((65535 < length s) × (f ≡ FieldFault.Limit)) ⊎ ((length s ≤ 65535) × IsNoUtf8 k s f)

-- ---- what stands whole: a check of the value comes once it is not NULL

abbrev pub IntegerWholeStops : Level → Part → Kind → Presence → List ℕ → FieldFault → Type 0
IntegerWholeStops level pt k p bytes f =
    IntegerStops level (is_unsigned k) bytes f
    ⊎ Behind (λ b z. SpellsInteger level (is_unsigned k) p b (Value z)) (λ z rest. IsOutOfRange pt k z f) bytes

abbrev pub UnitsWholeStop : Level → Kind → Presence → List ℕ → FieldFault → Type 0
UnitsWholeStop level k p bytes f =
    UnitsStop level k p bytes f ⊎ Behind (λ b s. SpellsUnits level k p b (Value s)) (λ s rest. IsNoUtf8 k s f) bytes

-- an exponent out of its range, then the mantissa's entity, and then the mantissa, of what it is added to
abbrev pub BehindExponent : Level → ℤ → (ℤ → ℤ) → List ℕ → FieldFault → Type 0
BehindExponent level exponent mantissa_by rest f =
    ((exponent_in_range exponent ≡ false) × (f ≡ FieldFault.R1))
    ⊎ ((exponent_in_range exponent ≡ true)
    × (MantissaStops level rest f ⊎ Behind (SpellsMantissa level) (λ m back. (in_range Kind.Int64 (mantissa_by m) ≡ false) × (f ≡ FieldFault.R1)) rest))

abbrev pub DecimalWholeStops : Level → Presence → List ℕ → FieldFault → Type 0
DecimalWholeStops level p bytes f =
    IntegerStops level false bytes f ⊎ Behind (λ b z. SpellsInteger level false p b (Value z)) (λ z rest. BehindExponent level z (λ m. m) rest f) bytes

abbrev pub WholeStops : Level → Part → Kind → Presence → List ℕ → FieldFault → Type 0
WholeStops level pt Kind.Decimal p = DecimalWholeStops level p
WholeStops level pt Kind.Ascii p = UnitsWholeStop level Kind.Ascii p
WholeStops level pt Kind.Unicode p = UnitsWholeStop level Kind.Unicode p
WholeStops level pt Kind.Bytes p = UnitsWholeStop level Kind.Bytes p
WholeStops level pt k p = IntegerWholeStops level pt k p

-- ---- deltas and tails: the base is asked for once one has come that is not NULL

abbrev pub IntegerDeltaStops : Level → FieldPart → Entry → List ℕ → FieldFault → Type 0
IntegerDeltaStops level i e bytes f =
    IntegerStops level false bytes f
    ⊎ Behind (λ b z. SpellsInteger level false i.presence b (Value z))
    (λ d rest. (delta_base i e ≡ Err f) ⊎ ((base : Scalar) × (delta_base i e ≡ Ok base) × IsOutOfRange i.part i.kind (integer_of base +ℤ d) f)) bytes

abbrev pub DecimalDeltaStops : Level → FieldPart → Entry → List ℕ → FieldFault → Type 0
DecimalDeltaStops level i e bytes f =
    IntegerStops level false bytes f
    ⊎ Behind (λ b z. SpellsInteger level false i.presence b (Value z))
    (λ d rest. (delta_base i e ≡ Err f) ⊎ ((base : Scalar) × (delta_base i e ≡ Ok base) × BehindExponent level (exponent_of base +ℤ d) (λ m. mantissa_of base +ℤ m) rest f)) bytes

-- a subtraction length removes more than there is; or the new part stops; or what is put together is no value
abbrev pub NewPartStops : Level → Kind → ℤ → List ℕ → List ℕ → FieldFault → Type 0
NewPartStops level k removal base rest f =
    ((length base < removed_of removal) × (f ≡ FieldFault.D7))
    ⊎ ((removed_of removal ≤ length base)
    × (UnitsStop level k Mandatory rest f ⊎ Behind (SpellsPart level k) (λ s back. IsNoResult k (put_together removal base s) f) rest))

-- it is no int32, before its base is asked for
abbrev pub UnitDeltaStops : Level → FieldPart → Entry → List ℕ → FieldFault → Type 0
UnitDeltaStops level i e bytes f =
    IntegerStops level false bytes f
    ⊎ Behind (λ b z. SpellsInteger level false i.presence b (Value z))
    (λ removal rest. ((in_range Kind.Int32 removal ≡ false) × (f ≡ FieldFault.D7))
    ⊎ ((in_range Kind.Int32 removal ≡ true)
    × ((delta_base i e ≡ Err f) ⊎ ((base : Scalar) × (delta_base i e ≡ Ok base) × NewPartStops level i.kind removal (units_of base) rest f)))) bytes

abbrev pub DeltaStops : Level → Kind → FieldPart → Entry → List ℕ → FieldFault → Type 0
DeltaStops level Kind.Decimal i e = DecimalDeltaStops level i e
DeltaStops level Kind.Ascii i e = UnitDeltaStops level i e
DeltaStops level Kind.Unicode i e = UnitDeltaStops level i e
DeltaStops level Kind.Bytes i e = UnitDeltaStops level i e
DeltaStops level k i e = IntegerDeltaStops level i e

abbrev pub TailStops : Level → FieldPart → Entry → List ℕ → FieldFault → Type 0
TailStops level i e bytes f =
    UnitsStop level i.kind i.presence bytes f
    ⊎ Behind (λ b s. SpellsUnits level i.kind i.presence b (Value s))
    (λ tail rest. (tail_base i e ≡ Err f) ⊎ ((base : Scalar) × (tail_base i e ≡ Ok base) × IsNoResult i.kind (ended_by (units_of base) tail) f)) bytes

-- ---- the operators, by bit

abbrev pub RowStops : Level → Operator → FieldPart → Entry → Bool → List ℕ → FieldFault → Type 0
RowStops level Operator.Constant i e bit bytes f = ⊥
RowStops level Operator.Default i e false bytes f = ⊥
RowStops level Operator.Copy i e false bytes f = predicted i e ≡ Err f
RowStops level Operator.Increment i e false bytes f = predicted i e ≡ Err f
RowStops level Operator.Tail i e false bytes f = predicted i e ≡ Err f
RowStops level Operator.Tail i e true bytes f = TailStops level i e bytes f
RowStops level Operator.Delta i e bit bytes f = DeltaStops level i.kind i e bytes f
RowStops level o i e bit bytes f = WholeStops level i.part i.kind i.presence bytes f

-- an exponent or a length past its limit
abbrev pub IsPastLimit : Part → Option Scalar → FieldFault → Type 0
IsPastLimit p None f = ⊥
IsPastLimit Part.Exponent (Some v) f = (within_part Part.Exponent v ≡ false) × (f ≡ FieldFault.R1)
IsPastLimit Part.Length (Some v) f = (within_part Part.Length v ≡ false) × (f ≡ FieldFault.Limit)
IsPastLimit p (Some v) f = ⊥

-- Under this bit a field has this fault: its row's, or that of the limit of its part, which is looked at last.
abbrev pub FieldStops : Level → FieldPart → Entry → Bool → List ℕ → FieldFault → Type 0
FieldStops level i e bit bytes f =
    RowStops level i.operator i e bit bytes f
    ⊎ Behind (λ b v. (cut : Cut) × FormOf level i.operator i e bit cut b v) (λ v rest. IsPastLimit i.part v f) bytes
