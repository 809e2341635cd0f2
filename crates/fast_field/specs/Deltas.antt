-- What a delta and a tail make of a base.
-- FAST 1.1, Field Operators, Delta Operator and Tail Operator.
use Rattle.std.specs.Prelude.{◌≡◌, ℕ, ◌-◌, ◌≤◌, ℤ, pos, negsuc, ◌+ℤ◌, false, List, ◌++◌, length, take, drop, Option, Ok, IsTrue}
use Rattle.fast_field.specs.Prelude.{Level, Null, Value, in_range, of_integer, Kind, Presence, FieldPart, Scalar, Entry}
use Rattle.fast_field.specs.Values.{integer_of, exponent_of, mantissa_of, units_of}
use Rattle.fast_field.specs.Bases.{delta_base, tail_base}
use Rattle.fast_field.specs.Spelled.{SpellsInteger, SpellsPart, SpellsUnits, IsOfUnits, SpellsPair, IsOfPair, OrNull}

-- ---- How a form cuts its base: on which side units are removed, and how many units the new part has.
-- (Own; it is what decides between forms of the same length.) What is not cut counts as removed at the end, with
-- no new part.

pub data Side : Type 0 where
  at_end : Side
  in_front : Side

pub record Cut : Type 0 where
  pub side : Side
  pub part : ℕ

abbrev pub uncut : Cut
uncut = record { side = at_end; part = 0 }

-- ---- Deltas. FAST 1.1, Field Operators, Delta Operator.

-- a subtraction length from 0 up removes so many units at the end; one below 0 removes -length - 1 units in front
abbrev pub removed_of : ℤ → ℕ
removed_of (pos n) = n
removed_of (negsuc n) = n

abbrev pub side_of : ℤ → Side
side_of (pos n) = at_end
side_of (negsuc n) = in_front

-- what a subtraction length leaves of the base, and the new part where units were removed
abbrev pub put_together : ℤ → List ℕ → List ℕ → List ℕ
put_together (pos n) base part = take (length base - n) base ++ part
put_together (negsuc n) base part = part ++ drop n base

-- few enough units, and they are the value
abbrev pub IsOfFewUnits : Kind → List ℕ → Scalar → Type 0
IsOfFewUnits k s v = (length s ≤ 65535) × IsOfUnits k s v

-- a string or vector: a subtraction length, which is an int32, in the form of a presence, followed by a new part
pub record SpellsCut (level : Level) (k : Kind) (p : Presence) (base : Scalar) (cut : Cut) (b : List ℕ)
    (v : Scalar) : Type 0 where
  pub removal : ℤ
  pub new_part : List ℕ
  pub front : List ℕ
  pub back : List ℕ
  pub parts : b ≡ front ++ back
  pub removal_form : SpellsInteger level false p front (Value removal)
  pub is_int32 : IsTrue (in_range Kind.Int32 removal)
  pub there : removed_of removal ≤ length (units_of base)
  pub part_form : SpellsPart level k back new_part
  pub value : IsOfFewUnits k (put_together removal (units_of base) new_part) v
  pub cut_is : cut ≡ record { side = side_of removal; part = length new_part }

-- an integer: what is added to the base; it has no range but that of its ten bytes
pub record SpellsDelta (level : Level) (k : Kind) (p : Presence) (base : Scalar) (cut : Cut) (b : List ℕ)
    (v : Scalar) : Type 0 where
  pub delta : ℤ
  pub form : SpellsInteger level false p b (Value delta)
  pub range : IsTrue (in_range k (integer_of base +ℤ delta))
  pub value : v ≡ of_integer k (integer_of base +ℤ delta)
  pub cut_is : cut ≡ uncut

-- a decimal: a delta of the exponent in the form of a presence, followed by one of the mantissa
pub record SpellsDeltas (level : Level) (p : Presence) (base : Scalar) (cut : Cut) (b : List ℕ)
    (v : Scalar) : Type 0 where
  pub exponent_delta : ℤ
  pub mantissa_delta : ℤ
  pub form : SpellsPair level p b exponent_delta mantissa_delta
  pub value : IsOfPair (exponent_of base +ℤ exponent_delta) (mantissa_of base +ℤ mantissa_delta) v
  pub cut_is : cut ≡ uncut

-- the value that a delta makes of a base
abbrev pub DeltaValue : (level : Level) → Kind → Presence → Scalar → Cut → List ℕ → Scalar → Type 0
DeltaValue level Kind.Decimal p base c b v = SpellsDeltas level p base c b v
DeltaValue level Kind.Ascii p base c b v = SpellsCut level Kind.Ascii p base c b v
DeltaValue level Kind.Unicode p base c b v = SpellsCut level Kind.Unicode p base c b v
DeltaValue level Kind.Bytes p base c b v = SpellsCut level Kind.Bytes p base c b v
DeltaValue level k p base c b v = SpellsDelta level k p base c b v

-- NULL, alone, is absent on every entry, and asks for no base; of a string it is the subtraction length's
abbrev pub DeltaForm : (level : Level) → FieldPart → Entry → Cut → List ℕ → Option Scalar → Type 0
DeltaForm level i e c = OrNull
    (λ b. (c ≡ uncut) × SpellsInteger level false i.presence b Null)
    (λ b v. (base : Scalar) × (delta_base i e ≡ Ok base) × DeltaValue level i.kind i.presence base c b v)

-- ---- Tails. FAST 1.1, Field Operators, Tail Operator.

-- the tail in place of as many units at the end of the base, or of all where there are fewer
abbrev pub ended_by : List ℕ → List ℕ → List ℕ
ended_by base tail = take (length base - length tail) base ++ tail

pub record SpellsTail (level : Level) (k : Kind) (p : Presence) (base : Scalar) (cut : Cut) (b : List ℕ)
    (v : Scalar) : Type 0 where
  pub tail : List ℕ
  pub tail_form : SpellsUnits level k p b (Value tail)
  pub value : IsOfFewUnits k (ended_by (units_of base) tail) v
  pub cut_is : cut ≡ record { side = at_end; part = length tail }

-- NULL is absent on every entry, and asks for no base
abbrev pub TailForm : (level : Level) → FieldPart → Entry → Cut → List ℕ → Option Scalar → Type 0
TailForm level i e c = OrNull
    (λ b. (c ≡ uncut) × SpellsUnits level i.kind i.presence b Null)
    (λ b v. (base : Scalar) × (tail_base i e ≡ Ok base) × SpellsTail level i.kind i.presence base c b v)
