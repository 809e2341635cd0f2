-- A field whose bytes are judged as they stand: they are the best form of their value, or bit 0 is. (Own.)
use Rattle.std.specs.Prelude.{◌≡◌, ◌≤◌, ◌+◌, ◌+ℤ◌, ℕ, ℤ, Bool, true, false, not, List, [], length, drop, slice_range, Option, Some, None, Ok, IsTrue, ⊤}
use Rattle.fast_take.specs.Prelude.{IsPlain, Usual, Value, is_of, of_integer, Kind, Operator, Part, Presence, Mandatory, Optional, Scalar, Ascii, FieldPart, Entry, Assigned, next, ShortestUnits, units_at, HasNumber, IsFieldNumber, left_out_of, SpellsIntegerUsually, overlong_number, is_unsigned, of_units}
use Rattle.fast_take.specs.Numbers.{SpellsWhole, Spelt}
use Rattle.fast_take.specs.Relayed.{Judges, Takes}
use Rattle.fast_take.specs.Texts.{GivesTail, IsText}
use Rattle.fast_take.specs.declared.judged.Judged.{Judged}
use Rattle.fast_take.specs.declared.judged.Judged.TheVariants.{Stands, Behind, BehindTwo, Given, Elsewhere}

-- bit 0 has no bytes
abbrev pub under : Bool → List ℕ → List ℕ
under true form = form
under false form = []

-- the bytes from one place to another give the value under bit 1, and the entry is the one afterwards: those from `first`
-- on are the value's best form, or its best form is bit 0 and no byte
abbrev pub JudgesFrom : Bool → FieldPart → Entry → Entry → Scalar → List ℕ → ℕ → ℕ → ℕ → Type 0
JudgesFrom bit i old new v bytes at first next =
    IsTrue (is_of i.kind v) × Judges bit (under bit (slice_range bytes first next)) i old new (Some v) (drop at bytes) (drop next bytes)

-- the same of some value
abbrev pub Gives : Bool → FieldPart → Entry → Entry → List ℕ → ℕ → ℕ → ℕ → Type 0
Gives bit i old new bytes at first next = (v : Scalar) × JudgesFrom bit i old new v bytes at first next

-- the bytes from one place to another, which are there, give a value and leave the entry afterwards: those from `first` on are
-- the value's best form, or bit 0 is
pub record JudgedTo (bit : Bool) (i : FieldPart) (old new : Entry) (bytes : List ℕ) (at first next : ℕ) : Type 0 where
  pub place : first ≤ next
  pub within : next ≤ length bytes
  pub gives : Gives bit i old new bytes at first next

-- what is answered of a field that was read under bit 1: its best form is the bytes as they stand, or those behind the first
-- one or two, or bit 0; or nothing has changed
abbrev pub IsJudged : FieldPart → Entry → Entry → List ℕ → ℕ → Judged → Type 0
IsJudged i old new bytes at (Stands next) = JudgedTo true i old new bytes at at next
IsJudged i old new bytes at (Behind next) = JudgedTo true i old new bytes at (at + 1) next
IsJudged i old new bytes at (BehindTwo next) = JudgedTo true i old new bytes at (at + 2) next
IsJudged i old new bytes at (Given next) = JudgedTo false i old new bytes at at next
IsJudged i old new bytes at Elsewhere = new ≡ old

-- ---- No public clause names these.

-- what holds of the bit of the best form, where what was read up to a place was judged, and what holds where it was not
abbrev pub IfFound : ℕ → Judged → (Bool → Type 0) → Type 0 → Type 0
IfFound next (Stands n) holds other = (n ≡ next) × holds true
IfFound next (Given n) holds other = (n ≡ next) × holds false
IfFound next (Behind n) holds other = ⊥
IfFound next (BehindTwo n) holds other = ⊥
IfFound next Elsewhere holds other = other

-- the best form stands behind the first byte or two, from a place on
abbrev pub IsBehind : ℕ → ℕ → ℕ → Judged → Type 0
IsBehind at first next (Behind n) = (n ≡ next) × (first ≡ at + 1)
IsBehind at first next (BehindTwo n) = (n ≡ next) × (first ≡ at + 2)
IsBehind at first next j = ⊥

-- what is answered where the best form has a bit: with bit 1 it stands from a place on
abbrev pub HasAnswer : ℕ → ℕ → ℕ → Option Bool → Judged → Type 0
HasAnswer at first next (Some true) (Stands n) = (n ≡ next) × (first ≡ at)
HasAnswer at first next (Some true) (Behind n) = (n ≡ next) × (first ≡ at + 1)
HasAnswer at first next (Some true) (BehindTwo n) = (n ≡ next) × (first ≡ at + 2)
HasAnswer at first next (Some false) (Given n) = n ≡ next
HasAnswer at first next None Elsewhere = ⊤
HasAnswer at first next bit j = ⊥

-- the entry is the one after a value, or NULL, and bit 0 gives it exactly if it is the bit of the best form
pub record Leaves (bit : Bool) (i : FieldPart) (old new : Entry) (v : Option Scalar) : Type 0 where
  pub entry : new ≡ next i old v
  pub left_out : left_out_of i.operator i old v ≡ not bit

-- the best form of a value that was sent whole, or of NULL, has this bit: bit 0 gives another one, or it gives this one and leaves
-- the entry as it is
abbrev pub HasBit : FieldPart → Entry → Option Scalar → Option Bool → Type 0
HasBit i e v (Some true) = left_out_of i.operator i e v ≡ false
HasBit i e v (Some false) = Leaves false i e e v
HasBit i e v None = ⊤

-- a difference is added to the number that the entry has, and the sum is one that the field can have
pub record Adds (k : Kind) (p : Part) (d : ℤ) (old new : Entry) : Type 0 where
  pub number : ℤ
  pub kept : HasNumber k old number
  pub sum : IsFieldNumber k p (number +ℤ d)
  pub entry : new ≡ Assigned (of_integer k (number +ℤ d))

-- the bytes from one place to another spell a number, and those from `first` on are its shortest form
pub record StandsFrom (unsigned : Bool) (p : Presence) (bytes : List ℕ) (at first next : ℕ) (z : ℤ) : Type 0 where
  pub spelt : Spelt unsigned p (drop at bytes) z (drop next bytes)
  pub form : SpellsIntegerUsually unsigned p (slice_range bytes first next) (Value z)
  pub short : overlong_number unsigned (slice_range bytes first next) ≡ false

-- all of them are
abbrev pub StandsAt : Bool → Presence → List ℕ → ℕ → ℕ → ℤ → Type 0
StandsAt unsigned p bytes at next z = StandsFrom unsigned p bytes at at next z

-- the bytes from one place to another spell a string or vector, whose own bytes are these, and those from `first` on are its
-- shortest form if it is within its type
pub record UnitsStand (k : Kind) (p : Presence) (bytes : List ℕ) (at first next : ℕ) (part : List ℕ) : Type 0 where
  pub spelt : units_at Usual k p (drop at bytes) ≡ Ok (Value part, drop next bytes)
  pub shortest : IsText k (of_units k part) → ShortestUnits k p part (slice_range bytes first next)

-- its own bytes are those from `start` on
abbrev pub UnitsStandFrom : Kind → Presence → List ℕ → ℕ → ℕ → ℕ → ℕ → Type 0
UnitsStandFrom k p bytes at first start next = UnitsStand k p bytes at first next (slice_range bytes start next)

-- the byte that spells 0, as a number with a sign and without
abbrev pub zero_byte : Presence → ℕ
zero_byte Mandatory = 128
zero_byte Optional = 129

-- the bytes from one place to another spell an exponent and, behind it, a mantissa, and those from `first` on are their
-- shortest forms
pub record PairStandsFrom (p : Presence) (bytes : List ℕ) (at first next : ℕ) (e m : ℤ) : Type 0 where
  pub middle : ℕ
  pub before : first ≤ middle
  pub behind : middle ≤ next
  pub exponent : StandsFrom false p bytes at first middle e
  pub mantissa : StandsAt false Mandatory bytes middle next m

-- wherever these numbers stand as an exponent and a mantissa, the best form of what they give has this bit
abbrev pub PairGives : Bool → FieldPart → Entry → Entry → ℤ → ℤ → Type 0
PairGives bit i old new e m = (bytes : List ℕ) (at first next : ℕ) → PairStandsFrom i.presence bytes at first next e m → Gives bit i old new bytes at first next

-- wherever these bytes stand behind their length, the best form of what they give has this bit
abbrev pub UnitsGive : Bool → FieldPart → Entry → Entry → List ℕ → Type 0
UnitsGive bit i old new part = (bytes : List ℕ) (at first next : ℕ) → UnitsStand i.kind i.presence bytes at first next part → Gives bit i old new bytes at first next

-- wherever these characters stand in their shortest form, the best form of the string has this bit
abbrev pub TextGives : Bool → FieldPart → Entry → Entry → List ℕ → Type 0
TextGives bit i old new form =
    (bytes : List ℕ) (at first next : ℕ) → slice_range bytes first next ≡ form → IsPlain (drop at bytes) form (drop next bytes) → Gives bit i old new bytes at first next

-- wherever these characters stand as a new end of the text, the best form of the string has this bit
abbrev pub EndGives : Bool → FieldPart → List ℕ → List ℕ → List ℕ → Type 0
EndGives bit i base text form =
    (bytes : List ℕ) (at first next : ℕ) → slice_range bytes first next ≡ form → GivesTail i base (drop at bytes) form (drop next bytes) → Gives bit i (Assigned (Ascii base)) (Assigned (Ascii text)) bytes at first next

-- the same of a number that was spelled whole, and is one that the field can have
pub record LeavesWhole (bit : Bool) (k : Kind) (p : Part) (i : FieldPart) (old new : Entry) (z : ℤ) : Type 0 where
  pub whole : SpellsWhole i.operator
  pub number : IsFieldNumber k p z
  pub leaves : Leaves bit i old new (Some (of_integer k z))

-- whether what is sent of an integer has no sign: a difference has one
abbrev pub sent_unsigned : Operator → Kind → Bool
sent_unsigned Operator.Delta k = false
sent_unsigned o k = is_unsigned k

-- wherever this number is spelled, it gives a value, and wherever its shortest form stands, the best form of that has this bit
pub record NumberGives (bit : Bool) (k : Kind) (i : FieldPart) (old new : Entry) (z : ℤ) : Type 0 where
  pub takes : (bytes rest : List ℕ) → Spelt (sent_unsigned i.operator k) i.presence bytes z rest → (v : Scalar) × Takes i old new v bytes rest
  pub gives : (bytes : List ℕ) (at first next : ℕ) → StandsFrom (sent_unsigned i.operator k) i.presence bytes at first next z → Gives bit i old new bytes at first next
