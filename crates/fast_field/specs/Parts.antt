-- The instructions that the calls and laws of fields speak of.
-- FAST 1.1, Templates, and Transfer Encoding, Presence Map.
use Rattle.std.specs.Prelude.{◌≡◌, Bool, true, false, IsSome}
use Rattle.fast_field.specs.Prelude.{Instruction, Instructions, whole_field, field_in_parts, group_of, sequence_of, no_instructions, then_instruction, part_needs_bit, IsTyped, Kind, Operator, Part, Mandatory, FieldPart}

-- a bit that a field can have: without one it is true
abbrev pub IsBitOf : FieldPart → Bool → Type 0
IsBitOf i bit = part_needs_bit i ≡ false → bit ≡ true

-- a mandatory default has an initial value
abbrev pub HasDefault : FieldPart → Type 0
HasDefault i = i.operator ≡ Operator.Default → i.presence ≡ Mandatory → IsSome i.initial

-- an exponent is an int32, a mantissa an int64, a length a uInt32
abbrev pub IsKindOfPart : Part → Kind → Type 0
IsKindOfPart Part.Whole k = Unit {0}
IsKindOfPart Part.Exponent k = k ≡ Kind.Int32
IsKindOfPart Part.Mantissa k = k ≡ Kind.Int64
IsKindOfPart Part.Length k = k ≡ Kind.UInt32

pub record IsFieldPart (i : FieldPart) : Type 0 where
  pub typed : IsTyped i
  pub kind_of_part : IsKindOfPart i.part i.kind

-- it holds of each part of an instruction and of its members
abbrev mutual
  pub EachPart : (FieldPart → Type 0) → Instruction → Type 0
  EachPart P (whole_field name number presence whole) = P whole
  EachPart P (field_in_parts name number presence exponent mantissa) = P exponent × P mantissa
  EachPart P (group_of name number presence members) = EachPartIn P members
  EachPart P (sequence_of name number presence length members) = P length × EachPartIn P members

  pub EachPartIn : (FieldPart → Type 0) → Instructions → Type 0
  EachPartIn P no_instructions = Unit {0}
  EachPartIn P (then_instruction i is) = EachPart P i × EachPartIn P is
