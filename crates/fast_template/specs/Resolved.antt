-- Resolved templates, and the bits that their instructions ask for.
-- FAST 1.1, Templates, and Transfer Encoding, Presence Map. The numbers of instructions are this project's own.
use Rattle.std.specs.Prelude.{ℕ, ◌+◌, max, List, [], ◌∷◌, ◌++◌, map, Bool, true, false, ◌||◌, Option}
use Rattle.fast_value.specs.declared.kind.Presence.{Presence}
use Rattle.fast_value.specs.declared.kind.Presence.TheVariants.{Mandatory, Optional}
use Rattle.fast_value.specs.declared.kind.Operator.{Operator}
use Rattle.fast_value.specs.declared.kind.Operator.TheVariants.{Plain, Constant, Default, Copy, Increment, Delta, Tail}
use Rattle.fast_value.specs.declared.key.Key.{Key}
use Rattle.fast_template.specs.declared.resolved.FieldPart.{FieldPart}
use Rattle.fast_template.specs.declared.resolved.FlatTemplate.{FlatTemplate}
use Rattle.fast_template.specs.declared.resolved.Flat.{Flat, fold-Flat}
use Rattle.fast_template.specs.declared.resolved.Flat.TheOpen.{Flat-F}

-- An instruction has a name, a number and a presence, then its parts and its members.
mutual
  pub data Instruction : Type 0 where
    whole_field : List ℕ → ℕ → Presence → FieldPart → Instruction
    field_in_parts : List ℕ → ℕ → Presence → FieldPart → FieldPart → Instruction
    group_of : List ℕ → ℕ → Presence → Instructions → Instruction
    sequence_of : List ℕ → ℕ → Presence → FieldPart → Instructions → Instruction

  pub data Instructions : Type 0 where
    no_instructions : Instructions
    then_instruction : Instruction → Instructions → Instructions

abbrev pub instructions_of : List Instruction → Instructions
instructions_of [] = no_instructions
instructions_of (i ∷ is) = then_instruction i (instructions_of is)

-- one level, with each member already seen
abbrev pub flat_step : Flat-F Instruction → Instruction
flat_step (Flat-F.Field name number presence whole) = whole_field name number presence whole
flat_step (Flat-F.Parts name number presence exponent mantissa) = field_in_parts name number presence exponent mantissa
flat_step (Flat-F.Group name number presence members) = group_of name number presence (instructions_of members.items)
flat_step (Flat-F.Sequence name number presence length members) = sequence_of name number presence length (instructions_of members.items)

-- what a resolved instruction and a list of them are to contracts
abbrev pub instruction_of : Flat → Instruction
instruction_of = fold-Flat Instruction flat_step

abbrev pub list_of : List Flat → Instructions
list_of flats = instructions_of (map instruction_of flats)

-- a resolved template
pub record Resolved : Type 0 where
  pub id : Option ℕ
  pub name : List ℕ
  pub members : Instructions

abbrev pub resolved_of : FlatTemplate → Resolved
resolved_of t = record { id = t.id; name = t.name; members = list_of t.members.items }

-- ---- bits of the presence map

-- whether a part asks for a bit, by its operator and presence
abbrev pub operator_needs_bit : Operator → Presence → Bool
operator_needs_bit Plain presence = false
operator_needs_bit Constant Mandatory = false
operator_needs_bit Constant Optional = true
operator_needs_bit Default presence = true
operator_needs_bit Copy presence = true
operator_needs_bit Increment presence = true
operator_needs_bit Delta presence = false
operator_needs_bit Tail presence = true

abbrev pub part_needs_bit : FieldPart → Bool
part_needs_bit p = operator_needs_bit p.operator p.presence

abbrev pub is_optional : Presence → Bool
is_optional Mandatory = false
is_optional Optional = true

-- whether the first part of an instruction asks for a bit, or an optional group does
abbrev pub needs_bit : Instruction → Bool
needs_bit (whole_field name number presence whole) = part_needs_bit whole
needs_bit (field_in_parts name number presence exponent mantissa) = part_needs_bit exponent
needs_bit (group_of name number presence members) = is_optional presence
needs_bit (sequence_of name number presence length members) = part_needs_bit length

-- whether an instruction can take a bit of the map around it; a mantissa's counts too
abbrev pub takes_bit : Instruction → Bool
takes_bit (whole_field name number presence whole) = part_needs_bit whole
takes_bit (field_in_parts name number presence exponent mantissa) = part_needs_bit exponent || part_needs_bit mantissa
takes_bit (group_of name number presence members) = is_optional presence
takes_bit (sequence_of name number presence length members) = part_needs_bit length

-- a segment of these instructions begins with a map exactly if one directly in it takes a bit
abbrev pub has_map : Instructions → Bool
has_map no_instructions = false
has_map (then_instruction i is) = takes_bit i || has_map is

-- ---- size, depth, keys and numbers

-- how many instructions, those inside groups and sequences too
abbrev mutual
  pub size_of_one : Instruction → ℕ
  size_of_one (whole_field name number presence whole) = 1
  size_of_one (field_in_parts name number presence exponent mantissa) = 1
  size_of_one (group_of name number presence members) = 1 + size_of members
  size_of_one (sequence_of name number presence length members) = 1 + size_of members

  pub size_of : Instructions → ℕ
  size_of no_instructions = 0
  size_of (then_instruction i is) = size_of_one i + size_of is

-- in how many levels groups and sequences nest
abbrev mutual
  pub depth_of_one : Instruction → ℕ
  depth_of_one (whole_field name number presence whole) = 0
  depth_of_one (field_in_parts name number presence exponent mantissa) = 0
  depth_of_one (group_of name number presence members) = 1 + depth_of members
  depth_of_one (sequence_of name number presence length members) = 1 + depth_of members

  pub depth_of : Instructions → ℕ
  depth_of no_instructions = 0
  depth_of (then_instruction i is) = max (depth_of_one i) (depth_of is)

-- the keys of all parts, in order
abbrev mutual
  pub keys_of_one : Instruction → List Key
  keys_of_one (whole_field name number presence whole) = whole.key ∷ []
  keys_of_one (field_in_parts name number presence exponent mantissa) = exponent.key ∷ mantissa.key ∷ []
  keys_of_one (group_of name number presence members) = keys_of members
  keys_of_one (sequence_of name number presence length members) = length.key ∷ keys_of members

  pub keys_of : Instructions → List Key
  keys_of no_instructions = []
  keys_of (then_instruction i is) = keys_of_one i ++ keys_of is

-- the same instructions, numbered from n on, depth first, a group or sequence before its members
abbrev mutual
  pub numbered_one : ℕ → Instruction → Instruction
  numbered_one n (whole_field name number presence whole) = whole_field name n presence (record whole { number = n })
  numbered_one n (field_in_parts name number presence exponent mantissa) = field_in_parts name n presence (record exponent { number = n }) (record mantissa { number = n })
  numbered_one n (group_of name number presence members) = group_of name n presence (numbered (n + 1) members)
  numbered_one n (sequence_of name number presence length members) = sequence_of name n presence (record length { number = n }) (numbered (n + 1) members)

  pub numbered : ℕ → Instructions → Instructions
  numbered n no_instructions = no_instructions
  numbered n (then_instruction i is) = then_instruction (numbered_one n i) (numbered (n + size_of_one i) is)

-- the same instructions, with what f makes of each key
abbrev pub with_key : (Key → Key) → FieldPart → FieldPart
with_key f p = record p { key = f p.key }

abbrev mutual
  pub with_keys_of_one : (Key → Key) → Instruction → Instruction
  with_keys_of_one f (whole_field name number presence whole) = whole_field name number presence (with_key f whole)
  with_keys_of_one f (field_in_parts name number presence exponent mantissa) = field_in_parts name number presence (with_key f exponent) (with_key f mantissa)
  with_keys_of_one f (group_of name number presence members) = group_of name number presence (with_keys f members)
  with_keys_of_one f (sequence_of name number presence length members) = sequence_of name number presence (with_key f length) (with_keys f members)

  pub with_keys : (Key → Key) → Instructions → Instructions
  with_keys f no_instructions = no_instructions
  with_keys f (then_instruction i is) = then_instruction (with_keys_of_one f i) (with_keys f is)

-- one list after the other
abbrev pub joined : Instructions → Instructions → Instructions
joined no_instructions js = js
joined (then_instruction i is) js = then_instruction i (joined is js)
