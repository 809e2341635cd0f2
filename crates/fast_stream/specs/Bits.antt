-- The bits that instructions take of the presence map around them.
-- FAST 1.1, Transfer Encoding, Presence Map.
use Rattle.std.specs.Prelude.{ℕ, ◌+◌, Bool, true, false, List, None}
use Rattle.fast_stream.specs.Prelude.{Instruction, Instructions, whole_field, field_in_parts, group_of, sequence_of, no_instructions, then_instruction, part_needs_bit, is_optional, next_bit, later_bits}
use Rattle.fast_stream.specs.Nodes.{Item, single, Items, no_items, then_item}

-- the bit of a piece that takes one, or takes none: the next bit of the map, or 1
abbrev pub bit_for : Bool → List Bool → Bool
bit_for true bits = next_bit bits
bit_for false bits = true

-- the bits that are left behind it
abbrev pub after_bit : Bool → List Bool → List Bool
after_bit true bits = later_bits bits
after_bit false bits = bits

abbrev pub bits_taken : Bool → ℕ
bits_taken true = 1
bits_taken false = 0

-- How many bits an instruction takes. The mantissa of a decimal takes its bit only if the exponent is present;
-- what stands inside a group or an element takes bits of a map of its own.
abbrev pub takes_one : Instruction → Item → ℕ
takes_one (whole_field name number presence whole) n = bits_taken (part_needs_bit whole)
takes_one (field_in_parts name number presence exponent mantissa) (single None) = bits_taken (part_needs_bit exponent)
takes_one (field_in_parts name number presence exponent mantissa) n = bits_taken (part_needs_bit exponent) + bits_taken (part_needs_bit mantissa)
takes_one (group_of name number presence members) n = bits_taken (is_optional presence)
takes_one (sequence_of name number presence length members) n = bits_taken (part_needs_bit length)

-- how many bits a list takes
abbrev pub takes : Instructions → Items → ℕ
takes no_instructions ns = 0
takes (then_instruction i is) no_items = 0
takes (then_instruction i is) (then_item n ns) = takes_one i n + takes is ns
