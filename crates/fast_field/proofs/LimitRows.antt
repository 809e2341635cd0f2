-- Worked rows by limit and by base: what one field reads, computed by the definitions.
use Rattle.fast_field.proofs.Common.{◌^◌, ◌-◌, true, false, [], ◌∷◌, Some, None, pos, negsuc, refl, codes, entity_at, unsigned_at, signed_at, unsigned_nullable_at, signed_nullable_at, ascii_at, bytes_at, vector_at, Kind, Mandatory, Optional, Plain, Default, Copy, Increment, Delta, Tail, Exponent, Mantissa, Length, U32, I32, U64, I64, Ascii, Undefined, Empty, Assigned, FieldFault, integer_at, part_at, units_at, integer_value, unit_value, integer_spelled_at, spelled_at, integer_delta_at, integer_sum, new_part_behind, unit_delta_at, delta_at, tail_at, ended_value, limited_value, whole_at, predicted_at, row_at, part_checked, field_at}
use Rattle.fast_field.proofs.WorkedFields.{Hold, reads, fails, part_of, field, field_with, text, number}

-- ---- parts of decimals and lengths

parts : Hold (
    -- a mantissa part out of int64 is a decimal out of range, and an integer is an integer out of range
    fails (part_of Mantissa Kind.Int64 Mandatory Plain None) Undefined true (0x01 ∷ 0x00 ∷ 0x00 ∷ 0x00 ∷ 0x00 ∷ 0x00 ∷ 0x00 ∷ 0x00 ∷ 0x00 ∷ 0x80 ∷ []) FieldFault.R1 ∷  -- mantissa_part
    fails (field Kind.Int64 Mandatory Plain) Undefined true (0x01 ∷ 0x00 ∷ 0x00 ∷ 0x00 ∷ 0x00 ∷ 0x00 ∷ 0x00 ∷ 0x00 ∷ 0x00 ∷ 0x80 ∷ []) FieldFault.D2 ∷  -- whole_int64
    fails (part_of Mantissa Kind.Int64 Mandatory Delta None) (Assigned (I64 (pos (2 ^ 63 - 1)))) true (0x81 ∷ []) FieldFault.R1 ∷  -- mantissa_part_by_delta
    -- a mantissa has no limit but its type's
    reads (part_of Mantissa Kind.Int64 Mandatory Plain None) Undefined true (0x00 ∷ 0x00 ∷ 0x00 ∷ 0x00 ∷ 0x00 ∷ 0x04 ∷ 0x00 ∷ 0x80 ∷ []) (Some (I64 (pos 65536))) Undefined 8 ∷  -- mantissa_part_in_int64
    fails (part_of Exponent Kind.Int32 Mandatory Plain None) Undefined true (0x08 ∷ 0x00 ∷ 0x00 ∷ 0x00 ∷ 0x80 ∷ []) FieldFault.R1 ∷  -- exponent_part_out_of_int32
    reads (part_of Exponent Kind.Int32 Mandatory Copy None) Undefined true (0xC1 ∷ []) (Some (I32 (negsuc 62))) (Assigned (I32 (negsuc 62))) 1 ∷  -- exponent_part_least
    fails (part_of Exponent Kind.Int32 Mandatory Copy None) Undefined true (0xC0 ∷ []) FieldFault.R1 ∷  -- exponent_part_below
    -- an int32 of another field under the same key, which bit 0 gives
    fails (part_of Exponent Kind.Int32 Mandatory Copy None) (Assigned (I32 (pos 100))) false [] FieldFault.R1 ∷  -- exponent_of_another_field
    -- and on which a delta comes back into range
    reads (part_of Exponent Kind.Int32 Mandatory Delta None) (Assigned (I32 (pos 100))) true (0xDB ∷ []) (Some (I32 (pos 63))) (Assigned (I32 (pos 63))) 1 ∷  -- exponent_from_another_field
    -- a length of 65,536 that bit 0 gives, and one of 65,535
    fails (part_of Length Kind.UInt32 Mandatory Copy None) (number 65536) false [] FieldFault.Limit ∷  -- length_by_copy
    reads (part_of Length Kind.UInt32 Mandatory Copy None) (number 65535) false [] (Some (U32 65535)) (number 65535) 0 ∷  -- length_by_copy_within
    fails (part_of Length Kind.UInt32 Mandatory Increment None) (number 65535) false [] FieldFault.Limit ∷  -- length_by_increment
    fails (part_of Length Kind.UInt32 Mandatory Default (Some (U32 65536))) Undefined false [] FieldFault.Limit ∷  -- length_by_initial
    fails (part_of Length Kind.UInt32 Mandatory Plain None) Undefined true (0x04 ∷ 0x00 ∷ 0x80 ∷ []) FieldFault.Limit ∷  -- length_in_the_stream
    -- a length out of its type is an integer out of range
    fails (part_of Length Kind.UInt32 Mandatory Plain None) Undefined true (0x10 ∷ 0x00 ∷ 0x00 ∷ 0x00 ∷ 0x80 ∷ []) FieldFault.D2 ∷  -- length_out_of_uint32
    reads (part_of Length Kind.UInt32 Optional Copy None) Empty false [] None Empty 0 ∷  -- length_absent
    [])
unfolding field_at row_at whole_at spelled_at integer_spelled_at integer_at signed_at entity_at integer_value part_checked delta_at integer_delta_at integer_sum predicted_at unsigned_at
parts = refl

-- ---- a value of another type

other_types : Hold (
    fails (field Kind.Int32 Mandatory Copy) (number 5) false [] FieldFault.D4 ∷  -- another_type_under_copy
    fails (field Kind.UInt64 Optional Increment) (number 5) false [] FieldFault.D4 ∷  -- another_type_under_increment
    fails (field Kind.Bytes Optional Tail) (text (codes "A")) false [] FieldFault.D4 ∷  -- another_type_under_tail_left_out
    -- a tail that has come, also one that is longer than any base
    fails (field Kind.Bytes Mandatory Tail) (text (codes "A")) true (0x82 ∷ 0x08 ∷ 0x09 ∷ []) FieldFault.D4 ∷  -- another_type_under_tail
    fails (field Kind.UInt32 Mandatory Delta) (text (codes "A")) true (0x81 ∷ []) FieldFault.D4 ∷  -- another_type_under_delta
    fails (field Kind.Ascii Mandatory Delta) (number 5) true (0x80 ∷ []) FieldFault.D4 ∷  -- another_type_under_string_delta
    -- a subtraction length is judged before the base is asked for
    fails (field Kind.Ascii Mandatory Delta) (number 5) true (0x77 ∷ 0x7F ∷ 0x7F ∷ 0x7F ∷ 0xFF ∷ []) FieldFault.D7 ∷  -- no_int32_before_another_type
    [])
unfolding field_at row_at predicted_at part_checked tail_at ended_value limited_value units_at part_at vector_at unsigned_at entity_at bytes_at unit_value delta_at integer_delta_at integer_sum integer_at signed_at integer_value unit_delta_at new_part_behind ascii_at
other_types = refl

-- ---- initial values

initial_values : Hold (
    -- bit 0 on an undefined entry is the initial value, which increment does not raise
    reads (field_with Kind.UInt32 Mandatory Copy (U32 5)) Undefined false [] (Some (U32 5)) (number 5) 0 ∷  -- copy_initial
    reads (field_with Kind.UInt32 Mandatory Increment (U32 5)) Undefined false [] (Some (U32 5)) (number 5) 0 ∷  -- increment_initial
    reads (field_with Kind.UInt32 Mandatory Increment (U32 5)) (number 5) false [] (Some (U32 6)) (number 6) 0 ∷  -- increment_next
    reads (field_with Kind.Ascii Optional Tail (Ascii (codes "ab"))) Undefined false [] (Some (Ascii (codes "ab"))) (text (codes "ab")) 0 ∷  -- tail_initial
    -- an empty entry gives a tail its initial value only where a tail comes
    reads (field_with Kind.Ascii Optional Tail (Ascii (codes "ab"))) Empty false [] None Empty 0 ∷  -- tail_left_out_on_empty
    fails (field_with Kind.Ascii Mandatory Tail (Ascii (codes "ab"))) Empty false [] FieldFault.D6 ∷  -- mandatory_tail_on_empty
    fails (field Kind.Ascii Mandatory Tail) Undefined false [] FieldFault.D5 ∷  -- mandatory_tail_of_nothing
    reads (field_with Kind.Ascii Mandatory Tail (Ascii (codes "ab"))) Empty true (0xE3 ∷ []) (Some (Ascii (codes "ac"))) (text (codes "ac")) 1 ∷  -- mandatory_tail_with_a_tail
    -- a delta is added to the initial value, and then to the value
    reads (field_with Kind.UInt32 Mandatory Delta (U32 5)) Undefined true (0x81 ∷ []) (Some (U32 6)) (number 6) 1 ∷  -- delta_on_initial
    reads (field_with Kind.UInt32 Mandatory Delta (U32 5)) (number 6) true (0x81 ∷ []) (Some (U32 7)) (number 7) 1 ∷  -- delta_on_value
    reads (field Kind.UInt32 Mandatory Delta) Undefined true (0x81 ∷ []) (Some (U32 1)) (number 1) 1 ∷  -- delta_on_nothing
    reads (field_with Kind.Ascii Mandatory Delta (Ascii (codes "ab"))) Undefined true (0x81 ∷ 0xE3 ∷ []) (Some (Ascii (codes "ac"))) (text (codes "ac")) 2 ∷  -- string_delta_on_initial
    reads (field Kind.Ascii Mandatory Delta) Undefined true (0x80 ∷ 0xE3 ∷ []) (Some (Ascii (codes "c"))) (text (codes "c")) 2 ∷  -- string_delta_on_nothing
    fails (field Kind.Bytes Mandatory Delta) Undefined true (0x81 ∷ []) FieldFault.D7 ∷  -- string_delta_removes_of_nothing
    -- an optional default with no initial value is absent; with one, NULL says so
    reads (field Kind.UInt32 Optional Default) (number 5) false [] None (number 5) 0 ∷  -- default_absent
    reads (field_with Kind.UInt32 Optional Default (U32 3)) (number 5) false [] (Some (U32 3)) (number 5) 0 ∷  -- default_initial
    reads (field_with Kind.UInt32 Optional Default (U32 3)) (number 5) true (0x80 ∷ []) None (number 5) 1 ∷  -- default_null
    -- a field with no operator leaves the entry
    reads (field Kind.UInt32 Mandatory Plain) (number 5) true (0x86 ∷ []) (Some (U32 6)) (number 5) 1 ∷  -- plain_leaves_the_entry
    [])
unfolding field_at row_at predicted_at part_checked tail_at ended_value limited_value units_at part_at ascii_at entity_at unit_value delta_at integer_delta_at integer_sum integer_at signed_at integer_value unit_delta_at new_part_behind unsigned_at vector_at bytes_at whole_at spelled_at integer_spelled_at unsigned_nullable_at
initial_values = refl

-- ---- numbers beyond 64 bits

beyond_64_bits : Hold (
    -- a delta may be as far as from the greatest number to 0
    reads (field Kind.UInt64 Mandatory Delta) (Assigned (U64 (2 ^ 64 - 1))) true (0x7E ∷ 0x00 ∷ 0x00 ∷ 0x00 ∷ 0x00 ∷ 0x00 ∷ 0x00 ∷ 0x00 ∷ 0x00 ∷ 0x81 ∷ []) (Some (U64 0)) (Assigned (U64 0)) 10 ∷  -- uint64_to_zero
    fails (field Kind.UInt64 Mandatory Delta) (Assigned (U64 0)) true (0xFF ∷ []) FieldFault.D2 ∷  -- uint64_below_zero
    -- after the greatest number comes the least
    reads (field Kind.Int32 Mandatory Increment) (Assigned (I32 (pos (2 ^ 31 - 1)))) false [] (Some (I32 (negsuc (2 ^ 31 - 1)))) (Assigned (I32 (negsuc (2 ^ 31 - 1)))) 0 ∷  -- increment_past_int32
    reads (field Kind.Int32 Mandatory Increment) (Assigned (I32 (negsuc 0))) false [] (Some (I32 (pos 0))) (Assigned (I32 (pos 0))) 0 ∷  -- increment_to_zero
    reads (field Kind.Int64 Mandatory Increment) (Assigned (I64 (pos (2 ^ 63 - 1)))) false [] (Some (I64 (negsuc (2 ^ 63 - 1)))) (Assigned (I64 (negsuc (2 ^ 63 - 1)))) 0 ∷  -- increment_past_int64
    reads (field Kind.UInt64 Mandatory Increment) (Assigned (U64 (2 ^ 64 - 1))) false [] (Some (U64 0)) (Assigned (U64 0)) 0 ∷  -- increment_past_uint64
    [])
unfolding field_at row_at delta_at integer_delta_at integer_sum integer_at signed_at entity_at integer_value part_checked predicted_at
beyond_64_bits = refl

-- ---- subtraction lengths: which are int32, and how many units they remove

removals : Hold (
    -- the nullable 2^31 is 2^31 - 1, an int32, for which an empty entry has no base; the next is none
    fails (field Kind.Ascii Optional Delta) Empty true (0x08 ∷ 0x00 ∷ 0x00 ∷ 0x00 ∷ 0x80 ∷ []) FieldFault.D6 ∷  -- nullable_length_in_int32
    fails (field Kind.Ascii Optional Delta) Empty true (0x08 ∷ 0x00 ∷ 0x00 ∷ 0x00 ∷ 0x81 ∷ []) FieldFault.D7 ∷  -- nullable_length_past_int32
    fails (field Kind.Ascii Optional Delta) (text (codes "ab")) true (0x08 ∷ 0x00 ∷ 0x00 ∷ 0x00 ∷ 0x80 ∷ []) FieldFault.D7 ∷  -- nullable_length_too_many
    -- -2^31 removes 2^31 - 1 units in front
    fails (field Kind.Ascii Mandatory Delta) Empty true (0x78 ∷ 0x00 ∷ 0x00 ∷ 0x00 ∷ 0x80 ∷ []) FieldFault.D6 ∷  -- least_length
    fails (field Kind.Ascii Mandatory Delta) Empty true (0x77 ∷ 0x7F ∷ 0x7F ∷ 0x7F ∷ 0xFF ∷ []) FieldFault.D7 ∷  -- below_least_length
    -- -1 removes none in front, and -2 one
    reads (field Kind.Ascii Mandatory Delta) (text (codes "ab")) true (0xFE ∷ 0xE3 ∷ []) (Some (Ascii (codes "cb"))) (text (codes "cb")) 2 ∷  -- one_in_front
    reads (field Kind.Ascii Mandatory Delta) (text (codes "ab")) true (0xFD ∷ 0xE3 ∷ []) (Some (Ascii (codes "c"))) (text (codes "c")) 2 ∷  -- all_in_front
    fails (field Kind.Ascii Mandatory Delta) (text (codes "ab")) true (0xFC ∷ []) FieldFault.D7 ∷  -- more_in_front
    [])
unfolding field_at row_at delta_at unit_delta_at integer_at signed_nullable_at signed_at entity_at new_part_behind part_at ascii_at limited_value unit_value part_checked
removals = refl
