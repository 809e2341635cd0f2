-- Worked rows by type: what one field reads, computed by the definitions.
use Rattle.fast_field.proofs.Common.{◌^◌, ◌-◌, true, [], ◌∷◌, Some, None, pos, negsuc, refl, codes, is_utf8, chars, entity_at, unsigned_at, signed_at, unsigned_nullable_at, signed_nullable_at, ascii_at, ascii_nullable_at, bytes_at, vector_at, behind_length, vector_nullable_at, Kind, Mandatory, Optional, Plain, Copy, Delta, Tail, U32, I32, U64, I64, Decimal, Ascii, Unicode, Bytes, Undefined, Empty, Assigned, FieldFault, integer_at, part_at, units_at, integer_value, decimal_value, unit_value, integer_spelled_at, mantissa_behind, decimal_spelled_at, units_spelled_at, spelled_at, mantissa_delta_behind, decimal_delta_at, new_part_behind, unit_delta_at, delta_at, tail_at, ended_value, limited_value, whole_at, row_at, part_checked, field_at}
use Rattle.fast_field.proofs.WorkedFields.{Hold, reads, fails, field, text, number}

-- ---- integers

integers : Hold (
    reads (field Kind.UInt64 Mandatory Plain) Undefined true (0x01 ∷ 0x7F ∷ 0x7F ∷ 0x7F ∷ 0x7F ∷ 0x7F ∷ 0x7F ∷ 0x7F ∷ 0x7F ∷ 0xFF ∷ []) (Some (U64 (2 ^ 64 - 1))) Undefined 10 ∷  -- greatest_uint64
    fails (field Kind.UInt64 Mandatory Plain) Undefined true (0x02 ∷ 0x00 ∷ 0x00 ∷ 0x00 ∷ 0x00 ∷ 0x00 ∷ 0x00 ∷ 0x00 ∷ 0x00 ∷ 0x80 ∷ []) FieldFault.D2 ∷  -- past_uint64
    -- the nullable form is one more
    reads (field Kind.UInt64 Optional Plain) Undefined true (0x02 ∷ 0x00 ∷ 0x00 ∷ 0x00 ∷ 0x00 ∷ 0x00 ∷ 0x00 ∷ 0x00 ∷ 0x00 ∷ 0x80 ∷ []) (Some (U64 (2 ^ 64 - 1))) Undefined 10 ∷  -- greatest_uint64_nullable
    reads (field Kind.UInt32 Optional Plain) Undefined true (0x10 ∷ 0x00 ∷ 0x00 ∷ 0x00 ∷ 0x80 ∷ []) (Some (U32 4294967295)) Undefined 5 ∷  -- greatest_uint32_nullable
    fails (field Kind.UInt32 Optional Plain) Undefined true (0x10 ∷ 0x00 ∷ 0x00 ∷ 0x00 ∷ 0x81 ∷ []) FieldFault.D2 ∷  -- past_uint32_nullable
    -- NULL in more bytes than it needs
    reads (field Kind.UInt64 Optional Copy) (Assigned (U64 7)) true (0x00 ∷ 0x80 ∷ []) None Empty 2 ∷  -- uint64_null
    reads (field Kind.Int64 Mandatory Plain) Undefined true (0x7F ∷ 0x00 ∷ 0x00 ∷ 0x00 ∷ 0x00 ∷ 0x00 ∷ 0x00 ∷ 0x00 ∷ 0x00 ∷ 0x80 ∷ []) (Some (I64 (negsuc (2 ^ 63 - 1)))) Undefined 10 ∷  -- least_int64
    fails (field Kind.Int64 Mandatory Plain) Undefined true (0x7E ∷ 0x7F ∷ 0x7F ∷ 0x7F ∷ 0x7F ∷ 0x7F ∷ 0x7F ∷ 0x7F ∷ 0x7F ∷ 0xFF ∷ []) FieldFault.D2 ∷  -- below_int64
    reads (field Kind.Int64 Optional Plain) Undefined true (0x01 ∷ 0x00 ∷ 0x00 ∷ 0x00 ∷ 0x00 ∷ 0x00 ∷ 0x00 ∷ 0x00 ∷ 0x00 ∷ 0x80 ∷ []) (Some (I64 (pos (2 ^ 63 - 1)))) Undefined 10 ∷  -- greatest_int64_nullable
    -- the nullable form of a number below 0 is the number
    reads (field Kind.Int32 Optional Plain) Undefined true (0x78 ∷ 0x00 ∷ 0x00 ∷ 0x00 ∷ 0x80 ∷ []) (Some (I32 (negsuc (2 ^ 31 - 1)))) Undefined 5 ∷  -- least_int32
    fails (field Kind.Int32 Mandatory Plain) Undefined true (0x77 ∷ 0x7F ∷ 0x7F ∷ 0x7F ∷ 0xFF ∷ []) FieldFault.D2 ∷  -- below_int32
    fails (field Kind.Int32 Mandatory Plain) Undefined true (0x08 ∷ 0x00 ∷ 0x00 ∷ 0x00 ∷ 0x80 ∷ []) FieldFault.D2 ∷  -- past_int32
    reads (field Kind.UInt32 Mandatory Plain) Undefined true (0x00 ∷ 0x00 ∷ 0x00 ∷ 0x00 ∷ 0x00 ∷ 0x00 ∷ 0x00 ∷ 0x00 ∷ 0x00 ∷ 0x81 ∷ []) (Some (U32 1)) Undefined 10 ∷  -- more_bytes_than_it_needs
    -- ten bytes with no stop bit are too many; nine may go on
    fails (field Kind.UInt32 Mandatory Plain) Undefined true (0x00 ∷ 0x00 ∷ 0x00 ∷ 0x00 ∷ 0x00 ∷ 0x00 ∷ 0x00 ∷ 0x00 ∷ 0x00 ∷ 0x00 ∷ 0x81 ∷ []) FieldFault.Limit ∷  -- no_stop_in_ten
    fails (field Kind.UInt32 Mandatory Plain) Undefined true (0x00 ∷ 0x00 ∷ 0x00 ∷ 0x00 ∷ 0x00 ∷ 0x00 ∷ 0x00 ∷ 0x00 ∷ 0x00 ∷ []) FieldFault.NeedMore ∷  -- no_stop_in_nine
    fails (field Kind.Int32 Mandatory Plain) Undefined true (0x00 ∷ 0x00 ∷ 0x00 ∷ 0x00 ∷ 0x00 ∷ 0x00 ∷ 0x00 ∷ 0x00 ∷ 0x00 ∷ 0x00 ∷ []) FieldFault.Limit ∷  -- no_stop_in_ten_signed
    [])
unfolding field_at row_at whole_at spelled_at integer_spelled_at integer_at unsigned_at entity_at integer_value part_checked unsigned_nullable_at signed_at signed_nullable_at
integers = refl

-- ---- decimals: what is out of range is the decimal

decimals : Hold (
    reads (field Kind.Decimal Mandatory Plain) Undefined true (0xFE ∷ 0x81 ∷ []) (Some (Decimal (negsuc 1) (pos 1))) Undefined 2 ∷  -- decimal_whole
    -- NULL is the exponent's, and no mantissa follows
    reads (field Kind.Decimal Optional Copy) Undefined true (0x80 ∷ 0x81 ∷ []) None Empty 1 ∷  -- decimal_absent
    reads (field Kind.Decimal Mandatory Plain) Undefined true (0xC1 ∷ 0x81 ∷ []) (Some (Decimal (negsuc 62) (pos 1))) Undefined 2 ∷  -- decimal_least_exponent
    fails (field Kind.Decimal Mandatory Plain) Undefined true (0xC0 ∷ []) FieldFault.R1 ∷  -- decimal_exponent_below
    -- a mantissa out of int64
    fails (field Kind.Decimal Mandatory Plain) Undefined true (0x80 ∷ 0x01 ∷ 0x00 ∷ 0x00 ∷ 0x00 ∷ 0x00 ∷ 0x00 ∷ 0x00 ∷ 0x00 ∷ 0x00 ∷ 0x80 ∷ []) FieldFault.R1 ∷  -- mantissa_of_whole
    fails (field Kind.Decimal Mandatory Delta) (Assigned (Decimal (pos 0) (pos (2 ^ 63 - 1)))) true (0x80 ∷ 0x81 ∷ []) FieldFault.R1 ∷  -- mantissa_of_delta
    reads (field Kind.Decimal Mandatory Delta) (Assigned (Decimal (pos 5) (pos 7))) true (0xFF ∷ 0x82 ∷ []) (Some (Decimal (pos 4) (pos 9))) (Assigned (Decimal (pos 4) (pos 9))) 2 ∷  -- decimal_delta
    -- with nothing before, the base is exponent 0 with mantissa 0
    reads (field Kind.Decimal Optional Delta) Undefined true (0x82 ∷ 0x83 ∷ []) (Some (Decimal (pos 1) (pos 3))) (Assigned (Decimal (pos 1) (pos 3))) 2 ∷  -- decimal_delta_of_nothing
    reads (field Kind.Decimal Optional Delta) Empty true (0x80 ∷ 0x83 ∷ []) None Empty 1 ∷  -- decimal_delta_absent
    -- the base is asked for before the mantissa
    fails (field Kind.Decimal Mandatory Delta) Empty true (0x80 ∷ []) FieldFault.D6 ∷  -- decimal_delta_on_empty
    fails (field Kind.Decimal Mandatory Delta) (number 5) true (0x80 ∷ []) FieldFault.D4 ∷  -- decimal_delta_on_another_type
    [])
unfolding field_at row_at whole_at spelled_at decimal_spelled_at mantissa_behind integer_at signed_at entity_at decimal_value part_checked signed_nullable_at delta_at decimal_delta_at mantissa_delta_behind
decimals = refl

-- ---- byte vectors and Unicode

vectors : Hold (
    reads (field Kind.Bytes Mandatory Plain) Undefined true (0x82 ∷ 0x01 ∷ 0xFF ∷ []) (Some (Bytes (0x01 ∷ 0xFF ∷ []))) Undefined 3 ∷  -- vector
    -- the nullable length is one more
    reads (field Kind.Bytes Optional Copy) Undefined true (0x83 ∷ 0x01 ∷ 0xFF ∷ []) (Some (Bytes (0x01 ∷ 0xFF ∷ []))) (Assigned (Bytes (0x01 ∷ 0xFF ∷ []))) 3 ∷  -- vector_nullable
    reads (field Kind.Bytes Optional Copy) Undefined true (0x80 ∷ 0x01 ∷ []) None Empty 1 ∷  -- vector_null
    -- a length of 65,536 is too long before a byte of it has come; one of 65,535 is not
    fails (field Kind.Bytes Mandatory Plain) Undefined true (0x04 ∷ 0x00 ∷ 0x80 ∷ []) FieldFault.Limit ∷  -- vector_too_long
    fails (field Kind.Bytes Mandatory Plain) Undefined true (0x03 ∷ 0x7F ∷ 0xFF ∷ []) FieldFault.NeedMore ∷  -- vector_long
    reads (field Kind.Bytes Mandatory Tail) (Assigned (Bytes (1 ∷ 2 ∷ 3 ∷ []))) true (0x82 ∷ 0x08 ∷ 0x09 ∷ []) (Some (Bytes (1 ∷ 8 ∷ 9 ∷ []))) (Assigned (Bytes (1 ∷ 8 ∷ 9 ∷ []))) 3 ∷  -- vector_tail
    reads (field Kind.Bytes Optional Tail) (Assigned (Bytes (1 ∷ []))) true (0x83 ∷ 0x08 ∷ 0x09 ∷ []) (Some (Bytes (8 ∷ 9 ∷ []))) (Assigned (Bytes (8 ∷ 9 ∷ []))) 3 ∷  -- vector_tail_longer_than_base
    reads (field Kind.Bytes Mandatory Delta) (Assigned (Bytes (1 ∷ 2 ∷ 3 ∷ []))) true (0x82 ∷ 0x81 ∷ 0x09 ∷ []) (Some (Bytes (1 ∷ 9 ∷ []))) (Assigned (Bytes (1 ∷ 9 ∷ []))) 3 ∷  -- vector_delta_at_end
    reads (field Kind.Bytes Mandatory Delta) (Assigned (Bytes (1 ∷ 2 ∷ 3 ∷ []))) true (0xFE ∷ 0x81 ∷ 0x09 ∷ []) (Some (Bytes (9 ∷ 2 ∷ 3 ∷ []))) (Assigned (Bytes (9 ∷ 2 ∷ 3 ∷ []))) 3 ∷  -- vector_delta_in_front
    fails (field Kind.Bytes Mandatory Delta) (Assigned (Bytes (1 ∷ 2 ∷ 3 ∷ []))) true (0x82 ∷ 0x81 ∷ []) FieldFault.NeedMore ∷  -- vector_delta_needs_more
    -- Unicode is cut by bytes: é and then è, of which the second byte changes
    reads (field Kind.Unicode Mandatory Delta) (Assigned (Unicode (0xC3 ∷ 0xA9 ∷ []))) true (0x81 ∷ 0x81 ∷ 0xA8 ∷ []) (Some (Unicode (0xC3 ∷ 0xA8 ∷ []))) (Assigned (Unicode (0xC3 ∷ 0xA8 ∷ []))) 3 ∷  -- unicode_delta
    fails (field Kind.Unicode Mandatory Delta) (Assigned (Unicode (0xC3 ∷ 0xA9 ∷ []))) true (0x81 ∷ 0x80 ∷ []) FieldFault.R2 ∷  -- unicode_delta_of_no_text
    fails (field Kind.Unicode Mandatory Plain) Undefined true (0x81 ∷ 0xC3 ∷ []) FieldFault.R2 ∷  -- unicode_of_no_text
    [])
unfolding field_at row_at whole_at spelled_at units_spelled_at units_at part_at vector_at unsigned_at entity_at bytes_at unit_value part_checked vector_nullable_at unsigned_nullable_at behind_length tail_at ended_value limited_value delta_at unit_delta_at integer_at signed_at new_part_behind is_utf8 chars lib.Utf8.encode
vectors = refl

-- ---- ASCII

texts : Hold (
    -- the last two of four units make way for two others
    reads (field Kind.Ascii Mandatory Delta) (text (codes "ESM6")) true (0x82 ∷ 0x5A ∷ 0xB5 ∷ []) (Some (Ascii (codes "ESZ5"))) (text (codes "ESZ5")) 3 ∷  -- ascii_delta_cuts
    reads (field Kind.Ascii Mandatory Delta) (text (codes "ESM6")) true (0x84 ∷ 0xD8 ∷ []) (Some (Ascii (codes "X"))) (text (codes "X")) 2 ∷  -- ascii_delta_of_all
    reads (field Kind.Ascii Mandatory Delta) (text (codes "ES")) true (0x80 ∷ 0x4D ∷ 0xB6 ∷ []) (Some (Ascii (codes "ESM6"))) (text (codes "ESM6")) 3 ∷  -- ascii_delta_adds
    -- the nullable form of a length from 0 up is one more, of one below 0 the length
    reads (field Kind.Ascii Optional Delta) (text (codes "ESM6")) true (0x83 ∷ 0x5A ∷ 0xB5 ∷ []) (Some (Ascii (codes "ESZ5"))) (text (codes "ESZ5")) 3 ∷  -- ascii_delta_optional
    reads (field Kind.Ascii Optional Delta) (text (codes "GEM6")) true (0xFD ∷ 0x45 ∷ 0xD3 ∷ []) (Some (Ascii (codes "ESM6"))) (text (codes "ESM6")) 3 ∷  -- ascii_delta_optional_in_front
    reads (field Kind.Ascii Optional Delta) (text (codes "ES")) true (0x80 ∷ 0xD8 ∷ []) None (text (codes "ES")) 1 ∷  -- ascii_delta_absent
    reads (field Kind.Ascii Mandatory Plain) Undefined true (0x00 ∷ 0x80 ∷ []) (Some (Ascii (0 ∷ []))) Undefined 2 ∷  -- ascii_nul
    reads (field Kind.Ascii Optional Plain) Undefined true (0x00 ∷ 0x80 ∷ []) (Some (Ascii [])) Undefined 2 ∷  -- ascii_empty_nullable
    reads (field Kind.Ascii Mandatory Tail) (text (codes "A")) true (0x42 ∷ 0xC3 ∷ []) (Some (Ascii (codes "BC"))) (text (codes "BC")) 2 ∷  -- ascii_tail_longer_than_base
    [])
unfolding field_at row_at delta_at unit_delta_at integer_at signed_at entity_at new_part_behind part_at ascii_at limited_value unit_value part_checked signed_nullable_at whole_at spelled_at units_spelled_at units_at ascii_nullable_at tail_at ended_value
texts = refl
