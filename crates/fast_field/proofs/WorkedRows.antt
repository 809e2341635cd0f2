-- Worked rows: what one field reads, computed by the definitions.
use Rattle.fast_field.proofs.Common.{true, false, [], ◌∷◌, Some, None, pos, refl, codes, is_utf8, chars, entity_at, unsigned_at, signed_at, signed_nullable_at, ascii_at, ascii_nullable_at, bytes_at, vector_at, Kind, Mandatory, Optional, Copy, Increment, Delta, Exponent, U32, I32, Ascii, Unicode, Undefined, Empty, Assigned, FieldFault, integer_at, part_at, units_at, integer_value, unit_value, integer_spelled_at, spelled_at, integer_delta_at, integer_sum, mantissa_delta_behind, decimal_delta_at, new_part_behind, unit_delta_at, delta_at, tail_at, ended_value, limited_value, whole_at, predicted_at, row_at, part_checked, field_at}
use Rattle.fast_field.proofs.WorkedFields.{Hold, reads, fails, part_of, field, field_with, text, number, quote_seq, quote_sym, quote_qty, opt_px_exponent, tail_s, init_s, delta_s, uni_s, const_k, const_o, const_d}

-- ---- without a base

without_base : Hold (
    -- increment past the greatest number
    reads quote_seq (number 4294967295) false ([]) (Some (U32 0)) (number 0) 0 ∷  -- increment_wraps
    -- a mandatory copy that is left out, on an undefined and on an empty entry
    fails quote_sym Undefined false ([]) FieldFault.D5 ∷  -- copy_of_nothing
    fails quote_sym Empty false ([]) FieldFault.D6 ∷  -- copy_of_empty
    -- an optional one is absent
    reads quote_qty Undefined false ([]) None Empty 0 ∷  -- copy_absent
    -- a copy of a value of another type; but a value in the stream asks for no earlier one
    fails (field Kind.UInt32 Mandatory Copy) (text (codes "A")) false ([]) FieldFault.D4 ∷  -- copy_of_another_type
    reads (field Kind.UInt32 Mandatory Copy) (text (codes "A")) true (0x86 ∷ []) (Some (U32 6)) (number 6) 1 ∷  -- value_over_another_type
    -- 2^32, and its first four bytes: a number is judged once its stop bit has come
    fails const_d Undefined true (0x10 ∷ 0x00 ∷ 0x00 ∷ 0x00 ∷ 0x80 ∷ []) FieldFault.D2 ∷  -- out_of_range
    fails const_d Undefined true (0x10 ∷ 0x00 ∷ 0x00 ∷ 0x00 ∷ []) FieldFault.NeedMore ∷  -- too_few
    -- an empty entry is not undefined: the initial value is not asked for
    reads (field_with Kind.UInt32 Optional Copy (U32 5)) Empty false ([]) None Empty 0 ∷  -- copy_not_of_the_initial
    -- constants, and a default that is left out
    reads const_k Undefined true ([]) (Some (U32 7)) Undefined 0 ∷  -- constant
    reads const_o Undefined false ([]) None Undefined 0 ∷  -- constant_absent
    reads const_o Undefined true ([]) (Some (U32 9)) Undefined 0 ∷  -- constant_present
    reads const_d Undefined false ([]) (Some (U32 3)) Undefined 0 ∷  -- default_left_out
    [])
unfolding field_at row_at predicted_at part_checked whole_at spelled_at integer_spelled_at integer_at unsigned_at entity_at integer_value
without_base = refl

-- ---- deltas, tails and parts of decimals

deltas_and_tails : Hold (
    -- removal of no unit in front, and no new part
    reads delta_s (text (codes "ESM6")) true (0xFF ∷ 0x80 ∷ []) (Some (Ascii (codes "ESM6"))) (text (codes "ESM6")) 2 ∷  -- nothing_in_front
    -- five units of four; before a new part has come, and where none can come
    fails delta_s (text (codes "ESM6")) true (0x85 ∷ 0x80 ∷ []) FieldFault.D7 ∷  -- more_than_there
    fails delta_s (text (codes "ESM6")) true (0x85 ∷ []) FieldFault.D7 ∷  -- more_than_there_at_once
    fails delta_s (text (codes "ESM6")) true (0x85 ∷ 0x00 ∷ 0x00 ∷ []) FieldFault.D7 ∷  -- more_than_there_first
    -- two units removed in front, and two put there
    reads delta_s (text (codes "GEM6")) true (0xFD ∷ 0x45 ∷ 0xD3 ∷ []) (Some (Ascii (codes "ESM6"))) (text (codes "ESM6")) 3 ∷  -- in_front
    -- one more than the greatest number
    fails (field Kind.UInt32 Mandatory Delta) (number 4294967295) true (0x81 ∷ []) FieldFault.D2 ∷  -- delta_out_of_range
    -- a tail that begins with NUL
    reads tail_s (text (codes "xab")) true (0x00 ∷ 0x00 ∷ 0x00 ∷ 0xE2 ∷ []) (Some (Ascii (0x78 ∷ 0 ∷ 0x62 ∷ []))) (text (0x78 ∷ 0 ∷ 0x62 ∷ [])) 4 ∷  -- tail_of_nul
    -- an empty tail, whose base is the initial value
    reads init_s Empty true (0x00 ∷ 0x80 ∷ []) (Some (Ascii (codes "ab"))) (text (codes "ab")) 2 ∷  -- tail_of_nothing
    -- a delta has no base on an empty entry
    fails (field Kind.UInt32 Mandatory Delta) Empty true (0x81 ∷ []) FieldFault.D6 ∷  -- delta_on_empty
    -- NULL is absent on every entry, and leaves it
    reads (field Kind.UInt32 Optional Delta) Empty true (0x80 ∷ []) None Empty 1 ∷  -- null_on_empty
    reads (field Kind.UInt32 Optional Delta) (number 5) true (0x80 ∷ []) None (number 5) 1 ∷  -- null_on_a_number
    -- an exponent: NULL, 63 and 64 in the nullable form
    reads opt_px_exponent Undefined true (0x80 ∷ []) None Undefined 1 ∷  -- exponent_absent
    reads opt_px_exponent Undefined true (0x00 ∷ 0xC0 ∷ []) (Some (I32 (pos 63))) Undefined 2 ∷  -- exponent_63
    fails opt_px_exponent Undefined true (0x00 ∷ 0xC1 ∷ []) FieldFault.R1 ∷  -- exponent_64
    -- an exponent of 64 is refused before a mantissa has come
    fails (field Kind.Decimal Mandatory Delta) Undefined true (0x00 ∷ 0xC0 ∷ []) FieldFault.R1 ∷  -- exponent_64_alone
    -- a character of two bytes, of which a tail of one byte changes the second; and one that leaves no UTF-8
    reads uni_s Undefined true (0x82 ∷ 0xC3 ∷ 0xA9 ∷ []) (Some (Unicode (0xC3 ∷ 0xA9 ∷ []))) (Assigned (Unicode (0xC3 ∷ 0xA9 ∷ []))) 3 ∷  -- unicode_whole
    reads uni_s (Assigned (Unicode (0xC3 ∷ 0xA9 ∷ []))) true (0x81 ∷ 0xA8 ∷ []) (Some (Unicode (0xC3 ∷ 0xA8 ∷ []))) (Assigned (Unicode (0xC3 ∷ 0xA8 ∷ []))) 2 ∷  -- unicode_tail
    fails uni_s (Assigned (Unicode (0xC3 ∷ 0xA8 ∷ []))) true (0x81 ∷ 0x41 ∷ []) FieldFault.R2 ∷  -- no_unicode
    [])
unfolding field_at row_at delta_at unit_delta_at integer_at signed_at entity_at new_part_behind part_at ascii_at limited_value unit_value part_checked integer_delta_at integer_sum integer_value tail_at ended_value units_at ascii_nullable_at signed_nullable_at whole_at spelled_at integer_spelled_at decimal_delta_at mantissa_delta_behind vector_at unsigned_at bytes_at is_utf8 chars lib.Utf8.encode
deltas_and_tails = refl

-- ---- the order of checks

order_of_checks : Hold (
    -- NULL ends a delta and a tail before the base is asked for
    reads (field Kind.UInt32 Optional Delta) (text (codes "A")) true (0x80 ∷ []) None (text (codes "A")) 1 ∷  -- null_on_another_type
    reads tail_s (number 5) true (0x80 ∷ []) None Empty 1 ∷  -- null_tail_on_another_type
    -- a subtraction length of 2^31 is no int32, also where there is no base
    fails delta_s Empty true (0x08 ∷ 0x00 ∷ 0x00 ∷ 0x00 ∷ 0x80 ∷ []) FieldFault.D7 ∷  -- no_int32_on_empty
    fails delta_s Empty true (0x80 ∷ 0x80 ∷ []) FieldFault.D6 ∷  -- no_base
    -- an exponent of 64 that bit 0 gives
    fails (part_of Exponent Kind.Int32 Mandatory Increment None) (Assigned (I32 (pos 63))) false [] FieldFault.R1 ∷  -- exponent_64_by_increment
    [])
unfolding field_at row_at delta_at integer_delta_at integer_at signed_nullable_at signed_at entity_at part_checked tail_at units_at ascii_nullable_at unit_delta_at predicted_at
order_of_checks = refl
