-- Worked rows: why a value cannot be written, computed by the definition.
use Rattle.fast_field.proofs.Common.{◌≡◌, ℕ, true, false, List, [], ◌∷◌, length, Option, Some, None, pos, negsuc, refl, arith, codes, nat_lt, nat_tests, Kind, Mandatory, Optional, Plain, Constant, Copy, Delta, Exponent, Mantissa, Length, FieldPart, Scalar, U32, I32, U64, I64, Decimal, Ascii, Unicode, Bytes, Entry, Undefined, Empty, FieldRefusal, value_refusal, refusal_of}
use Rattle.fast_field.proofs.WorkedFields.{Hold, part_of, field, text, number, tail_s, uni_s, const_k, const_o, fixed_px_exponent, delta_s}

abbrev Refused : FieldPart → Entry → Option Scalar → FieldRefusal → Type 0
Refused i e v r = refusal_of i e v ≡ Some r

abbrev refused : FieldPart → Entry → Option Scalar → FieldRefusal → Option FieldRefusal × Option FieldRefusal
refused i e v r = (refusal_of i e v, Some r)

abbrev allowed : FieldPart → Entry → Option Scalar → Option FieldRefusal × Option FieldRefusal
allowed i e v = (refusal_of i e v, None)

-- ---- a value that is none of the field

mismatches : Hold (
    refused (field Kind.UInt32 Mandatory Plain) Undefined (Some (U64 1)) FieldRefusal.Mismatch ∷  -- another_type
    refused (field Kind.Ascii Mandatory Plain) Undefined (Some (Ascii (128 ∷ []))) FieldRefusal.Mismatch ∷  -- no_character
    allowed (field Kind.Ascii Mandatory Plain) Undefined (Some (Ascii (127 ∷ []))) ∷  -- last_character
    refused (field Kind.UInt32 Mandatory Copy) (number 5) None FieldRefusal.Mismatch ∷  -- absent_mandatory
    allowed (field Kind.UInt32 Optional Delta) (text (codes "A")) None ∷  -- absent_optional
    [])
unfolding value_refusal
mismatches = refl

-- ---- limits

limits : Hold (
    refused (part_of Length Kind.UInt32 Mandatory Copy None) (number 65536) (Some (U32 65536)) FieldRefusal.Limit ∷  -- length_too_large
    allowed (part_of Length Kind.UInt32 Mandatory Copy None) (number 65536) (Some (U32 65535)) ∷  -- length_large
    refused (field Kind.Decimal Mandatory Copy) Undefined (Some (Decimal (pos 64) (pos 1))) FieldRefusal.R1 ∷  -- far_decimal
    allowed (field Kind.Decimal Mandatory Copy) Undefined (Some (Decimal (negsuc 62) (pos 1))) ∷  -- near_decimal
    refused (part_of Exponent Kind.Int32 Mandatory Copy None) Undefined (Some (I32 (negsuc 63))) FieldRefusal.R1 ∷  -- far_exponent
    [])
unfolding value_refusal
limits = refl

too_long : (s : List ℕ) → length s ≡ 65536 → Refused (field Kind.Bytes Mandatory Plain) Undefined (Some (Bytes s)) FieldRefusal.Limit
unfolding value_refusal
too_long s long = let t : nat_lt 65535 (length s) ≡ true = grind (arith, nat_tests) in rw t refl

just_few_enough : (s : List ℕ) → length s ≡ 65535 → refusal_of (field Kind.Bytes Mandatory Plain) Undefined (Some (Bytes s)) ≡ None
unfolding value_refusal
just_few_enough s long = let t : nat_lt 65535 (length s) ≡ false = grind (arith, nat_tests) in rw t refl

-- ---- constants

constants : Hold (
    refused const_k Undefined (Some (U32 8)) FieldRefusal.NotConstant ∷  -- not_constant
    allowed const_o Undefined (Some (U32 9)) ∷  -- the_constant
    refused fixed_px_exponent Undefined (Some (I32 (negsuc 0))) FieldRefusal.D3 ∷  -- no_constant_exponent
    refused (part_of Mantissa Kind.Int64 Mandatory Constant (Some (I64 (pos 1)))) Undefined (Some (I64 (pos 2))) FieldRefusal.D3 ∷  -- no_constant_mantissa
    refused (part_of Length Kind.UInt32 Mandatory Constant (Some (U32 1))) Undefined (Some (U32 2)) FieldRefusal.NotConstant ∷  -- no_constant_length
    [])
unfolding value_refusal
constants = refl

-- ---- bases

bases : Hold (
    refused (field Kind.UInt32 Mandatory Delta) Empty (Some (U32 1)) FieldRefusal.D6 ∷  -- delta_on_empty
    refused delta_s (number 5) (Some (Ascii (codes "A"))) FieldRefusal.D4 ∷  -- delta_on_another_type
    refused uni_s (text (codes "xab")) (Some (Unicode (0xC3 ∷ 0xA9 ∷ []))) FieldRefusal.D4 ∷  -- tail_on_another_type
    refused tail_s (text (codes "xab")) (Some (Ascii (codes "x"))) FieldRefusal.TooShort ∷  -- shorter_than_base
    allowed tail_s (text (codes "xab")) (Some (Ascii (codes "xyz"))) ∷  -- as_long_as_base
    -- copy looks at no earlier value
    allowed (field Kind.UInt32 Mandatory Copy) (text (codes "A")) (Some (U32 6)) ∷  -- copy_over_another_type
    [])
unfolding value_refusal
bases = refl

-- ---- the order

first_reasons : Hold (
    refused (part_of Exponent Kind.Int32 Mandatory Copy None) Undefined (Some (I64 (pos 64))) FieldRefusal.Mismatch ∷  -- type_before_exponent
    refused fixed_px_exponent Undefined (Some (I32 (pos 64))) FieldRefusal.R1 ∷  -- exponent_before_constant
    [])
unfolding value_refusal
first_reasons = refl

limit_before_base : (s : List ℕ) → length s ≡ 65536 → Refused (field Kind.Bytes Mandatory Delta) Empty (Some (Bytes s)) FieldRefusal.Limit
unfolding value_refusal
limit_before_base s long = let t : nat_lt 65535 (length s) ≡ true = grind (arith, nat_tests) in rw t refl
