-- Values, texts of initial values and keys at their limits.
use Rattle.fast_value.proofs.Common.{◌≡◌, ◌<◌, ◌≤◌, ℕ, ℤ, List, [], ◌∷◌, length, map, nat_le, Option, Some, None, true, false, IsUtf8, pos, negsuc, refl, codes, AllByRecursion, Ordering, Less, Equal, Kind, Part, Whole, Exponent, Mantissa, Length, Scalar, U32, I32, U64, I64, Decimal, Ascii, Unicode, Bytes, Scope, Global, Template, Typed, User, Key, kind_of, is_of, is_integer, least_of, greatest_of, in_range, exponent_in_range, of_integer, IsScalar, is_digit, hex_digit_of, is_short, value_of_text, part_number, scope_numbers, key_cmp}

-- ---- types

abbrev kinds : List Kind
kinds = Kind.UInt32 ∷ Kind.Int32 ∷ Kind.UInt64 ∷ Kind.Int64 ∷ Kind.Decimal ∷ Kind.Ascii ∷ Kind.Unicode ∷ Kind.Bytes ∷ []

-- A value is of its own type and of no other.
own_type : (v : Scalar) → is_of (kind_of v) v ≡ true
own_type (U32 n) = refl
own_type (I32 z) = refl
own_type (U64 n) = refl
own_type (I64 z) = refl
own_type (Decimal exponent mantissa) = refl
own_type (Ascii s) = refl
own_type (Unicode s) = refl
own_type (Bytes s) = refl

types_of_u32 : map (λ k. is_of k (U32 0)) kinds ≡ true ∷ false ∷ false ∷ false ∷ false ∷ false ∷ false ∷ false ∷ []
types_of_u32 = refl

types_of_i32 : map (λ k. is_of k (I32 (pos 0))) kinds ≡ false ∷ true ∷ false ∷ false ∷ false ∷ false ∷ false ∷ false ∷ []
types_of_i32 = refl

types_of_u64 : map (λ k. is_of k (U64 0)) kinds ≡ false ∷ false ∷ true ∷ false ∷ false ∷ false ∷ false ∷ false ∷ []
types_of_u64 = refl

types_of_i64 : map (λ k. is_of k (I64 (pos 0))) kinds ≡ false ∷ false ∷ false ∷ true ∷ false ∷ false ∷ false ∷ false ∷ []
types_of_i64 = refl

types_of_decimal : map (λ k. is_of k (Decimal (pos 0) (pos 0))) kinds ≡ false ∷ false ∷ false ∷ false ∷ true ∷ false ∷ false ∷ false ∷ []
types_of_decimal = refl

types_of_ascii : map (λ k. is_of k (Ascii [])) kinds ≡ false ∷ false ∷ false ∷ false ∷ false ∷ true ∷ false ∷ false ∷ []
types_of_ascii = refl

types_of_unicode : map (λ k. is_of k (Unicode [])) kinds ≡ false ∷ false ∷ false ∷ false ∷ false ∷ false ∷ true ∷ false ∷ []
types_of_unicode = refl

types_of_bytes : map (λ k. is_of k (Bytes [])) kinds ≡ false ∷ false ∷ false ∷ false ∷ false ∷ false ∷ false ∷ true ∷ []
types_of_bytes = refl

integers_are : map is_integer kinds ≡ true ∷ true ∷ true ∷ true ∷ false ∷ false ∷ false ∷ false ∷ []
integers_are = refl

least_are : map least_of kinds ≡ pos 0 ∷ negsuc 2147483647 ∷ pos 0 ∷ negsuc 9223372036854775807 ∷ pos 0 ∷ pos 0 ∷ pos 0 ∷ pos 0 ∷ []
least_are = refl

greatest_are : map greatest_of kinds ≡ pos 4294967295 ∷ pos 2147483647 ∷ pos 18446744073709551615 ∷ pos 9223372036854775807 ∷ pos 0 ∷ pos 0 ∷ pos 0 ∷ pos 0 ∷ []
greatest_are = refl

of_integers_are : map (λ k. of_integer k (pos 7)) kinds ≡ U32 7 ∷ I32 (pos 7) ∷ U64 7 ∷ I64 (pos 7) ∷ I64 (pos 7) ∷ I64 (pos 7) ∷ I64 (pos 7) ∷ I64 (pos 7) ∷ []
of_integers_are = refl

-- the limits of a range are in it, and what is one further is not
int32_range : map (in_range Kind.Int32) (negsuc 2147483648 ∷ negsuc 2147483647 ∷ pos 2147483647 ∷ pos 2147483648 ∷ []) ≡ false ∷ true ∷ true ∷ false ∷ []
int32_range = refl

uint32_range : map (in_range Kind.UInt32) (negsuc 0 ∷ pos 0 ∷ pos 4294967295 ∷ pos 4294967296 ∷ []) ≡ false ∷ true ∷ true ∷ false ∷ []
uint32_range = refl

exponent_range : map exponent_in_range (negsuc 63 ∷ negsuc 62 ∷ pos 63 ∷ pos 64 ∷ []) ≡ false ∷ true ∷ true ∷ false ∷ []
exponent_range = refl

-- What a value within its type is, in numbers.
u32_is : (n : ℕ) → n < 4294967296 → IsScalar (U32 n)
u32_is n h = h

u64_is : (n : ℕ) → n < 18446744073709551616 → IsScalar (U64 n)
u64_is n h = h

i32_is : (z : ℤ) → in_range Kind.Int32 z ≡ true → IsScalar (I32 z)
i32_is z h = h

i64_is : (z : ℤ) → in_range Kind.Int64 z ≡ true → IsScalar (I64 z)
i64_is z h = h

decimal_is : (e m : ℤ) → exponent_in_range e ≡ true → in_range Kind.Int64 m ≡ true → IsScalar (Decimal e m)
decimal_is e m h i = (h, i)

ascii_is : (s : List ℕ) → length s ≤ 65535 → AllByRecursion (λ c. c < 128) s → IsScalar (Ascii s)
ascii_is s h i = (h, i)

unicode_is : (s : List ℕ) → length s ≤ 65535 → AllByRecursion (λ c. c < 256) s → IsUtf8 s → IsScalar (Unicode s)
unicode_is s h i j = (h, i, j)

bytes_is : (s : List ℕ) → length s ≤ 65535 → AllByRecursion (λ c. c < 256) s → IsScalar (Bytes s)
bytes_is s h i = (h, i)

-- ---- texts of initial values

digits_are : map is_digit (47 ∷ 48 ∷ 57 ∷ 58 ∷ []) ≡ false ∷ true ∷ true ∷ false ∷ []
digits_are = refl

hex_digits_are : map hex_digit_of (codes "/09:@AFG`afg") ≡ None ∷ Some 0 ∷ Some 9 ∷ None ∷ None ∷ Some 10 ∷ Some 15 ∷ None ∷ None ∷ Some 10 ∷ Some 15 ∷ None ∷ []
hex_digits_are = refl

-- A text of 65,535 units may be a value, and none that is longer.
short_is : (s : List ℕ) → is_short s ≡ nat_le (length s) 65535
short_is s = refl

abbrev texts : Part → Kind → List (List ℕ) → List (Option Scalar)
texts p k = map (value_of_text p k)

int32_texts : texts Whole Kind.Int32 (codes "-2147483649" ∷ codes "-2147483648" ∷ codes "2147483647" ∷ codes "2147483648" ∷ []) ≡ None ∷ Some (I32 (negsuc 2147483647)) ∷ Some (I32 (pos 2147483647)) ∷ None ∷ []
int32_texts = refl

int64_texts : texts Whole Kind.Int64 (codes "-9223372036854775809" ∷ codes "-9223372036854775808" ∷ codes "9223372036854775807" ∷ codes "9223372036854775808" ∷ [])
    ≡ None ∷ Some (I64 (negsuc 9223372036854775807)) ∷ Some (I64 (pos 9223372036854775807)) ∷ None ∷ []
int64_texts = refl

uint64_texts : texts Whole Kind.UInt64 (codes "18446744073709551615" ∷ codes "18446744073709551616" ∷ []) ≡ Some (U64 18446744073709551615) ∷ None ∷ []
uint64_texts = refl

exponent_texts : texts Exponent Kind.Int32 (codes "-64" ∷ codes "-63" ∷ []) ≡ None ∷ Some (I32 (negsuc 62)) ∷ []
exponent_texts = refl

-- A mantissa is an int64, and only an exponent's range is narrower.
mantissa_texts : texts Mantissa Kind.Int64 (codes "64" ∷ codes "9223372036854775808" ∷ []) ≡ Some (I64 (pos 64)) ∷ None ∷ []
mantissa_texts = refl

decimal_texts : texts Whole Kind.Decimal (codes "9223372036854775807e63" ∷ codes "9223372036854775808e0" ∷ codes "1e-63" ∷ codes "1e-64" ∷ codes "e1" ∷ codes "1e" ∷ codes "1e1e1" ∷ [])
    ≡ Some (Decimal (pos 63) (pos 9223372036854775807)) ∷ None ∷ Some (Decimal (negsuc 62) (pos 1)) ∷ None ∷ None ∷ None ∷ None ∷ []
decimal_texts = refl

ascii_texts : texts Whole Kind.Ascii ([] ∷ (127 ∷ []) ∷ (128 ∷ []) ∷ []) ≡ Some (Ascii []) ∷ Some (Ascii (127 ∷ [])) ∷ None ∷ []
ascii_texts = refl

hex_texts : texts Whole Kind.Bytes (codes "F0" ∷ codes "g0" ∷ codes "0g" ∷ codes "0a1" ∷ []) ≡ Some (Bytes (240 ∷ [])) ∷ None ∷ None ∷ None ∷ []
hex_texts = refl

-- ---- the order of keys

numbers_of_scopes : map scope_numbers (Global ∷ Template 7 ∷ Typed (codes "A") ∷ User (codes "A") ∷ []) ≡ (0 ∷ []) ∷ (1 ∷ 7 ∷ []) ∷ (2 ∷ codes "A") ∷ (3 ∷ codes "A") ∷ []
numbers_of_scopes = refl

numbers_of_parts : map part_number (Whole ∷ Exponent ∷ Mantissa ∷ Length ∷ []) ≡ 0 ∷ 1 ∷ 2 ∷ 3 ∷ []
numbers_of_parts = refl

abbrev key : ℕ → Scope → List ℕ → Part → Key
key slot scope name part = record { slot = slot; scope = scope; name = name; part = part }

slot_first : key_cmp (key 1 (User (codes "Z")) (codes "Z") Length) (key 2 Global (codes "A") Whole) ≡ Less
slot_first = refl

scope_second : key_cmp (key 1 Global (codes "Z") Length) (key 1 (User (codes "A")) (codes "A") Whole) ≡ Less
scope_second = refl

name_third : key_cmp (key 1 Global (codes "A") Length) (key 1 Global (codes "B") Whole) ≡ Less
name_third = refl

abbrev by_scope : Scope → Scope → Ordering
by_scope a b = key_cmp (key 1 a (codes "A") Whole) (key 1 b (codes "A") Whole)

scopes_ascend : by_scope Global (Template 1) ∷ by_scope (Template 1) (Template 2) ∷ by_scope (Template 2) (Typed (codes "A")) ∷ by_scope (Typed (codes "B")) (User (codes "A")) ∷ by_scope (User (codes "A")) (User (codes "B")) ∷ [] ≡ Less ∷ Less ∷ Less ∷ Less ∷ Less ∷ []
scopes_ascend = refl

abbrev by_part : Part → Part → Ordering
by_part a b = key_cmp (key 1 Global (codes "A") a) (key 1 Global (codes "A") b)

parts_ascend : by_part Whole Exponent ∷ by_part Exponent Mantissa ∷ by_part Mantissa Length ∷ by_part Length Length ∷ [] ≡ Less ∷ Less ∷ Less ∷ Equal ∷ []
parts_ascend = refl
