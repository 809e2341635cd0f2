-- The value that a text spells is one of its part and type.
use Rattle.fast_load.proofs.Common.{◌≡◌, ◌≢◌, ◌<◌, ◌≤◌, ◌+◌, ◌-◌, ◌*◌, ◌/◌, ◌%◌, ◌^◌, ◌&&◌, ℕ, ℤ, pos, negsuc, List, [], ◌∷◌, length, nat_lt, nat_le, if◌then◌else◌, cond, Option, Some, None, Bool, true, false, nat_eq, ◌⊎◌, inl, inr, refl, sym, subst, arith, true≢false, nat_abs, int_le, option_map, option_and_then, IsUtf8, list_all, AllByRecursion, before_first, after_first, leb-true, ltb-true, encode, encodes, scalar, scalars, scalar_cases, Kind, Part, Scalar, U32, I32, U64, I64, Decimal, Ascii, Unicode, Bytes, is_of, IsScalar, in_range, exponent_in_range, of_integer, where_so, is_digit, integer_of, in_range_of, decimal_value, hex_digit_of, hex_bytes_of, is_short, value_of_text, is_in_part, first_so, second_so, in_type}
use Rattle.fast_load.proofs.AllOf.{all_of_both}

-- what is to be shown of a value
pub record Fits (p : Part) (k : Kind) (v : Scalar) : Type 0 where
  pub of_kind : is_of k v ≡ true
  pub in_part : is_in_part p v ≡ true
  pub is_scalar : IsScalar v

so : {A : Type 0} (b : Bool) (x v : A) → where_so b x ≡ Some v → (b ≡ true) × (x ≡ v)
so true x v e = (refl, cc)
so false x v e = absurd cc

-- ---- numbers

unsigned_fits : (bound : ℕ) (z : ℤ) → (int_le (pos 0) z && int_le z (pos bound)) ≡ true → nat_abs z ≤ bound
unsigned_fits bound (pos n) e = leb-true n bound (second_so (nat_le 0 n) (nat_le n bound) e)
unsigned_fits bound (negsuc n) e = absurd (true≢false (sym e))

in_part_of : (p : Part) (k : Kind) (z : ℤ) → in_range_of p k z ≡ true → is_in_part p (I32 z) ≡ true
in_part_of Part.Exponent k z e = e
in_part_of Part.Whole k z e = refl
in_part_of Part.Mantissa k z e = refl
in_part_of Part.Length k z e = refl

any_part : (p : Part) (v : Scalar) → ((z : ℤ) → v ≢ I32 z) → is_in_part p v ≡ true
any_part Part.Whole v other = refl
any_part Part.Mantissa v other = refl
any_part Part.Length v other = refl
any_part Part.Exponent (U32 n) other = refl
any_part Part.Exponent (I32 z) other = absurd (other z refl)
any_part Part.Exponent (U64 n) other = refl
any_part Part.Exponent (I64 z) other = refl
any_part Part.Exponent (Decimal e m) other = refl
any_part Part.Exponent (Ascii s) other = refl
any_part Part.Exponent (Unicode s) other = refl
any_part Part.Exponent (Bytes s) other = refl

number_fits : (p : Part) (k : Kind) (z : ℤ) → (p ≡ Part.Exponent → k ≡ Kind.Int32) → in_range_of p k z ≡ true → is_of k (of_integer k z) ≡ true → Fits p k (of_integer k z)
number_fits p Kind.Int32 z only e is = record { of_kind = is; in_part = in_part_of p Kind.Int32 z e; is_scalar = in_type p Kind.Int32 z only e }
number_fits p Kind.UInt32 z only e is = record { of_kind = is; in_part = any_part p (U32 (nat_abs z)) (λ y same. absurd cc); is_scalar = let le = unsigned_fits (2 ^ 32 - 1) z (in_type p Kind.UInt32 z only e) in omega (arith, le) }
number_fits p Kind.Int64 z only e is = record { of_kind = is; in_part = any_part p (I64 z) (λ y same. absurd cc); is_scalar = in_type p Kind.Int64 z only e }
number_fits p Kind.UInt64 z only e is = record { of_kind = is; in_part = any_part p (U64 (nat_abs z)) (λ y same. absurd cc); is_scalar = let le = unsigned_fits (2 ^ 64 - 1) z (in_type p Kind.UInt64 z only e) in omega (arith, le) }
number_fits p Kind.Decimal z only e is = absurd (true≢false (sym is))
number_fits p Kind.Ascii z only e is = absurd (true≢false (sym is))
number_fits p Kind.Unicode z only e is = absurd (true≢false (sym is))
number_fits p Kind.Bytes z only e is = absurd (true≢false (sym is))

integer_fits : (p : Part) (k : Kind) (v : Scalar) (o : Option ℤ) → (p ≡ Part.Exponent → k ≡ Kind.Int32) → ((z : ℤ) → is_of k (of_integer k z) ≡ true)
    → option_and_then (λ z. where_so (in_range_of p k z) (of_integer k z)) o ≡ Some v → Fits p k v
integer_fits p k v None only is e = absurd cc
integer_fits p k v (Some z) only is e =
    let is_so = so (in_range_of p k z) (of_integer k z) v e in
    subst (Fits p k) is_so.1 (number_fits p k z only is_so.0 (is z))

decimal_fits : (p : Part) (v : Scalar) (m x : Option ℤ) → decimal_value m x ≡ Some v → Fits p Kind.Decimal v
decimal_fits p v None x e = absurd cc
decimal_fits p v (Some m) None e = absurd cc
decimal_fits p v (Some m) (Some x) e =
    let is_so = so (in_range Kind.Int64 m && exponent_in_range x) (Decimal x m) v e in
    subst (Fits p Kind.Decimal) is_so.1 (record { of_kind = refl; in_part = any_part p (Decimal x m) (λ y same. absurd cc); is_scalar = (second_so (in_range Kind.Int64 m) (exponent_in_range x) is_so.0, first_so (in_range Kind.Int64 m) (exponent_in_range x) is_so.0) })

-- ---- texts

all_below : (bound : ℕ) (s : List ℕ) → list_all (λ c. nat_lt c bound) s ≡ true → AllByRecursion (λ c. c < bound) s
all_below bound [] e = tt
all_below bound (c ∷ s) e = (ltb-true c bound (first_so (nat_lt c bound) (list_all (λ c. nat_lt c bound) s) e), all_below bound s (second_so (nat_lt c bound) (list_all (λ c. nat_lt c bound) s) e))

-- the bytes of a character
by_length : (c : ℕ) (x y z : Bool) → (x ≡ true → c < 128) → (y ≡ true → c < 2048) → (z ≡ true → c < 65536) → c < 1114112
    → AllByRecursion (λ b. b < 256) (cond x (c ∷ []) (cond y ((192 + c / 64) ∷ (128 + c % 64) ∷ []) (cond z ((224 + c / 4096) ∷ (128 + (c / 64) % 64) ∷ (128 + c % 64) ∷ []) ((240 + c / 262144) ∷ (128 + (c / 4096) % 64) ∷ (128 + (c / 64) % 64) ∷ (128 + c % 64) ∷ []))))
by_length c true y z one two three lt = let l = one refl in (omega (arith, l), tt)
by_length c false true z one two three lt = let l = two refl in (omega (arith, l), (omega arith, tt))
by_length c false false true one two three lt = let l = three refl in (omega (arith, l), (omega arith, (omega arith, tt)))
by_length c false false false one two three lt = (omega (arith, lt), (omega arith, (omega arith, (omega arith, tt))))

is_character : (c : ℕ) → scalar c ≡ true → c < 1114112
is_character c e = either (scalar_cases c e) where
  either : (c < 55296) ⊎ ((57344 ≤ c) × (c < 1114112)) → c < 1114112
  either (inl lt) = omega (arith, lt)
  either (inr at) = at.1

character_bytes : (c : ℕ) → scalar c ≡ true → AllByRecursion (λ b. b < 256) (encode c)
unfolding encode
character_bytes c e = by_length c (nat_lt c 128) (nat_lt c 2048) (nat_lt c 65536) (ltb-true c 128) (ltb-true c 2048) (ltb-true c 65536) (is_character c e)

text_bytes : (cs : List ℕ) → scalars cs ≡ true → AllByRecursion (λ b. b < 256) (encodes cs)
text_bytes [] e = tt
text_bytes (c ∷ cs) e = all_of_both (λ b. b < 256) (encode c) (encodes cs) (character_bytes c (first_so (scalar c) (scalars cs) e)) (text_bytes cs (second_so (scalar c) (scalars cs) e))

utf8_bytes : (s : List ℕ) → IsUtf8 s → AllByRecursion (λ b. b < 256) s
utf8_bytes s is = subst (AllByRecursion (λ b. b < 256)) is.1.1 (text_bytes is.0 is.1.0)

-- ---- bytes from hexadecimal digits

digit_below : (c : ℕ) (a b d : Bool) (h : ℕ) → (a ≡ true → c ≤ 57) → (b ≡ true → c ≤ 70) → (d ≡ true → c ≤ 102) → (if a then Some (c - 48) else if b then Some (c - 55) else if d then Some (c - 87) else None) ≡ Some h → h < 16
digit_below c true b d h one two three e = let l = one refl in let is : c - 48 ≡ h = cc in omega (arith, l, is)
digit_below c false true d h one two three e = let l = two refl in let is : c - 55 ≡ h = cc in omega (arith, l, is)
digit_below c false false true h one two three e = let l = three refl in let is : c - 87 ≡ h = cc in omega (arith, l, is)
digit_below c false false false h one two three e = absurd cc

hex_below : (c h : ℕ) → hex_digit_of c ≡ Some h → h < 16
hex_below c h e = digit_below c (is_digit c) (nat_le 65 c && nat_le c 70) (nat_le 97 c && nat_le c 102) h
    (λ a. leb-true c 57 (second_so (nat_le 48 c) (nat_le c 57) a)) (λ a. leb-true c 70 (second_so (nat_le 65 c) (nat_le c 70) a)) (λ a. leb-true c 102 (second_so (nat_le 97 c) (nat_le c 102) a)) e

pair_bytes : (h l : Option ℕ) (rest : Option (List ℕ)) (bytes : List ℕ) → ((n : ℕ) → h ≡ Some n → n < 16) → ((n : ℕ) → l ≡ Some n → n < 16) → ((more : List ℕ) → rest ≡ Some more → AllByRecursion (λ b. b < 256) more)
    → option_and_then (λ h. option_and_then (λ l. option_map (λ more. (16 * h + l) ∷ more) rest) l) h ≡ Some bytes → AllByRecursion (λ b. b < 256) bytes
pair_bytes None l rest bytes high low more e = absurd cc
pair_bytes (Some h) None rest bytes high low more e = absurd cc
pair_bytes (Some h) (Some l) None bytes high low more e = absurd cc
pair_bytes (Some h) (Some l) (Some others) bytes high low more e =
    let is : (16 * h + l) ∷ others ≡ bytes = cc in
    let a = high h refl in
    let b = low l refl in
    subst (AllByRecursion (λ b. b < 256)) is (omega (arith, a, b), more others refl)

hex_bytes : (text bytes : List ℕ) → hex_bytes_of text ≡ Some bytes → AllByRecursion (λ b. b < 256) bytes
hex_bytes [] bytes e = let is : [] ≡ bytes = cc in subst (AllByRecursion (λ b. b < 256)) is tt
hex_bytes (h ∷ []) bytes e = absurd cc
hex_bytes (h ∷ l ∷ text) bytes e = pair_bytes (hex_digit_of h) (hex_digit_of l) (hex_bytes_of text) bytes (λ n is. hex_below h n is) (λ n is. hex_below l n is) (λ more is. hex_bytes text more is) e

short : (s : List ℕ) → is_short s ≡ true → length s ≤ 65535
short s e = leb-true (length s) 65535 e

bytes_fit : (p : Part) (o : Option (List ℕ)) (v : Scalar) → ((s : List ℕ) → o ≡ Some s → AllByRecursion (λ b. b < 256) s) → option_and_then (λ bytes. where_so (is_short bytes) (Bytes bytes)) o ≡ Some v → Fits p Kind.Bytes v
bytes_fit p None v are e = absurd cc
bytes_fit p (Some s) v are e =
    let is_so = so (is_short s) (Bytes s) v e in
    subst (Fits p Kind.Bytes) is_so.1 (record { of_kind = refl; in_part = any_part p (Bytes s) (λ y same. absurd cc); is_scalar = (short s is_so.0, are s refl) })

-- ---- any text

pub value_fits : (p : Part) (k : Kind) (text : List ℕ) (v : Scalar) → IsUtf8 text → (p ≡ Part.Exponent → k ≡ Kind.Int32) → value_of_text p k text ≡ Some v → Fits p k v
value_fits p Kind.Int32 text v utf8 only e = integer_fits p Kind.Int32 v (integer_of text) only (λ z. refl) e
value_fits p Kind.UInt32 text v utf8 only e = integer_fits p Kind.UInt32 v (integer_of text) only (λ z. refl) e
value_fits p Kind.Int64 text v utf8 only e = integer_fits p Kind.Int64 v (integer_of text) only (λ z. refl) e
value_fits p Kind.UInt64 text v utf8 only e = integer_fits p Kind.UInt64 v (integer_of text) only (λ z. refl) e
value_fits p Kind.Decimal text v utf8 only e = decimal_fits p v (integer_of (before_first (λ c. nat_eq c 101) text)) (integer_of (after_first (λ c. nat_eq c 101) text)) e
value_fits p Kind.Ascii text v utf8 only e =
    let is_so = so (list_all (λ c. nat_lt c 128) text && is_short text) (Ascii text) v e in
    subst (Fits p Kind.Ascii) is_so.1 (record { of_kind = refl; in_part = any_part p (Ascii text) (λ y same. absurd cc); is_scalar = (short text (second_so (list_all (λ c. nat_lt c 128) text) (is_short text) is_so.0), all_below 128 text (first_so (list_all (λ c. nat_lt c 128) text) (is_short text) is_so.0)) })
value_fits p Kind.Unicode text v utf8 only e =
    let is_so = so (is_short text) (Unicode text) v e in
    subst (Fits p Kind.Unicode) is_so.1 (record { of_kind = refl; in_part = any_part p (Unicode text) (λ y same. absurd cc); is_scalar = (short text is_so.0, utf8_bytes text utf8, utf8) })
value_fits p Kind.Bytes text v utf8 only e = bytes_fit p (hex_bytes_of text) v (λ s is. hex_bytes text s is) e
