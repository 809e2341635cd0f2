-- Hexadecimal texts, as the library reads them.
use Rattle.fast_value.proofs.Common.{◌≡◌, ◌≤◌, ◌+◌, ◌-◌, ◌*◌, ◌%◌, ◌==◌, ◌&&◌, ◌||◌, suc, ℕ, List, [], ◌∷◌, length, nat_le, if◌then◌else◌, Option, Some, None, Result, Ok, Err, Bool, true, false, refl, sym, ap, ◌∙◌, arith, true≢false, ◌<◌, is_some, option_map, option_and_then, is_ascii_hexdigit, list_all, option_map_or, unsigned_Decides, mul-add-mod_self_left, leb-true, le-leb, hex_digit_value, digit_or_error, decode_pairs, decode_of, ◌>>=◌, FromHexError, is_digit, hex_digit_of, hex_bytes_of, is_short, where_so, Scalar, Bytes}

abbrev pub good : {A : Type 0} → Result A FromHexError → Option A
good (Ok x) = Some x
good (Err e) = None

first_of : (a b : Bool) → (a && b) ≡ true → a ≡ true
first_of true b e = refl
first_of false b e = e

second_of : (a b : Bool) → (a && b) ≡ true → b ≡ true
second_of true b e = e
second_of false b e = absurd (true≢false (sym e))

-- the tests of digits exclude one another, so their order does not matter
ordered : (d u l : Bool) (x y z : ℕ) → (d ≡ true → u ≡ true → ⊥) → (d ≡ true → l ≡ true → ⊥)
    → (if u then Some y else if l then Some z else if d then Some x else None) ≡ (if d then Some x else if u then Some y else if l then Some z else None)
ordered true true l x y z not_u not_l = absurd (not_u refl refl)
ordered true false true x y z not_u not_l = absurd (not_l refl refl)
ordered true false false x y z not_u not_l = refl
ordered false true l x y z not_u not_l = refl
ordered false false true x y z not_u not_l = refl
ordered false false false x y z not_u not_l = refl

same_digit : (c : ℕ) → hex_digit_value c ≡ hex_digit_of c
same_digit c = ordered (is_digit c) (nat_le 65 c && nat_le c 70) (nat_le 97 c && nat_le c 102) (c - 48) (c - 55) (c - 87)
    (λ d u. let below : c ≤ 57 = leb-true c 57 (second_of (nat_le 48 c) (nat_le c 57) d) in let above : 65 ≤ c = leb-true 65 c (first_of (nat_le 65 c) (nat_le c 70) u) in absurd (omega (arith, below, above)))
    (λ d l. let below : c ≤ 57 = leb-true c 57 (second_of (nat_le 48 c) (nat_le c 57) d) in let above : 97 ≤ c = leb-true 97 c (first_of (nat_le 97 c) (nat_le c 102) l) in absurd (omega (arith, below, above)))

pairs : (h l : Option ℕ) (high low i : ℕ) (rest : Result (List ℕ) FromHexError)
    → good ((digit_or_error high i h >>= λ x. (digit_or_error low (i + 1) l >>= λ y. Ok (x * 16 + y))) >>= λ byte. (rest >>= λ bytes. Ok (byte ∷ bytes)))
    ≡ option_and_then (λ x. option_and_then (λ y. option_map (λ bytes. (16 * x + y) ∷ bytes) (good rest)) l) h
pairs None l high low i rest = refl
pairs (Some x) None high low i rest = refl
pairs (Some x) (Some y) high low i (Err e) = refl
pairs (Some x) (Some y) high low i (Ok bytes) = let same : x * 16 + y ≡ 16 * x + y = omega arith in ap (λ b. Some (b ∷ bytes)) same

pub decoded : (i : ℕ) (text : List ℕ) → good (decode_pairs i text) ≡ hex_bytes_of text
unfolding decode_pairs
decoded i [] = refl
decoded i (high ∷ []) = refl
decoded i (high ∷ low ∷ rest) =
    pairs (hex_digit_value high) (hex_digit_value low) high low i (decode_pairs (i + 2) rest)
    ∙ (λ j. option_and_then (λ x. option_and_then (λ y. option_map (λ bytes. (16 * x + y) ∷ bytes) (decoded (i + 2) rest j)) (same_digit low j)) (same_digit high j))

-- as many digits as twice the bytes
twice : (n : ℕ) (o : Option (List ℕ)) (bytes : List ℕ) (h l : Option ℕ) → ((others : List ℕ) → o ≡ Some others → n ≡ 2 * length others)
    → option_and_then (λ x. option_and_then (λ y. option_map (λ more. (16 * x + y) ∷ more) o) l) h ≡ Some bytes → n + 2 ≡ 2 * length bytes
twice n o bytes None l before e = absurd (cc e)
twice n o bytes (Some x) None before e = absurd (cc e)
twice n None bytes (Some x) (Some y) before e = absurd (cc e)
twice n (Some others) bytes (Some x) (Some y) before e =
    let lengths : suc (length others) ≡ length bytes = ap (λ r. option_map_or length r 0) e in
    let halves : n ≡ 2 * length others = before others refl in
    omega (arith, lengths, halves)

pub length-hex : (text bytes : List ℕ) → hex_bytes_of text ≡ Some bytes → length text ≡ 2 * length bytes
length-hex [] bytes e = let lengths : 0 ≡ length bytes = ap (λ r. option_map_or length r 0) e in omega (arith, lengths)
length-hex (high ∷ []) bytes e = absurd (cc e)
length-hex (high ∷ low ∷ rest) bytes e =
    let lengths : length rest + 2 ≡ 2 * length bytes = twice (length rest) (hex_bytes_of rest) bytes (hex_digit_of high) (hex_digit_of low) (length-hex rest) e in
    omega (arith, lengths)

add-zero-of : (n : ℕ) → n ≡ n + 0
add-zero-of n = omega arith

even : (n : ℕ) → (2 * n) % 2 ≡ 0
even n = ap (λ m. m % 2) (add-zero-of (2 * n)) ∙ mul-add-mod_self_left 2 n 0

if_not_odd : (b : Bool) (r : Result (List ℕ) FromHexError) (e : FromHexError) → (b ≡ true → good r ≡ None) → good (if b then Err e else r) ≡ good r
if_not_odd true r e none = sym (none refl)
if_not_odd false r e none = refl

no_bytes : (text : List ℕ) (o : Option (List ℕ)) → hex_bytes_of text ≡ o → (length text % 2 == 1) ≡ true → o ≡ None
no_bytes text None is odd = refl
no_bytes text (Some bytes) is odd =
    let one : length text % 2 ≡ 1 = (unsigned_Decides (length text % 2) 1).0 odd in
    let none : length text % 2 ≡ 0 = ap (λ n. n % 2) (length-hex text bytes is) ∙ even (length bytes) in
    absurd (cc (sym none ∙ one))

-- the library's bytes are those of the definition, where there are any
pub decoded_bytes : (text : List ℕ) → good (decode_of text) ≡ hex_bytes_of text
decoded_bytes text =
    if_not_odd (length text % 2 == 1) (decode_pairs 0 text) _ (λ odd. decoded 0 text ∙ no_bytes text (hex_bytes_of text) refl odd) ∙ decoded 0 text

-- ---- which texts spell bytes

is_digit_of : (d u l : Bool) (x y z : ℕ) → is_some (if d then Some x else if u then Some y else if l then Some z else None) ≡ ((d || u) || l)
is_digit_of true u l x y z = refl
is_digit_of false true l x y z = refl
is_digit_of false false true x y z = refl
is_digit_of false false false x y z = refl

pair_spells : (h l : Option ℕ) (o : Option (List ℕ)) (a b even digits : Bool) → is_some h ≡ a → is_some l ≡ b → is_some o ≡ (even && digits)
    → is_some (option_and_then (λ x. option_and_then (λ y. option_map (λ bytes. (16 * x + y) ∷ bytes) o) l) h) ≡ (even && (a && (b && digits)))
pair_spells None l o true b even digits h_is l_is o_is = absurd (true≢false (sym h_is))
pair_spells None l o false b true digits h_is l_is o_is = refl
pair_spells None l o false b false digits h_is l_is o_is = refl
pair_spells (Some x) l o false b even digits h_is l_is o_is = absurd (true≢false h_is)
pair_spells (Some x) None o true true even digits h_is l_is o_is = absurd (true≢false (sym l_is))
pair_spells (Some x) None o true false true digits h_is l_is o_is = refl
pair_spells (Some x) None o true false false digits h_is l_is o_is = refl
pair_spells (Some x) (Some y) o true false even digits h_is l_is o_is = absurd (true≢false l_is)
pair_spells (Some x) (Some y) None true true even digits h_is l_is o_is = o_is
pair_spells (Some x) (Some y) (Some bytes) true true even digits h_is l_is o_is = o_is

-- two digits for each byte, and nothing else
digits_spell : (text : List ℕ) → is_some (hex_bytes_of text) ≡ ((length text % 2 == 0) && list_all is_ascii_hexdigit text)
digits_spell [] = refl
digits_spell (high ∷ []) = refl
digits_spell (high ∷ low ∷ rest) =
    let two : length (high ∷ low ∷ rest) % 2 ≡ length rest % 2 = ap (λ n. n % 2) (let k : suc (suc (length rest)) ≡ 2 * 1 + length rest = omega arith in k) ∙ mul-add-mod_self_left 2 1 (length rest) in
    pair_spells (hex_digit_of high) (hex_digit_of low) (hex_bytes_of rest) (is_ascii_hexdigit high) (is_ascii_hexdigit low) (length rest % 2 == 0) (list_all is_ascii_hexdigit rest)
    (is_digit_of (is_digit high) (nat_le 65 high && nat_le high 70) (nat_le 97 high && nat_le high 102) (high - 48) (high - 55) (high - 87))
    (is_digit_of (is_digit low) (nat_le 65 low && nat_le low 70) (nat_le 97 low && nat_le low 102) (low - 48) (low - 55) (low - 87))
    (digits_spell rest)
    ∙ ap (λ n. (n == 0) && list_all is_ascii_hexdigit (high ∷ low ∷ rest)) (sym two)

-- what the text of a byte vector spells
abbrev pub value_of_hex : Option (List ℕ) → Option Scalar
value_of_hex o = option_and_then (λ bytes. where_so (is_short bytes) (Bytes bytes)) o

short_is : (bytes : List ℕ) (b : Bool) → is_short bytes ≡ b → is_some (where_so (is_short bytes) (Bytes bytes)) ≡ b
short_is bytes true is = ap (λ s. is_some (where_so s (Bytes bytes))) is
short_is bytes false is = ap (λ s. is_some (where_so s (Bytes bytes))) is

few_spell : (text : List ℕ) (o : Option (List ℕ)) → hex_bytes_of text ≡ o → length text ≤ 131070 → is_some (value_of_hex o) ≡ is_some o
few_spell text None is few = refl
few_spell text (Some bytes) is few = let twice_as_long = length-hex text bytes is in short_is bytes true (le-leb (length bytes) 65535 (omega (arith, twice_as_long, few)))

many_spell_none : (text : List ℕ) (o : Option (List ℕ)) → hex_bytes_of text ≡ o → 131070 < length text → is_some (value_of_hex o) ≡ false
many_spell_none text None is many = refl
many_spell_none text (Some bytes) is many = short_is bytes false (by (is_short bytes) refl) where
  by : (b : Bool) → is_short bytes ≡ b → is_short bytes ≡ false
  by true e = let short : length bytes ≤ 65535 = leb-true (length bytes) 65535 e in let twice_as_long = length-hex text bytes is in absurd (omega (arith, twice_as_long, many, short))
  by false e = e

pub spells_by_digits : (text : List ℕ) → length text ≤ 131070 → (length text % 2 == 0) ≡ true → list_all is_ascii_hexdigit text ≡ is_some (value_of_hex (hex_bytes_of text))
spells_by_digits text few even_so = sym (few_spell text (hex_bytes_of text) refl few ∙ digits_spell text ∙ ap (λ b. b && list_all is_ascii_hexdigit text) even_so)

pub odd_spells_none : (text : List ℕ) → length text ≤ 131070 → (length text % 2 == 0) ≡ false → false ≡ is_some (value_of_hex (hex_bytes_of text))
odd_spells_none text few odd = sym (few_spell text (hex_bytes_of text) refl few ∙ digits_spell text ∙ ap (λ b. b && list_all is_ascii_hexdigit text) odd)

pub long_spells_none : (text : List ℕ) → 131070 < length text → false ≡ is_some (value_of_hex (hex_bytes_of text))
long_spells_none text many = sym (many_spell_none text (hex_bytes_of text) refl many)

-- what the library gives for a text that spells bytes
pub spelled_none : (text : List ℕ) (spells : Bool) → spells ≡ is_some (value_of_hex (hex_bytes_of text)) → spells ≡ false → None ≡ value_of_hex (hex_bytes_of text)
spelled_none text spells is false_so = none_of (value_of_hex (hex_bytes_of text)) (sym is ∙ false_so) where
  none_of : (o : Option Scalar) → is_some o ≡ false → None ≡ o
  none_of None e = refl
  none_of (Some v) e = absurd (true≢false e)

pub spelled_bytes : (text bytes : List ℕ) (spells : Bool) → decode_of text ≡ Ok bytes → spells ≡ is_some (value_of_hex (hex_bytes_of text)) → spells ≡ true → Some (Bytes bytes) ≡ value_of_hex (hex_bytes_of text)
spelled_bytes text bytes spells is spelled so = sym (ap value_of_hex bytes_are ∙ short (is_short bytes) (sym (ap (λ o. is_some (value_of_hex o)) bytes_are) ∙ sym spelled ∙ so)) where
  bytes_are : hex_bytes_of text ≡ Some bytes
  bytes_are = sym (decoded_bytes text) ∙ ap good is

  short : (b : Bool) → is_some (where_so b (Bytes bytes)) ≡ true → where_so b (Bytes bytes) ≡ Some (Bytes bytes)
  short true e = refl
  short false e = absurd (true≢false (sym e))
