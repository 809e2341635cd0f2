-- The numbers of a line are numbers of JSON, and are read as what they were written of.
use Rattle.std.proofs.Common.{◌≡◌, ℕ, ℤ, pos, negsuc, neg_ℤ, zero, suc, ◌+◌, ◌-◌, ◌*◌, ◌^◌, ◌<◌, ◌≤◌, Bool, true, false, List, [], ◌∷◌, ◌++◌, length, get_or, Some, option_and_then, option_map, decimal, refl, sym, ap, ap₂, ◌∙◌, inl, inr, ◌⊎◌, arith, append_assoc, append-nil}
use Rattle.std.proofs.lemmas.Bool.{cases_eq, ne_eqb, le-leb, and_from}
use Rattle.std.proofs.Math.Seq.{drop-append_seam}
use Rattle.std.proofs.lemmas.Fmt.{decimal_is_IsNumeral, decimal_digit, first_decimal}
use Rattle.std.proofs.lemmas.Str.{digit_value_digit}
use Rattle.std.proofs.lemmas.Str.Parse.{digit_from_value}
use Rattle.std.proofs.lemmas.Float.Parse.{scan_numeral-text_of}
use Rattle.std.specs.Fmt.{signed_decimal, sign_text}
use Rattle.std.specs.List.{prefix_len, list_all, fold}
use Rattle.std.specs.Char.{is_ascii_digit, digit_value}
use Rattle.std.specs.Str.Parse.{AllDigits, digits_value, digits_value_after}
use Rattle.std.specs.Float.Numeral.{Parts, exponent_text}
use Rattle.std.specs.Int.Signed.{mag}
use Rattle.json.specs.Word.{head, after_digits, after_minus, after_sign, after_whole, after_fraction, after_exponent, after_number}
use Rattle.json.specs.Print.{IsNumber}
use Rattle.fast_float.specs.Text.{scan, with_sign}
use Rattle.fast_value.specs.InitialValues.{is_digit, digits_of, integer_of, decimal_value}
use Rattle.fast_lines.specs.Lines.{decimal_text}
use Rattle.fast_spelled.specs.Numbers.{lowered, decimal_by, decimal_of}

-- digits, one or more, with no 0 in front of others
record AreDigits (ds : List ℕ) : Type 0 where
  all : AllDigits 10 ds
  some : 0 < length ds
  lead : get_or ds 0 0 ≡ 48 → length ds ≡ 1

decimal_lead : (n : ℕ) → n < 2 ^ 64 → get_or (decimal n) 0 0 ≡ 48 → length (decimal n) ≡ 1
decimal_lead zero h e = ap length (decimal_digit 0 (omega arith))
decimal_lead (suc n) h e = absurd (omega (arith, first_decimal (suc n) (omega arith) h))

decimal_digits : (n : ℕ) → n < 2 ^ 64 → AreDigits (decimal n)
decimal_digits n h = let k = decimal_is_IsNumeral n h in record { all = k.0.1; some = k.0.0; lead = decimal_lead n h }

-- ---- a number of JSON

-- no digit comes first
abbrev Ends : List ℕ → Type 0
Ends r = prefix_len is_ascii_digit r ≡ 0

ascii_digit : (c : ℕ) → digit_value c < 10 → is_ascii_digit c ≡ true
ascii_digit c d = let k = digit_from_value c d in and_from _ _ (le-leb 48 c k.0) (le-leb c 57 k.1)

prefix_digits : (ds r : List ℕ) → AllDigits 10 ds → Ends r → prefix_len is_ascii_digit (ds ++ r) ≡ length ds
prefix_digits [] r d z = z
prefix_digits (c ∷ cs) r d z = rw (ascii_digit c d.0, prefix_digits cs r d.1 z) (omega arith)

digits_then : (ds r : List ℕ) → AllDigits 10 ds → 0 < length ds → Ends r → after_digits (ds ++ r) ≡ Some r
digits_then [] r d some z = absurd (omega arith)
digits_then (c ∷ cs) r d some z =
    let n = prefix_digits (c ∷ cs) r d z in
    rw (n, ne_eqb (suc (length cs)) 0 (λ e. omega arith)) (ap Some (drop-append_seam (c ∷ cs) r))

zero_then : (cs r : List ℕ) → length (48 ∷ cs) ≡ 1 → after_whole (48 ∷ (cs ++ r)) ≡ Some r
zero_then [] r l = refl
zero_then (x ∷ xs) r l = absurd (omega arith)

whole_then : (ds r : List ℕ) → AreDigits ds → Ends r → after_whole (ds ++ r) ≡ Some r
whole_then [] r d z = absurd (omega (arith, d.some))
whole_then (c ∷ cs) r d z = go (cases_eq c 48)
  where
    go : (c ≡ 48) ⊎ (c ≡ 48 → ⊥) → after_whole (c ∷ cs ++ r) ≡ Some r
    go (inl e) = ap (λ k. after_whole (k ∷ (cs ++ r))) e ∙ zero_then cs r (d.lead e)
    go (inr ne) = rw (ne_eqb c 48 ne) (digits_then (c ∷ cs) r d.all d.some z)

first_is : (ds r : List ℕ) → AreDigits ds → 48 ≤ head (ds ++ r)
first_is [] r d = absurd (omega (arith, d.some))
first_is (c ∷ cs) r d = (digit_from_value c d.all.0).0

no_sign : (ds r : List ℕ) → AreDigits ds → after_sign (ds ++ r) ≡ ds ++ r
no_sign ds r d = let f = first_is ds r d in rw (ne_eqb (head (ds ++ r)) 45 (λ e. omega arith), ne_eqb (head (ds ++ r)) 43 (λ e. omega arith)) refl

no_minus : (ds r : List ℕ) → AreDigits ds → after_minus (ds ++ r) ≡ ds ++ r
no_minus ds r d = let f = first_is ds r d in rw (ne_eqb (head (ds ++ r)) 45 (λ e. omega arith)) refl

exponent_ends : (e : ℤ) → mag e < 2 ^ 63 → after_digits (after_sign (signed_decimal e)) ≡ Some []
exponent_ends (pos n) h =
    let d = decimal_digits n (omega arith) in
    ap (λ l. after_digits (after_sign l)) (sym (append-nil (decimal n))) ∙ ap after_digits (no_sign (decimal n) [] d) ∙ digits_then (decimal n) [] d.all d.some refl
exponent_ends (negsuc n) h =
    let d = decimal_digits (suc n) (omega arith) in
    ap after_digits (sym (append-nil (decimal (suc n)))) ∙ digits_then (decimal (suc n)) [] d.all d.some refl

mantissa_ends : (m : ℤ) (r : List ℕ) → mag m < 2 ^ 63 → Ends r → after_whole (after_minus (signed_decimal m ++ r)) ≡ Some r
mantissa_ends (pos n) r h z =
    let d = decimal_digits n (omega arith) in
    ap after_whole (no_minus (decimal n) r d) ∙ whole_then (decimal n) r d z
mantissa_ends (negsuc n) r h z = whole_then (decimal (suc n)) r (decimal_digits (suc n) (omega arith)) z

pub IsNumber-decimal_text : (m e : ℤ) → mag m < 2 ^ 63 → mag e < 2 ^ 63 → IsNumber (decimal_text m e)
unfolding after_number
IsNumber-decimal_text m e h k =
    ap (λ l. option_and_then after_exponent (option_and_then after_fraction (after_whole (after_minus l)))) (append_assoc (signed_decimal m) (101 ∷ []) (signed_decimal e))
    ∙ ap (λ o. option_and_then after_exponent (option_and_then after_fraction o)) (mantissa_ends m (101 ∷ signed_decimal e) h refl)
    ∙ exponent_ends e k

-- ---- integers

pub fold_value : (ds : List ℕ) (n : ℕ) → AllDigits 10 ds → fold (λ a d. 10 * a + (d - 48)) n ds ≡ digits_value_after 10 n ds
fold_value [] n d = refl
fold_value (c ∷ cs) n d =
    let k = digit_value_digit c (digit_from_value c d.0) in
    let same : 10 * n + (c - 48) ≡ n * 10 + digit_value c = omega arith in
    ap (λ a. fold (λ a d. 10 * a + (d - 48)) a cs) same ∙ fold_value cs (n * 10 + digit_value c) d.1

all_digits : (ds : List ℕ) → AllDigits 10 ds → list_all is_digit ds ≡ true
all_digits [] d = refl
all_digits (c ∷ cs) d = let k = digit_from_value c d.0 in and_from _ _ (and_from _ _ (le-leb 48 c k.0) (le-leb c 57 k.1)) (all_digits cs d.1)

digits_read : (ds : List ℕ) → AreDigits ds → digits_of ds ≡ Some (digits_value 10 ds)
digits_read [] d = absurd (omega (arith, d.some))
digits_read (c ∷ cs) d = rw (all_digits (c ∷ cs) d.all) (ap Some (fold_value (c ∷ cs) 0 d.all))

unsigned_read : (ds : List ℕ) → AreDigits ds → integer_of ds ≡ Some (pos (digits_value 10 ds))
unsigned_read [] d = absurd (omega (arith, d.some))
unsigned_read (c ∷ cs) d =
    let k = digit_from_value c d.all.0 in
    rw (ne_eqb c 45 (λ e. omega arith)) (ap (option_map pos) (digits_read (c ∷ cs) d))

pub decimal_read : (n : ℕ) → n < 2 ^ 64 → integer_of (decimal n) ≡ Some (pos n)
decimal_read n h = unsigned_read (decimal n) (decimal_digits n h) ∙ ap (λ k. Some (pos k)) (decimal_is_IsNumeral n h).1

pub signed_read : (z : ℤ) → mag z < 2 ^ 63 → integer_of (signed_decimal z) ≡ Some z
signed_read (pos n) h = decimal_read n (omega arith)
signed_read (negsuc n) h =
    ap (option_map (λ k. neg_ℤ (pos k))) (digits_read (decimal (suc n)) (decimal_digits (suc n) (omega arith)) ∙ ap Some (decimal_is_IsNumeral (suc n) (omega arith)).1)

-- ---- decimals

exponent_text_is : (negative : Bool) (xs : List ℕ) → 0 < length xs → exponent_text negative xs ≡ 101 ∷ (sign_text negative ++ xs)
exponent_text_is negative [] some = absurd (omega arith)
exponent_text_is negative (x ∷ xs) some = refl

abbrev parts_with : List ℕ → Bool → List ℕ → Parts
parts_with ds negative xs = record {
  whole = ds;
  point = false;
  fraction = [];
  exponent_negative = negative;
  exponent = xs;
  len = length (ds ++ ([] ++ exponent_text negative xs));
}

not_empty : (xs : List ℕ) → 0 < length xs → xs ≡ [] → ⊥
not_empty xs some e = omega (arith, ap length e)

scanned : (ds : List ℕ) (negative : Bool) (xs : List ℕ) → AreDigits ds → AreDigits xs → scan (ds ++ (101 ∷ (sign_text negative ++ xs))) ≡ parts_with ds negative xs
unfolding scan
scanned ds negative xs d x =
    ap (λ l. scan (ds ++ l)) (sym (exponent_text_is negative xs x.some))
    ∙ scan_numeral-text_of (parts_with ds negative xs) (record {
      whole_digits = d.all;
      fraction_digits = tt;
      exponent_digits = x.all;
      no_point = λ e. refl;
      no_exponent = λ e. absurd (not_empty xs x.some e);
      len_is = refl;
    })

-- an exponent as it is written
record Exponent (e : ℤ) : Type 0 where
  negative : Bool
  digits : List ℕ
  are : AreDigits digits
  text : signed_decimal e ≡ sign_text negative ++ digits
  value : lowered negative (digits_value 10 digits) 0 ≡ e

plain_exponent : (n : ℕ) → lowered false n 0 ≡ pos n
plain_exponent n = rw (le-leb 0 n (omega arith)) (ap pos (omega arith))

raised_exponent : (n : ℕ) → lowered true (suc n) 0 ≡ negsuc n
raised_exponent n = let same : suc n + 0 ≡ suc n = omega arith in ap (λ k. neg_ℤ (pos k)) same

exponent_of : (e : ℤ) → mag e < 2 ^ 63 → Exponent e
exponent_of (pos n) h = record {
  negative = false;
  digits = decimal n;
  are = decimal_digits n (omega arith);
  text = refl;
  value = ap (λ k. lowered false k 0) (decimal_is_IsNumeral n (omega arith)).1 ∙ plain_exponent n;
}
exponent_of (negsuc n) h = record {
  negative = true;
  digits = decimal (suc n);
  are = decimal_digits (suc n) (omega arith);
  text = refl;
  value = ap (λ k. lowered true k 0) (decimal_is_IsNumeral (suc n) (omega arith)).1 ∙ raised_exponent n;
}

unsigned_decimal : (ds r : List ℕ) → AreDigits ds → decimal_of (ds ++ r) ≡ decimal_by false (scan (ds ++ r))
unsigned_decimal [] r d = absurd (omega (arith, d.some))
unsigned_decimal (c ∷ cs) r d = let k = digit_from_value c d.all.0 in rw (ne_eqb c 45 (λ e. omega arith)) refl

numeral_read : (b : Bool) (n : ℕ) (e : ℤ) → n < 2 ^ 64 → mag e < 2 ^ 63 → decimal_by b (scan ((decimal n ++ 101 ∷ []) ++ signed_decimal e)) ≡ decimal_value (Some (with_sign b n)) (Some e)
numeral_read b n e h k =
    let x = exponent_of e k in
    let d = decimal_digits n h in
    ap (λ l. decimal_by b (scan l)) (append_assoc (decimal n) (101 ∷ []) (signed_decimal e) ∙ ap (λ l. decimal n ++ (101 ∷ l)) x.text)
    ∙ ap (decimal_by b) (scanned (decimal n) x.negative x.digits d x.are)
    ∙ ap₂ (λ m z. decimal_value (Some (with_sign b m)) (Some z)) (ap (digits_value 10) (append-nil (decimal n)) ∙ (decimal_is_IsNumeral n h).1) x.value

pub decimal_text_read : (m e : ℤ) → mag m < 2 ^ 63 → mag e < 2 ^ 63 → decimal_of (decimal_text m e) ≡ decimal_value (Some m) (Some e)
decimal_text_read (pos n) e h k =
    let d = decimal_digits n (omega arith) in
    ap decimal_of (append_assoc (decimal n) (101 ∷ []) (signed_decimal e)) ∙ unsigned_decimal (decimal n) (101 ∷ signed_decimal e) d
    ∙ ap (λ l. decimal_by false (scan l)) (sym (append_assoc (decimal n) (101 ∷ []) (signed_decimal e))) ∙ numeral_read false n e (omega arith) k
decimal_text_read (negsuc n) e h k = numeral_read true (suc n) e (omega arith) k
