-- Pieces of a line in front of what is left.
use Rattle.std.proofs.Common.{◌≡◌, ℕ, ◌==◌, ◌+◌, ◌*◌, ◌/◌, ◌%◌, ◌<◌, nat_le, not, ◌&&◌, true, List, [], ◌∷◌, ◌++◌, take, length, get_or, slice_index, decimal, refl, sym, ap, ap₂, ◌∙◌, arith, append_assoc, subst}
use Rattle.std.proofs.lemmas.Bool.{and_parts, not-true}
use Rattle.std.proofs.lemmas.Fmt.{decimal_digit, decimal_step}
use Rattle.std.proofs.lemmas.List.{take_more}
use Rattle.std.specs.List.{AllByRecursion, flat_map, list_all}
use Rattle.hex.specs.Hex.{encode_lower, lower_digits}
unfoldable use Rattle.hex.specs.Hex.{encode_with}
use Rattle.fast_lines.specs.declared.form.Form.TheVariants.{Json}
use Rattle.fast_lines.specs.Signs.{unit_text}
use Rattle.fast_spelled.specs.Shown.{is_plain_unit}

-- ---- bytes that stand as they are

plain_unit : (c : ℕ) → is_plain_unit c ≡ true → unit_text Json c ≡ c ∷ []
plain_unit c e =
    let p = and_parts (nat_le 0x20 c && not (c == 0x7f) && not (c == 0x22)) (not (c == 0x5c)) e in
    let q = and_parts (nat_le 0x20 c && not (c == 0x7f)) (not (c == 0x22)) p.0 in
    let r = and_parts (nat_le 0x20 c) (not (c == 0x7f)) q.0 in
    rw (r.0, not-true (c == 0x7f) r.1, not-true (c == 0x22) q.1, not-true (c == 0x5c) p.1) refl

pub plain_units : (s : List ℕ) → list_all is_plain_unit s ≡ true → flat_map (unit_text Json) s ≡ s
plain_units [] e = refl
plain_units (c ∷ s) e =
    let both = and_parts (is_plain_unit c) (list_all is_plain_unit s) e in
    ap₂ (λ x y. x ++ y) (plain_unit c both.0) (plain_units s both.1)

-- ---- digits

-- a digit more behind a number that is not 0
pub digit_more : (n d : ℕ) → 0 < n → n < 1000000000000000000 → d < 10 → decimal (10 * n + d) ≡ decimal n ++ ((48 + d) ∷ [])
digit_more n d some few digit =
    let front : (10 * n + d) / 10 ≡ n = omega arith in
    let last : (10 * n + d) % 10 ≡ d = omega arith in
    decimal_step (10 * n + d) (omega arith) (omega arith) ∙ ap₂ (λ k x. decimal k ++ ((48 + x) ∷ [])) front last

encode-append : (t xs ys : List ℕ) → encode_with t (xs ++ ys) ≡ encode_with t xs ++ encode_with t ys
unfolding encode_with
encode-append t [] ys = refl
encode-append t (b ∷ rest) ys = ap (λ l. slice_index t (b / 16) ∷ slice_index t (b % 16) ∷ l) (encode-append t rest ys)

-- two hex digits more
pub encode_more : (xs : List ℕ) (high low : ℕ) → low < 16 → encode_lower (xs ++ ((16 * high + low) ∷ [])) ≡ encode_lower xs ++ (slice_index lower_digits high ∷ (slice_index lower_digits low ∷ []))
unfolding encode_with
encode_more xs high low few =
    let front : (16 * high + low) / 16 ≡ high = omega arith in
    let last : (16 * high + low) % 16 ≡ low = omega arith in
    encode-append lower_digits xs ((16 * high + low) ∷ []) ∙ ap₂ (λ h l. encode_lower xs ++ (slice_index lower_digits h ∷ (slice_index lower_digits l ∷ []))) front last

pub two_more : (xs : List ℕ) (i : ℕ) → i + 1 < length xs → take (i + 2) xs ≡ take i xs ++ (get_or xs i 0 ∷ (get_or xs (i + 1) 0 ∷ []))
two_more xs i h =
    let within : i < length xs = omega (arith, h) in
    let next : i + 1 + 1 ≡ i + 2 = omega arith in
    ap (λ n. take n xs) (sym next) ∙ take_more xs (i + 1) 0 h ∙ ap (λ l. l ++ (get_or xs (i + 1) 0 ∷ [])) (take_more xs i 0 within)
    ∙ append_assoc (take i xs) (get_or xs i 0 ∷ []) (get_or xs (i + 1) 0 ∷ [])

pub one_digit : (xs left : List ℕ) (c n : ℕ) → xs ≡ c ∷ left → c ≡ 48 + n → n < 10 → xs ≡ decimal n ++ left
one_digit xs left c n e is few = e ∙ ap (λ x. x ∷ left) is ∙ ap (λ l. l ++ left) (sym (decimal_digit n few))

pub first_digit : (xs left : List ℕ) (c n : ℕ) → xs ≡ c ∷ left → c ≡ 48 + n → n < 10 → take 1 xs ≡ decimal n
first_digit xs left c n e is few = ap (take 1) e ∙ ap (λ x. x ∷ []) is ∙ sym (decimal_digit n few)

pub digits_more : (xs : List ℕ) (at n d : ℕ) → at < length xs → take at xs ≡ decimal n → get_or xs at 0 ≡ 48 + d → 0 < n → n < 1000000000000000000 → d < 10 → take (at + 1) xs ≡ decimal (10 * n + d)
digits_more xs at n d within e is some few digit =
    take_more xs at 0 within ∙ ap₂ (λ l x. l ++ (x ∷ [])) e is ∙ sym (digit_more n d some few digit)

pub encode_none : encode_lower [] ≡ []
unfolding encode_with
encode_none = refl

pub pairs_more : (xs bytes more : List ℕ) (at high low : ℕ) → at + 1 < length xs → encode_lower bytes ≡ take at xs → slice_index lower_digits high ≡ get_or xs at 0 → slice_index lower_digits low ≡ get_or xs (at + 1) 0 → low < 16 → more ≡ bytes ++ ((16 * high + low) ∷ [])
    → encode_lower more ≡ take (at + 2) xs
pairs_more xs bytes more at high low within e h l few is =
    ap encode_lower is ∙ encode_more bytes high low few ∙ ap₂ (λ a t. a ++ t) e (ap₂ (λ x y. x ∷ (y ∷ [])) h l) ∙ sym (two_more xs at within)

both_small : (xs : List ℕ) (b : ℕ) → AllByRecursion (λ c. c < 256) xs → b < 256 → AllByRecursion (λ c. c < 256) (xs ++ (b ∷ []))
both_small [] b h few = (few, tt)
both_small (c ∷ xs) b h few = (h.0, both_small xs b h.1 few)

pub small_more : (xs more : List ℕ) (b : ℕ) → AllByRecursion (λ c. c < 256) xs → b < 256 → more ≡ xs ++ (b ∷ []) → AllByRecursion (λ c. c < 256) more
small_more xs more b h few e = subst (AllByRecursion (λ c. c < 256)) (sym e) (both_small xs b h few)
