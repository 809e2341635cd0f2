-- Bytes of a string as they stand in a text, by a table of both.
use Rattle.fast_lines.proofs.Common.{◌≡◌, ℕ, suc, ◌+◌, ◌-◌, ◌*◌, ◌<◌, ◌≤◌, Bool, true, false, T, eqb, ◌&&◌, cond, List, [], ◌∷◌, ◌++◌, ◌∙◌, get_or, take, drop, length, arith, inl, inr, refl, sym, ap, ap₂, chunk, put_chunk, encode_with, length-chunk, length-drop, length-take-le, take-take, take-append-add, is_plain, unit_text, Text}
use Rattle.std.proofs.Common.{zero, eq-zero-or-pos, eqb→eq}
use Rattle.std.proofs.lemmas.Simd.{take_more_put_chunk}
use lib.Ieee.Fits.{and_l, and_r}
use Rattle.fast_lines.specs.declared.strings.TheConstants.{UNIT_TEXTS, WIDTHS}

-- ---- the table

abbrev same : List ℕ → List ℕ → Bool
same [] [] = true
same [] (y ∷ ys) = false
same (x ∷ xs) [] = false
same (x ∷ xs) (y ∷ ys) = eqb x y && same xs ys

are_same : (xs ys : List ℕ) → T (same xs ys) → xs ≡ ys
are_same [] [] t = refl
are_same [] (y ∷ ys) t = absurd t
are_same (x ∷ xs) [] t = absurd t
are_same (x ∷ xs) (y ∷ ys) t = ap₂ (λ z zs. z ∷ zs) (eqb→eq x y (and_l _ (same xs ys) t)) (are_same xs ys (and_r (eqb x y) _ t))

abbrev width_of : Bool → ℕ
width_of true = 1
width_of false = 4

abbrev four_at : ℕ → List ℕ
four_at b = chunk 0 4 (take (1024 - b * 4) (drop (b * 4) UNIT_TEXTS))

abbrev is_unit : ℕ → Bool
is_unit b = eqb (get_or WIDTHS b 0) (width_of (is_plain b)) && same (take (get_or WIDTHS b 0) (four_at b)) (unit_text Text b)

abbrev are_units : ℕ → Bool
are_units zero = true
are_units (suc b) = is_unit b && are_units b

below : (n b : ℕ) → T (are_units n) → b < n → T (is_unit b)
below zero b t h = absurd (omega arith)
below (suc n) b t h =
    elim (eq-zero-or-pos (n - b)) [
      | inl z ↦ let e : b ≡ n = omega arith in rw e (and_l (is_unit n) (are_units n) t)
      | inr g ↦ below n b (and_r (is_unit n) (are_units n) t) (omega arith)
    ]

units_at : (b : ℕ) → b < 256 → (get_or WIDTHS b 0 ≡ width_of (is_plain b)) × (take (get_or WIDTHS b 0) (four_at b) ≡ unit_text Text b)
unfolding encode_with
units_at b h =
    let t = below 256 b tt h in
    let w = get_or WIDTHS b 0 in
    let v = width_of (is_plain b) in
    let s = take w (four_at b) in
    let u = unit_text Text b in
    (eqb→eq w v (and_l (eqb w v) (same s u) t), are_same s u (and_r (eqb w v) (same s u) t))

width_le : (p : Bool) → width_of p ≤ 4
width_le true = omega arith
width_le false = omega arith

width_is_one : (p : Bool) → eqb (width_of p) 1 ≡ p
width_is_one true = refl
width_is_one false = refl

-- whether a byte stands as it is
pub stands_at : (b : ℕ) → b < 256 → eqb (get_or WIDTHS b 0) 1 ≡ is_plain b
stands_at b h = rw ((units_at b h).0) (width_is_one (is_plain b))

pub width_at : (b : ℕ) → b < 256 → get_or WIDTHS b 0 ≤ 4
width_at b h = rw ((units_at b h).0) (width_le (is_plain b))

-- four bytes of the table that are put at a place, of which as many count as the width has
pub unit_laid : (xs : List ℕ) (at b : ℕ) → b < 256 → at + 4 ≤ length xs → take (at + get_or WIDTHS b 0) (put_chunk at xs (four_at b)) ≡ take at xs ++ unit_text Text b
unit_laid xs at b h room =
    let w = get_or WIDTHS b 0 in
    let c = four_at b in
    let all : length UNIT_TEXTS ≡ 1024 = refl in
    let behind = drop (b * 4) UNIT_TEXTS in
    let rest : length (take (1024 - b * 4) behind) ≡ 1024 - b * 4 = length-take-le (1024 - b * 4) behind (omega (arith, all, length-drop (b * 4) UNIT_TEXTS)) in
    let long : length c ≡ 4 = length-chunk 0 4 (take (1024 - b * 4) behind) (omega (arith, h, rest)) in
    let before : length (take at xs) ≡ at = length-take-le at xs (omega (arith, room)) in
    sym (take-take (at + w) (at + 4) (put_chunk at xs c) (omega (arith, width_at b h)))
    ∙ ap (take (at + w)) (take_more_put_chunk at xs c (at + 4) (omega (arith, long)) room)
    ∙ ap (λ m. take (m + w) (take at xs ++ c)) (sym before)
    ∙ take-append-add (take at xs) c w
    ∙ ap (λ z. take at xs ++ z) ((units_at b h).1)
