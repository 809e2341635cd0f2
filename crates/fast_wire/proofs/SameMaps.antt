-- A presence map of a given length is one.
use Rattle.fast_wire.proofs.Common.{◌≡◌, ℕ, zero, suc, ◌+◌, ◌*◌, ◌/◌, ◌%◌, ◌<◌, nat_eq, List, [], ◌∷◌, length, refl, sym, ap, ap₂, ◌∙◌, arith, IsEntity, groups, bit_at, bits_of}

same_bit : (a b : ℕ) → a < 2 → b < 2 → nat_eq a 1 ≡ nat_eq b 1 → a ≡ b
same_bit zero zero la lb e = refl
same_bit zero (suc zero) la lb e = absurd cc
same_bit (suc zero) zero la lb e = absurd cc
same_bit (suc zero) (suc zero) la lb e = refl
same_bit zero (suc (suc b)) la lb e = absurd (omega arith)
same_bit (suc zero) (suc (suc b)) la lb e = absurd (omega arith)
same_bit (suc (suc a)) b la lb e = absurd (omega arith)

-- a group is the sum of its bits
sum_of_bits : (g : ℕ) → g < 128 → g ≡ 64 * (g / 64 % 2) + 32 * (g / 32 % 2) + 16 * (g / 16 % 2) + 8 * (g / 8 % 2) + 4 * (g / 4 % 2) + 2 * (g / 2 % 2) + g % 2
sum_of_bits g low = omega arith

-- groups of the same bits are the same
same_group : (g h : ℕ) → g < 128 → h < 128 → g / 64 % 2 ≡ h / 64 % 2 → g / 32 % 2 ≡ h / 32 % 2 → g / 16 % 2 ≡ h / 16 % 2 → g / 8 % 2 ≡ h / 8 % 2 → g / 4 % 2 ≡ h / 4 % 2
    → g / 2 % 2 ≡ h / 2 % 2 → g % 2 ≡ h % 2 → g ≡ h
same_group g h lg lh e₀ e₁ e₂ e₃ e₄ e₅ e₆ = sum_of_bits g lg ∙ (rw (e₀, e₁, e₂, e₃, e₄, e₅, e₆) refl) ∙ sym (sum_of_bits h lh)

-- the first groups of two maps with the same bits
first_group : (x y : ℕ) (xs ys : List ℕ) → ((i : ℕ) → bit_at (bits_of (groups (x ∷ xs))) i ≡ bit_at (bits_of (groups (y ∷ ys))) i) → x % 128 ≡ y % 128
first_group x y xs ys same =
    let g = x % 128 in let h = y % 128 in
    same_group g h (omega arith) (omega arith)
    (same_bit (g / 64 % 2) (h / 64 % 2) (omega arith) (omega arith) (same 0))
    (same_bit (g / 32 % 2) (h / 32 % 2) (omega arith) (omega arith) (same 1))
    (same_bit (g / 16 % 2) (h / 16 % 2) (omega arith) (omega arith) (same 2))
    (same_bit (g / 8 % 2) (h / 8 % 2) (omega arith) (omega arith) (same 3))
    (same_bit (g / 4 % 2) (h / 4 % 2) (omega arith) (omega arith) (same 4))
    (same_bit (g / 2 % 2) (h / 2 % 2) (omega arith) (omega arith) (same 5))
    (same_bit (g % 2) (h % 2) (omega arith) (omega arith) (same 6))

-- two entities of one length that have the same bits are the same bytes
pub one_map : (b c : List ℕ) → IsEntity b → IsEntity c → length b ≡ length c → ((i : ℕ) → bit_at (bits_of (groups b)) i ≡ bit_at (bits_of (groups c)) i) → b ≡ c
one_map [] c hb hc long same = absurd hb
one_map (x ∷ xs) [] hb hc long same = absurd hc
one_map (x ∷ []) (y ∷ []) hb hc long same =
    let e = first_group x y [] [] same in
    let head : x ≡ y = omega (arith, hb.0, hb.1, hc.0, hc.1) in ap (λ z. z ∷ []) head
one_map (x ∷ []) (y ∷ y' ∷ ys) hb hc long same = absurd (omega arith)
one_map (x ∷ x' ∷ xs) (y ∷ []) hb hc long same = absurd (omega arith)
one_map (x ∷ x' ∷ xs) (y ∷ y' ∷ ys) hb hc long same =
    let e = first_group x y (x' ∷ xs) (y' ∷ ys) same in
    let head : x ≡ y = omega (arith, hb.0, hc.0) in
    ap₂ (λ z zs. z ∷ zs) head (one_map (x' ∷ xs) (y' ∷ ys) hb.1 hc.1 (omega arith) (λ i. same (suc (suc (suc (suc (suc (suc (suc i)))))))))
