-- The high bits of a word say whether its bytes are ASCII.
use Rattle.fast_take.proofs.Common.{◌≡◌, ℕ, zero, suc, ◌+◌, ◌*◌, ◌/◌, ◌<◌, List, length, get_or, refl, sym, ap, ◌∙◌, inl, inr, arith, ◌↔◌, cases_lt, eq-eqb, eqb-true, get_or_past, and_block, and_high_mask, w64, from_le_bytes, bit_and, ◌==◌, IsTrue, IsAscii}

-- the number that n bytes from k on spell, the least first
abbrev spelled : (ℕ → ℕ) → ℕ → ℕ → ℕ
spelled b k zero = 0
spelled b k (suc n) = spelled b (suc k) n * 256 + b k

-- the high bit of a byte, and nothing else of it
abbrev high : (ℕ → ℕ) → ℕ → ℕ
high b k = b k / 128 * 128

high_byte : (r : ℕ) → r < 256 → bit_and r 128 ≡ r / 128 * 128
high_byte r small = and_high_mask 8 7 (omega arith) r small

high_bytes : (b : ℕ → ℕ) → ((k : ℕ) → b k < 256) → (n k : ℕ) → bit_and (spelled b k n) (spelled (λ _. 128) k n) ≡ spelled (high b) k n
high_bytes b small zero k = refl
high_bytes b small (suc n) k =
    and_block 8 (spelled b (suc k) n) (spelled (λ _. 128) (suc k) n) (b k) 128 (small k) (omega arith)
    ∙ ap (λ x. x * 256 + bit_and (b k) 128) (high_bytes b small n (suc k))
    ∙ ap (λ x. spelled (high b) (suc k) n * 256 + x) (high_byte (b k) (small k))

each_zero : (b : ℕ → ℕ) (n k : ℕ) → spelled b k n ≡ 0 → (j : ℕ) → j < n → b (k + j) ≡ 0
each_zero b zero k none j within = absurd (omega arith)
each_zero b (suc n) k none zero within = let e : k + 0 ≡ k = omega arith in ap b e ∙ omega arith
each_zero b (suc n) k none (suc j) within = let e : k + suc j ≡ suc k + j = omega arith in ap b e ∙ each_zero b n (suc k) (omega arith) j (omega arith)

all_zero : (b : ℕ → ℕ) → ((k : ℕ) → b k ≡ 0) → (n k : ℕ) → spelled b k n ≡ 0
all_zero b none zero k = refl
all_zero b none (suc n) k = omega (arith, none k, all_zero b none n (suc k))

module _ (bs : List ℕ) (n : ℕ) (long : length bs ≡ 8) (small : (k : ℕ) → get_or bs k 0 < 256) (read : n ≡ from_le_bytes w64 bs) where
  abbrev byte : ℕ → ℕ
  byte k = get_or bs k 0

  word : n ≡ spelled byte 0 8
  word = omega arith

  masked : bit_and n 0x8080_8080_8080_8080 ≡ spelled (high byte) 0 8
  masked = ap (λ w. bit_and w 0x8080_8080_8080_8080) word ∙ high_bytes byte small 8 0

  low : bit_and n 0x8080_8080_8080_8080 ≡ 0 → (k : ℕ) → byte k < 128
  low none k = elim (cases_lt k 8) [
    | inl within ↦
        let e : byte (0 + k) / 128 * 128 ≡ 0 = each_zero (high byte) 8 0 (sym masked ∙ none) k within in
        let same : 0 + k ≡ k = omega arith in
        omega (arith, ap byte same)
    | inr past ↦ omega (arith, get_or_past bs k 0 (omega arith))
  ]

  pub ascii_word : IsTrue (bit_and n 0x8080_8080_8080_8080 == 0) ↔ IsAscii bs
  ascii_word = (λ none. low (eqb-true _ _ none), λ ascii. eq-eqb _ _ (masked ∙ all_zero (high byte) (λ k. omega (arith, ascii k)) 8 0))
