-- Words of bits behind a mark, their first 1.
use Rattle.fast_wire.proofs.Common.{◌≡◌, ℕ, zero, suc, ◌+◌, ◌-◌, ◌*◌, ◌/◌, ◌%◌, ◌^◌, ◌<◌, ◌≤◌, Bool, true, false, nat_eq, List, [], ◌∷◌, ◌++◌, length, refl, sym, ap, ◌∙◌, arith, mul-add-div_right, pow-suc, add-one, pow_pos, bool_byte, leading_top, leading_unique, kept_bits, marked_count, word_bits}
use Rattle.fast_wire.proofs.WordForms.{bits_push}

twice_pow : (k : ℕ) → 2 ^ (k + 1) ≡ 2 * 2 ^ k
twice_pow k = rw (add-one, pow-suc 2 k) (omega arith)

-- where the mark stands
pub marked_is : (w k : ℕ) → k ≤ 63 → 2 ^ k ≤ w → w < 2 ^ (k + 1) → marked_count w ≡ k
marked_is w k few low high =
    let twice = twice_pow k in
    let zeros = leading_unique 64 w (63 - k) (k + 1) (omega arith) high (omega arith) in
    omega arith

pub mark_below : (n w : ℕ) → n ≤ 64 → 0 < w → w < 2 ^ n → (k : ℕ) × (k < n) × (marked_count w ≡ k) × (2 ^ k ≤ w) × (w < 2 ^ (k + 1))
mark_below n w few some fits =
    let top = leading_top n w some fits in
    let sum = top.1 in
    let high : w < 2 ^ (top.0 + 1) = rw add-one top.3 in
    (top.0, omega arith, marked_is w top.0 (omega arith) top.2 high, top.2, high)

-- no bits
pub kept_none : (long : List Bool) → long ≡ [] → kept_bits long 1 ≡ []
kept_none long none = rw (none, marked_is 1 0 (omega arith) (omega arith) (omega arith)) refl

-- one bit more
pub marked_push : (long : List Bool) (w b : ℕ) (bit : Bool) → long ≡ [] → 0 < w → w < 2 ^ 63 → b ≡ bool_byte bit → kept_bits long (2 * w + b) ≡ kept_bits long w ++ bit ∷ []
marked_push long w b bit none some below is =
    let mark = mark_below 63 w (omega arith) some below in
    let k = mark.0 in
    let low = mark.3 in let high = mark.4 in let few = mark.1 in
    let small : b ≤ 1 = rw is (byte_small bit) in
    let twice = twice_pow k in let more = twice_pow (k + 1) in
    let next = marked_is (2 * w + b) (k + 1) (omega arith) (omega arith) (omega arith) in
    rw (none, next, mark.2) (bits_push k w b small ∙ ap (λ x. word_bits k w ++ x ∷ []) (rw is (byte_is bit)))
  where
    byte_small : (bit : Bool) → bool_byte bit ≤ 1
    byte_small true = omega arith
    byte_small false = omega arith

    byte_is : (bit : Bool) → nat_eq (bool_byte bit) 1 ≡ bit
    byte_is true = refl
    byte_is false = refl

-- the mark is none of the bits
pub low_bits : (n a w : ℕ) → word_bits n (a * 2 ^ n + w) ≡ word_bits n w
low_bits zero a w = refl
low_bits (suc n) a w =
    let twice : a * 2 ^ suc n ≡ a * 2 * 2 ^ n = rw (pow-suc 2 n) (omega arith) in
    let high : (a * 2 * 2 ^ n + w) / 2 ^ n ≡ a * 2 + w / 2 ^ n = mul-add-div_right {m = 2 ^ n} (pow_pos n) (a * 2) w in
    let bit : (a * 2 + w / 2 ^ n) % 2 ≡ w / 2 ^ n % 2 = omega arith in
    rw (twice, high, bit) (ap (λ l. nat_eq (w / 2 ^ n % 2) 1 ∷ l) (low_bits n (a * 2) w))

pub empty_is : (long : List Bool) → length long ≡ 0 → long ≡ []
empty_is [] none = refl
empty_is (bit ∷ bits) none = absurd (omega arith)

pub kept_word : (long : List Bool) (w : ℕ) → long ≡ [] → kept_bits long w ≡ word_bits (marked_count w) w
kept_word long w none = rw none refl

pub kept_long : (long : List Bool) (w : ℕ) → (long ≡ [] → ⊥) → kept_bits long w ≡ long
kept_long [] w some = absurd (some refl)
kept_long (bit ∷ bits) w some = refl

-- the bits behind the mark
pub unmarked : (w k : ℕ) → 2 ^ k ≤ w → word_bits k (w - 2 ^ k) ≡ word_bits k w
unmarked w k low =
    let sum : 1 * 2 ^ k + (w - 2 ^ k) ≡ w = omega arith in
    sym (low_bits k 1 (w - 2 ^ k)) ∙ ap (word_bits k) sum

-- what a call of the mark's place says
pub mark_found : (w : ℕ) → 0 < w → w < 2 ^ 64 → (2 ^ marked_count w ≤ w) × (w < 2 ^ marked_count w + 2 ^ marked_count w)
mark_found w some fits =
    let mark = mark_below 64 w (omega arith) some fits in
    let high = mark.4 in let twice = twice_pow mark.0 in
    rw mark.2 (mark.3, omega arith)
