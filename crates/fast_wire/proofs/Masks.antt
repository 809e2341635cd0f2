-- The bits of a word from a mask down.
use Rattle.fast_wire.proofs.Common.{◌≡◌, ℕ, zero, suc, ◌*◌, ◌/◌, ◌%◌, ◌^◌, ◌<◌, ◌≤◌, nat_eq, not, List, [], ◌∷◌, refl, ap, ◌∙◌, arith, inl, inr, bit_and, drop, length, length-drop, IsTrue, nat_tests, length-map, and_zero_r, pow_below, pow_pos, shl_whole, and_pow, groups, HasSetBit, IsMask, bits_of, bits_under, later_bits, next_bit, word_bits}
use Rattle.fast_wire.proofs.MapBits.{length_bits}
use Rattle.fast_wire.proofs.WordBits.{left_bits}

-- under a mask of 0 there is none
pub none_under : (n w : ℕ) → bits_under n 0 w ≡ []
none_under zero w = refl
none_under (suc n) w = refl

one_under : (n m w : ℕ) → 0 < m → bits_under (suc n) m w ≡ nat_eq (w / m % 2) 1 ∷ bits_under n (m / 2) w
one_under n zero w some = absurd (omega arith)
one_under n (suc m) w some = refl

half : (k : ℕ) → 2 ^ suc k / 2 ≡ 2 ^ k
half k = omega arith

under_power : (k n w : ℕ) → k < n → bits_under n (2 ^ k) w ≡ word_bits (suc k) w
under_power k zero w h = absurd (omega arith)
under_power zero (suc n) w h =
    let last : 2 ^ 0 / 2 ≡ 0 = omega arith in
    one_under n (2 ^ 0) w (pow_pos 0) ∙ ap (λ m. nat_eq (w / 2 ^ 0 % 2) 1 ∷ bits_under n m w) last ∙ ap (λ l. nat_eq (w / 2 ^ 0 % 2) 1 ∷ l) (none_under n w)
under_power (suc k) (suc n) w h =
    one_under n (2 ^ suc k) w (pow_pos (suc k)) ∙ ap (λ m. nat_eq (w / 2 ^ suc k % 2) 1 ∷ bits_under n m w) (half k)
    ∙ ap (λ l. nat_eq (w / 2 ^ suc k % 2) 1 ∷ l) (under_power k n w (omega arith))

pub half_mask : (m : ℕ) → IsMask m → IsMask (m / 2)
half_mask m (inl none) = inl (omega (arith, none))
half_mask m (inr (zero, few, is)) = inl (omega (arith, is))
half_mask m (inr (suc k, few, is)) = inr (k, omega (arith, few), ap (λ x. x / 2) is ∙ half k)

tested : (b p : ℕ) → b < 2 → 0 < p → not (nat_eq (b * p) 0) ≡ nat_eq b 1
tested zero p few some = let none : 0 * p ≡ 0 = omega arith in rw none refl
tested (suc zero) p few some = grind (arith, nat_tests)
tested (suc (suc b)) p few some = absurd (omega arith)

pub first_under : (w m : ℕ) → IsMask m → not (nat_eq (bit_and w m) 0) ≡ next_bit (bits_under 64 m w)
first_under w m (inl none) = rw none (ap (λ x. not (nat_eq x 0)) (none_and w))
  where
    none_and : (w : ℕ) → bit_and w 0 ≡ 0
    none_and w = and_zero_r w
first_under w m (inr (k, few, is)) =
    rw (is, and_pow w k, under_power k 64 w (omega (arith, few))) (tested (w / 2 ^ k % 2) (2 ^ k) (omega arith) (pow_pos k))

pub later_under : (w m : ℕ) → IsMask m → bits_under 64 (m / 2) w ≡ later_bits (bits_under 64 m w)
later_under w m (inl none) = rw none refl
later_under w m (inr (zero, few, is)) = rw is refl
later_under w m (inr (suc k, few, is)) =
    rw (is, half k, under_power k 64 w (omega (arith, few)), under_power (suc k) 64 w (omega (arith, few))) refl

-- the mask of so many bits
mask_is : (left : ℕ) → left ≤ 63 → 1 * 2 ^ left % 18446744073709551616 / 2 ≡ 2 ^ left / 2
mask_is left few =
    let one : 1 * 2 ^ left ≡ 2 ^ left = omega arith in ap (λ x. x / 2) (shl_whole 1 1 left 64 (omega arith) (omega (arith, few)) ∙ one)

pub mask_of : (left : ℕ) → left ≤ 63 → IsMask (1 * 2 ^ left % 18446744073709551616 / 2)
mask_of zero few = inl refl
mask_of (suc k) few = inr (k, omega arith, mask_is (suc k) few ∙ half k)

pub bits_of_mask : (left w : ℕ) → left ≤ 63 → bits_under 64 (1 * 2 ^ left % 18446744073709551616 / 2) w ≡ word_bits left w
bits_of_mask zero w few = refl
bits_of_mask (suc k) w few = rw (mask_is (suc k) few, half k) (under_power k 64 w (omega arith))

-- whether a bit under a mask is 1
pub twice_fits : (m : ℕ) → IsMask m → 2 * m < 18446744073709551616
twice_fits m (inl none) = omega (arith, none)
twice_fits m (inr (k, few, is)) =
    let twice : 2 * 2 ^ k ≡ 2 ^ suc k = omega arith in rw (is, twice) (pow_below (suc k) 64 (omega (arith, few)))

pub set_under : (w m : ℕ) → IsMask m → (m ≡ 0 → ⊥)
    → (IsTrue (not (nat_eq (w % (2 * m)) 0)) → HasSetBit (bits_under 64 m w)) × (HasSetBit (bits_under 64 m w) → IsTrue (not (nat_eq (w % (2 * m)) 0)))
set_under w m (inl none) some = absurd (some none)
set_under w m (inr (k, few, is)) some =
    let twice : 2 * 2 ^ k ≡ 2 ^ suc k = omega arith in
    rw (is, twice, under_power k 64 w (omega (arith, few))) (left_bits (suc k) w)

-- groups have no bit behind the last one
pub none_behind : (bytes : List ℕ) (place : ℕ) → drop place (bits_of (groups bytes)) ≡ [] → 7 * length bytes ≤ place
none_behind bytes place none =
    let long = length-drop place (bits_of (groups bytes)) in
    let empty : length (drop place (bits_of (groups bytes))) ≡ 0 = ap length none in
    omega (arith, long, empty, length_bits (groups bytes), length-map bytes (λ b. b % 128))
