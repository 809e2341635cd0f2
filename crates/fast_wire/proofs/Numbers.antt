-- Lemmas on the numbers that groups spell.
use Rattle.fast_wire.proofs.Common.{◌≡◌, ℕ, zero, suc, ◌+◌, ◌*◌, ◌%◌, ◌^◌, ◌<◌, ◌≤◌, List, [], ◌∷◌, ◌++◌, length, get_or, take, refl, ap, ◌∙◌, arith, length-append, pow-suc, pow-zero, pow-le-pow_right, mul_assoc, mul-le-mul_right, pow-add, map_more, length-map, groups, number_of, unsigned_of}

-- one group more at the end
pub number_push : (gs : List ℕ) (g : ℕ) → number_of (gs ++ g ∷ []) ≡ number_of gs * 128 + g
number_push [] g = omega (arith, pow-zero 128)
number_push (h ∷ gs) g =
    let ih = number_push gs g in
    let long : length (gs ++ g ∷ []) ≡ suc (length gs) = omega (arith, length-append gs (g ∷ [])) in
    rw (long, pow-suc 128 (length gs), ih) (omega (arith, mul_assoc h (128 ^ length gs) 128))

-- the first i + 1 bytes of an entity
pub unsigned_more : (xs : List ℕ) (i : ℕ) → i < length xs → unsigned_of (take (i + 1) xs) ≡ unsigned_of (take i xs) * 128 + get_or xs i 0 % 128
unsigned_more xs i h =
    ap number_of (map_more (λ b. b % 128) xs i 0 h) ∙ number_push (groups (take i xs)) (get_or xs i 0 % 128)

-- a power of 128 of at most ten groups
pub pow_ten : (n : ℕ) → n ≤ 10 → 128 ^ n ≤ 2 ^ 70
pow_ten n h = pow-le-pow_right {n = 128} (omega arith) h

pub pow_bits : (n : ℕ) → 128 ^ n ≡ 2 ^ (7 * n)
pow_bits zero = refl
pow_bits (suc n) =
    let more : 7 * suc n ≡ 7 * n + 7 = omega arith in
    let ih = pow_bits n in
    rw (more, pow-suc 128 n, pow-add 2 (7 * n) 7) (omega (arith, ih))

-- groups below 128 spell a number below a power of 128
pub number_bound : (xs : List ℕ) → number_of (groups xs) < 128 ^ length xs
number_bound [] = rw (pow-zero 128) (omega arith)
number_bound (x ∷ xs) =
    let ih = number_bound xs in
    let top : x % 128 * 128 ^ length xs ≤ 127 * 128 ^ length xs = mul-le-mul_right (128 ^ length xs) (omega arith) in
    let long : length (groups xs) ≡ length xs = length-map xs (λ b. b % 128) in
    let e : 128 ^ length (groups xs) ≡ 128 ^ length xs = ap (λ n. 128 ^ n) long in
    let high : x % 128 * 128 ^ length (groups xs) ≡ x % 128 * 128 ^ length xs = ap (λ n. x % 128 * n) e in
    rw (pow-suc 128 (length xs)) (omega arith)
