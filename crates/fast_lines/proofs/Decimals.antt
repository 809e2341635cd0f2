-- Numbers in decimal digits, some at a time.
use Rattle.fast_lines.proofs.Common.{◌≡◌, ℕ, suc, ◌+◌, ◌-◌, ◌*◌, ◌/◌, ◌%◌, ◌^◌, ◌<◌, ◌≤◌, Bool, true, T, eqb, ◌&&◌, [], ◌∷◌, ◌++◌, get_or, decimal, arith, append_assoc, inl, inr, two_digits, four_digits, eight_digits}
use Rattle.std.proofs.Common.{zero, eq-zero-or-pos, eqb→eq}
use Rattle.std.proofs.lemmas.Fmt.{decimal_digit, decimal_step}
use lib.Ieee.Fits.{and_l, and_r}
use Rattle.fast_lines.specs.declared.digits.TheConstants.{PAIRS}

-- ---- the table

abbrev are_pairs : ℕ → Bool
are_pairs zero = true
are_pairs (suc p) = (eqb (get_or PAIRS (p * 2) 0) (48 + p / 10) && eqb (get_or PAIRS (p * 2 + 1) 0) (48 + p % 10)) && are_pairs p

below : (n p : ℕ) → T (are_pairs n) → p < n → (get_or PAIRS (p * 2) 0 ≡ 48 + p / 10) × (get_or PAIRS (p * 2 + 1) 0 ≡ 48 + p % 10)
below zero p t h = absurd (omega arith)
below (suc n) p t h =
    elim (eq-zero-or-pos (n - p)) [
      | inl z ↦ let e : p ≡ n = omega arith in let a = and_l _ (are_pairs n) t in rw e (eqb→eq _ _ (and_l _ _ a), eqb→eq _ _ (and_r _ _ a))
      | inr g ↦ below n p (and_r _ (are_pairs n) t) (omega arith)
    ]

pub pairs_at : (p : ℕ) → p < 100 → (get_or PAIRS (p * 2) 0 ≡ 48 + p / 10) × (get_or PAIRS (p * 2 + 1) 0 ≡ 48 + p % 10)
pairs_at p h = below 100 p tt h

-- ---- numbers

pub decimal_two : (n : ℕ) → 10 ≤ n → n < 100 → decimal n ≡ two_digits n
decimal_two n lo hi = rw (decimal_step n lo (omega arith), decimal_digit (n / 10) (omega arith))

decimal_behind : (n : ℕ) → 100 ≤ n → n < 2 ^ 64 → decimal n ≡ decimal (n / 100) ++ two_digits (n % 100)
decimal_behind n lo hi =
    let a : n / 10 / 10 ≡ n / 100 = omega arith in
    let b : n / 10 % 10 ≡ n % 100 / 10 = omega arith in
    let c : n % 10 ≡ n % 100 % 10 = omega arith in
    rw (decimal_step n (omega arith) hi, decimal_step (n / 10) (omega arith) (omega arith), append_assoc, a, b, ← c)

pub decimal_three : (n : ℕ) → 100 ≤ n → n < 1000 → decimal n ≡ ((48 + n / 100) ∷ []) ++ two_digits (n % 100)
decimal_three n lo hi = rw (decimal_behind n lo (omega arith), decimal_digit (n / 100) (omega arith))

pub decimal_four : (n : ℕ) → 1000 ≤ n → n < 10000 → decimal n ≡ four_digits n
decimal_four n lo hi = rw (decimal_behind n (omega arith) (omega arith), decimal_two (n / 100) (omega arith) (omega arith))

pub decimal_more : (n : ℕ) → 10000 ≤ n → n < 2 ^ 64 → decimal n ≡ decimal (n / 10000) ++ four_digits (n % 10000)
decimal_more n lo hi =
    let a : n / 100 / 100 ≡ n / 10000 = omega arith in
    let b : n / 100 % 100 ≡ n % 10000 / 100 = omega arith in
    let c : n % 10000 % 100 ≡ n % 100 = omega arith in
    rw (decimal_behind n (omega arith) hi, decimal_behind (n / 100) (omega arith) (omega arith), append_assoc, a, b, c)

pub decimal_many : (n : ℕ) → 100000000 ≤ n → n < 2 ^ 64 → decimal n ≡ decimal (n / 100000000) ++ eight_digits (n % 100000000)
decimal_many n lo hi =
    let a : n / 10000 / 10000 ≡ n / 100000000 = omega arith in
    let b : n / 10000 % 10000 ≡ n % 100000000 / 10000 = omega arith in
    let c : n % 100000000 % 10000 ≡ n % 10000 = omega arith in
    rw (decimal_more n (omega arith) hi, decimal_more (n / 10000) (omega arith) (omega arith), append_assoc, a, b, c)
