-- Lemmas on signed numbers.
use Rattle.fast_wire.proofs.Common.{◌≡◌, ℕ, pos, ◌*◌, ◌%◌, ◌^◌, ◌<◌, ◌≤◌, true, false, List, [], ◌∷◌, length, get_or, refl, sym, ◌∙◌, arith, rules, w128, nat_le, ◌-ℤ◌, nat_tests, ints, to_z-of_z, to_z_pos, one_shl, SFits, to_z, of_z, groups, unsigned_of, signed_of, is_negative}
use Rattle.fast_wire.proofs.Numbers.{pow_bits}

-- what `1 << (7 * n)` gives at 128 bits
pub span_is : (n : ℕ) → n ≤ 10 → 1 * 2 ^ (7 * n) % 2 ^ 128 ≡ 128 ^ n
span_is n h = one_shl (7 * n) 128 (omega arith) ∙ sym (pow_bits n)

pub small_fits : (u : ℕ) → u ≤ 2 ^ 70 → SFits w128 (pos u)
small_fits u h = record { sfits = omega arith }

-- the first group says the sign
pub sign_is : (xs : List ℕ) → 0 < length xs → is_negative (groups xs) ≡ nat_le 64 (get_or xs 0 0 % 128)
sign_is [] h = absurd (omega arith)
sign_is (x ∷ xs) h = refl

pub signed_below : (xs : List ℕ) → 0 < length xs → 64 ≤ get_or xs 0 0 % 128 → signed_of xs ≡ pos (unsigned_of xs) -ℤ pos (128 ^ length xs)
signed_below xs some h =
    let t : nat_le 64 (get_or xs 0 0 % 128) ≡ true = grind (arith, nat_tests) in
    let e : is_negative (groups xs) ≡ true = sign_is xs some ∙ t in rw e refl

pub signed_above : (xs : List ℕ) → 0 < length xs → get_or xs 0 0 % 128 < 64 → signed_of xs ≡ pos (unsigned_of xs)
signed_above xs some h =
    let t : nat_le 64 (get_or xs 0 0 % 128) ≡ false = grind (arith, nat_tests) in
    let e : is_negative (groups xs) ≡ false = sign_is xs some ∙ t in rw e refl

-- a difference of small numbers
pub parts_fit : (u s : ℕ) → u ≤ 2 ^ 70 → s ≤ 2 ^ 70 → SFits w128 (to_z w128 u -ℤ to_z w128 s)
parts_fit u s p q = rw (to_z_pos w128 u (omega arith), to_z_pos w128 s (omega arith)) (sub_fits u s p q)
  where
    sub_fits : (u s : ℕ) → u ≤ 2 ^ 70 → s ≤ 2 ^ 70 → SFits w128 (pos u -ℤ pos s)
    sub_fits u s p q = search (rules, ints)

pub parts_are : (u s : ℕ) → u ≤ 2 ^ 70 → s ≤ 2 ^ 70 → to_z w128 (of_z w128 (to_z w128 u -ℤ to_z w128 s)) ≡ pos u -ℤ pos s
parts_are u s p q = to_z-of_z w128 _ (parts_fit u s p q) ∙ rw (to_z_pos w128 u (omega arith), to_z_pos w128 s (omega arith)) refl
