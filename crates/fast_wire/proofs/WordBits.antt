-- The bits of a presence map in one word.
use Rattle.fast_wire.proofs.Common.{◌≡◌, ℕ, zero, suc, ◌+◌, ◌*◌, ◌/◌, ◌%◌, ◌^◌, ◌<◌, Bool, true, false, nat_eq, List, [], ◌∷◌, ◌++◌, length, ◌-◌, drop, slice_range, length-take, length-drop, Ok, refl, sym, ap, ap₂, ◌∙◌, arith, inl, inr, ◌⊎◌, IsTrue, not, false≢true, nat_tests, length-map, div-mul-add, mod-pow-add, pow-add, pow_pos, div-div-eq-div-mul, mul-add-mod_self_right, mod-mod-pow, groups, unsigned_of, HasSetBit, bits_of, group_bits, word_bits, map_at, IsShort}
use Rattle.fast_wire.proofs.FormReaders.{entity_given}
use Rattle.fast_wire.proofs.Numbers.{number_bound, pow_bits}

-- ---- some bit is 1

pub set_front : (xs ys : List Bool) → HasSetBit xs → HasSetBit (xs ++ ys)
set_front [] ys h = absurd (false≢true h.1)
set_front (x ∷ xs) ys (zero, e) = (zero, e)
set_front (x ∷ xs) ys (suc i, e) = let t = set_front xs ys (i, e) in (suc t.0, t.1)

pub set_back : (xs ys : List Bool) → HasSetBit ys → HasSetBit (xs ++ ys)
set_back [] ys h = h
set_back (x ∷ xs) ys h = let t = set_back xs ys h in (suc t.0, t.1)

pub set_either : (xs ys : List Bool) → HasSetBit (xs ++ ys) → HasSetBit xs ⊎ HasSetBit ys
set_either [] ys h = inr h
set_either (x ∷ xs) ys (zero, e) = inl (zero, e)
set_either (x ∷ xs) ys (suc i, e) = elim (set_either xs ys (i, e)) [ inl t ↦ inl (suc t.0, t.1) | inr t ↦ inr t ]

-- the bit n of a word and those below it
one_more : (n w : ℕ) → w % 2 ^ (1 + n) ≡ w / 2 ^ n % 2 * 2 ^ n + w % 2 ^ n
one_more n w = mod-pow-add w 1 n

set_by : (n w b : ℕ) → w / 2 ^ n % 2 ≡ b → ((w % 2 ^ n ≡ 0 → ⊥) → HasSetBit (word_bits n w)) → (w % 2 ^ suc n ≡ 0 → ⊥) → HasSetBit (word_bits (suc n) w)
set_by n w zero e below h =
    let more : 1 + n ≡ suc n = omega arith in
    let t = below (λ z. h (rw (← more, one_more n w, e, z) (omega arith))) in (suc t.0, t.1)
set_by n w (suc zero) e below h = (zero, rw e refl)
set_by n w (suc (suc b)) e below h = absurd (omega arith)

pub word_set : (n w : ℕ) → (w % 2 ^ n ≡ 0 → ⊥) → HasSetBit (word_bits n w)
word_set zero w h = absurd (h (omega arith))
word_set (suc n) w h = set_by n w (w / 2 ^ n % 2) refl (word_set n w) h

no_bit : (b p r : ℕ) → 0 < p → b * p + r ≡ 0 → nat_eq b 1 ≡ true → ⊥
no_bit zero p r some h t = false≢true t
no_bit (suc zero) p r some h t = omega arith
no_bit (suc (suc b)) p r some h t = grind (arith, nat_tests)

unset_by : (n w : ℕ) → w / 2 ^ n % 2 * 2 ^ n + w % 2 ^ n ≡ 0 → (w % 2 ^ n ≡ 0 → HasSetBit (word_bits n w) → ⊥) → HasSetBit (word_bits (suc n) w) → ⊥
unset_by n w parts below (zero, e) = no_bit (w / 2 ^ n % 2) (2 ^ n) (w % 2 ^ n) (pow_pos n) parts e
unset_by n w parts below (suc i, e) = below (omega (arith, parts)) (i, e)

pub word_unset : (n w : ℕ) → w % 2 ^ n ≡ 0 → HasSetBit (word_bits n w) → ⊥
word_unset zero w z h = false≢true h.1
word_unset (suc n) w z h =
    let more : 1 + n ≡ suc n = omega arith in
    unset_by n w (sym (one_more n w) ∙ rw more z) (word_unset n w) h

-- ---- the bits of a word are those of its groups

-- only the last n bits count
low_bits : (n w v : ℕ) → w % 2 ^ n ≡ v % 2 ^ n → word_bits n w ≡ word_bits n v
low_bits zero w v e = refl
low_bits (suc n) w v e =
    let more : 1 + n ≡ suc n = omega arith in
    let same : w % 2 ^ (1 + n) ≡ v % 2 ^ (1 + n) = rw more e in
    let low : w % 2 ^ n ≡ v % 2 ^ n = sym (mod-mod-pow w 1 n) ∙ ap (λ x. x % 2 ^ n) same ∙ mod-mod-pow v 1 n in
    let high : w / 2 ^ n % 2 ≡ v / 2 ^ n % 2 = sym (top n w) ∙ ap (λ x. x / 2 ^ n) same ∙ top n v in
    ap₂ (λ b bs. b ∷ bs) (ap (λ x. nat_eq x 1) high) (low_bits n w v low)
  where
    top : (n w : ℕ) → w % 2 ^ (1 + n) / 2 ^ n ≡ w / 2 ^ n % 2
    top n w = let p = pow_pos n in rw (one_more n w) (div-mul-add (w / 2 ^ n % 2) (2 ^ n) (w % 2 ^ n) (omega arith))

-- bit j of the group in front
group_bit_is : (g r m j : ℕ) → r < 2 ^ m → (g * 2 ^ m + r) / 2 ^ (m + j) % 2 ≡ g / 2 ^ j % 2
group_bit_is g r m j low =
    rw (pow-add 2 m j, ← div-div-eq-div-mul (g * 2 ^ m + r) (2 ^ m) (2 ^ j), div-mul-add g (2 ^ m) r low) refl

pub front_group : (g r m : ℕ) → r < 2 ^ m → word_bits (suc (suc (suc (suc (suc (suc (suc m))))))) (g * 2 ^ m + r) ≡ group_bits g ++ word_bits m r
front_group g r m low =
    let e6 : suc (suc (suc (suc (suc (suc m))))) ≡ m + 6 = omega arith in
    let e5 : suc (suc (suc (suc (suc m)))) ≡ m + 5 = omega arith in
    let e4 : suc (suc (suc (suc m))) ≡ m + 4 = omega arith in
    let e3 : suc (suc (suc m)) ≡ m + 3 = omega arith in
    let e2 : suc (suc m) ≡ m + 2 = omega arith in
    let e1 : suc m ≡ m + 1 = omega arith in
    let whole : (g * 2 ^ m + r) / 2 ^ m ≡ g = div-mul-add g (2 ^ m) r low in
    let rest : word_bits m (g * 2 ^ m + r) ≡ word_bits m r = low_bits m (g * 2 ^ m + r) r (mod_low g r m) in
    rw (
      e6,
      e5,
      e4,
      e3,
      e2,
      e1,
      group_bit_is g r m 6 low,
      group_bit_is g r m 5 low,
      group_bit_is g r m 4 low,
      group_bit_is g r m 3 low,
      group_bit_is g r m 2 low,
      group_bit_is g r m 1 low,
      whole,
      rest,
    ) refl
  where
    mod_low : (g r m : ℕ) → (g * 2 ^ m + r) % 2 ^ m ≡ r % 2 ^ m
    mod_low g r m = mul-add-mod_self_right g (2 ^ m) r

pub map_word : (bytes : List ℕ) → word_bits (7 * length bytes) (unsigned_of bytes) ≡ bits_of (groups bytes)
map_word [] = refl
map_word (b ∷ bs) =
    let m = 7 * length bs in
    let count : 7 * suc (length bs) ≡ suc (suc (suc (suc (suc (suc (suc m)))))) = omega arith in
    let long : length (groups bs) ≡ length bs = length-map bs (λ b. b % 128) in
    let power : 128 ^ length (groups bs) ≡ 2 ^ m = ap (λ n. 128 ^ n) long ∙ pow_bits (length bs) in
    let low : unsigned_of bs < 2 ^ m = rw (← pow_bits (length bs)) (number_bound bs) in
    rw (count, power) (front_group (b % 128) (unsigned_of bs) m low ∙ ap (λ l. group_bits (b % 128) ++ l) (map_word bs))

-- whether one of them is 1, as a test
pub left_bits : (n w : ℕ) → (IsTrue (not (nat_eq (w % 2 ^ n) 0)) → HasSetBit (word_bits n w)) × (HasSetBit (word_bits n w) → IsTrue (not (nat_eq (w % 2 ^ n) 0)))
left_bits n w = by_rest (w % 2 ^ n) refl
  where
    by_rest : (r : ℕ) → w % 2 ^ n ≡ r → (IsTrue (not (nat_eq (w % 2 ^ n) 0)) → HasSetBit (word_bits n w)) × (HasSetBit (word_bits n w) → IsTrue (not (nat_eq (w % 2 ^ n) 0)))
    by_rest zero e = (λ t. absurd (false≢true (rw e at t)), λ h. absurd (word_unset n w e h))
    by_rest (suc r) e =
        let some : nat_eq (suc r) 0 ≡ false = grind (arith, nat_tests) in
        (λ t. word_set n w (λ z. absurd (omega arith)), λ h. rw (e, some) refl)

-- what reading gives where a map of at most nine bytes stands
pub short_map : (bytes : List ℕ) (at v next : ℕ) → IsShort bytes at v next → map_at (drop at bytes) ≡ Ok (word_bits (7 * (next - at)) v, drop next bytes)
unfolding map_at
short_map bytes at v next h =
    let a = h.after in let s = h.short in let w = h.within in
    let e = slice_range bytes at next in
    let long : length e ≡ next - at = omega (arith, length-take (next - at) (drop at bytes), length-drop at bytes) in
    let bits : bits_of (groups e) ≡ word_bits (7 * (next - at)) v = sym (map_word e) ∙ ap (λ n. word_bits (7 * n) (unsigned_of e)) long ∙ ap (word_bits (7 * (next - at))) (sym h.value) in
    rw (entity_given bytes at next 256 (omega arith) h.within (omega arith) h.entity, bits) refl
