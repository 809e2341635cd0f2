-- The best forms of deltas of numbers, and of NULL.
use Rattle.fast_field.proofs.Common.{◌≡◌, ℕ, ◌^◌, ◌<◌, ◌≤◌, true, false, List, length, refl, sym, ap, subst, ◌∙◌, arith, ℤ, pos, negsuc, ◌+ℤ◌, ◌-ℤ◌, ◌<ℤ◌, IsTrue, ints, Usual, magnitude, Value, is_integer, Kind, Presence, Scalar, Decimal, integer_of, exponent_of, mantissa_of, SpellsInteger, SpellsPair, Cut, uncut, SpellsDelta, SpellsDeltas, NoLater, ShortestSigned, ShortestPair}
use Rattle.fast_field.proofs.BestForms.{at_end_first}
use Rattle.fast_field.proofs.ValuesWithin.{IsOfType}
use Rattle.fast_field.proofs.StandingForms.{number_of, number_is, range_small, exponent_small}
use Rattle.fast_field.proofs.Shortest.{signed_form, pair_form, pair_least, shortest_signed, shortest_pair}

-- the bytes are the first of forms under bit 1
pub record IsFirst (Forms : Cut → List ℕ → Type 0) (bytes : List ℕ) : Type 0 where
  pub cut : Cut
  pub form : Forms cut bytes
  pub first : (c : Cut) (b : List ℕ) → Forms c b → NoLater true (length bytes) cut true (length b) c

-- there is a first
abbrev pub First : (Cut → List ℕ → Type 0) → Type 0
First Forms = (b : List ℕ) × IsFirst Forms b

-- where nothing is cut the shortest is the first
pub shortest_is_first : (Forms : Cut → List ℕ → Type 0) (b : List ℕ) → Forms uncut b → ((c : Cut) (o : List ℕ) → Forms c o → (c ≡ uncut) × (length b ≤ length o)) → IsFirst Forms b
shortest_is_first Forms b form least = record {
  cut = uncut;
  form = form;
  first = λ c o h. let l = least c o h in rw l.0 (at_end_first (length b) (length o) 0 uncut l.1 (λ same. omega arith));
}

-- ---- differences

as_order : (z : ℤ) → magnitude z < 2 ^ 64 → (negsuc (2 ^ 64) <ℤ z) × (z <ℤ pos (2 ^ 64))
as_order (pos n) h = (omega (arith, ints), omega (arith, ints, h))
as_order (negsuc n) h = (omega (arith, ints, h), omega (arith, ints))

as_magnitude : (z : ℤ) → negsuc (2 ^ 66) <ℤ z → z <ℤ pos (2 ^ 66) → magnitude z < 2 ^ 68
as_magnitude (pos n) low high = omega (arith, ints, high)
as_magnitude (negsuc n) low high = omega (arith, ints, low)

difference_small : (a c : ℤ) → magnitude a < 2 ^ 64 → magnitude c < 2 ^ 64 → magnitude (a -ℤ c) < 2 ^ 68
difference_small a c h l =
    let x = as_order a h in
    let y = as_order c l in
    as_magnitude (a -ℤ c) (omega (arith, ints, x.0, x.1, y.0, y.1)) (omega (arith, ints, x.0, x.1, y.0, y.1))

back_again : (a c : ℤ) → c +ℤ (a -ℤ c) ≡ a
back_again a c = omega (arith, ints)

pub one_difference : (a c d : ℤ) → c +ℤ d ≡ a → d ≡ a -ℤ c
one_difference a c d e = omega (arith, ints, e)

-- ---- integers

pub difference_fits : (k : Kind) (base v : Scalar) → IsTrue (is_integer k) → IsOfType k base → IsOfType k v → magnitude (integer_of v -ℤ integer_of base) < 2 ^ 68
difference_fits k base v i h l = difference_small (integer_of v) (integer_of base) (range_small k (integer_of v) i (number_is k v i l).range) (range_small k (integer_of base) i (number_is k base i h).range)

pub number_delta_is_first : (k : Kind) (p : Presence) (base v : Scalar) (b : List ℕ) → IsTrue (is_integer k) → IsOfType k v → ShortestSigned p (integer_of v -ℤ integer_of base) b → IsFirst (λ c b. SpellsDelta Usual k p base c b v) b
number_delta_is_first k p base v b i l h =
    let n = number_is k v i l in
    let a = integer_of v in
    let c = integer_of base in
    let s = signed_form p (a -ℤ c) b h in
    shortest_is_first (λ c b. SpellsDelta Usual k p base c b v) b
    (record { delta = a -ℤ c; form = s.form; range = rw (back_again a c) n.range; value = rw (back_again a c) n.made; cut_is = refl })
    (λ cut o d.
    let sum : c +ℤ d.delta ≡ a = sym (number_of k (c +ℤ d.delta) i d.range) ∙ ap integer_of (sym d.value) in
    (d.cut_is, s.least o (subst (λ (z : ℤ). SpellsInteger Usual false p o (Value z)) (one_difference a c d.delta sum) d.form)))

pub number_delta_first : (k : Kind) (p : Presence) (base v : Scalar) → IsTrue (is_integer k) → IsOfType k base → IsOfType k v → First (λ c b. SpellsDelta Usual k p base c b v)
number_delta_first k p base v i h l = let s = shortest_signed p (integer_of v -ℤ integer_of base) (difference_fits k base v i h l) in (s.0, number_delta_is_first k p base v s.0 i l s.1)

-- ---- decimals

decimal_small : (v : Scalar) → IsOfType Kind.Decimal v → (magnitude (exponent_of v) < 2 ^ 64) × (magnitude (mantissa_of v) < 2 ^ 64)
decimal_small (Decimal e m) h = (exponent_small e h.1.0, range_small Kind.Int64 m refl h.1.1)
decimal_small v h = let e = h.0 in absurd cc

pub differences_fit : (base v : Scalar) → IsOfType Kind.Decimal base → IsOfType Kind.Decimal v → (magnitude (exponent_of v -ℤ exponent_of base) < 2 ^ 68) × (magnitude (mantissa_of v -ℤ mantissa_of base) < 2 ^ 68)
differences_fit base v h l =
    let small = decimal_small base h in
    let less = decimal_small v l in
    (difference_small (exponent_of v) (exponent_of base) less.0 small.0, difference_small (mantissa_of v) (mantissa_of base) less.1 small.1)

pub decimal_delta_is_first : (p : Presence) (base v : Scalar) (b : List ℕ) → IsOfType Kind.Decimal v → ShortestPair p (exponent_of v -ℤ exponent_of base) (mantissa_of v -ℤ mantissa_of base) b → IsFirst (λ c b. SpellsDeltas Usual p base c b v) b
decimal_delta_is_first p base (Decimal e m) b l h =
    let x = exponent_of base in
    let y = mantissa_of base in
    shortest_is_first (λ c b. SpellsDeltas Usual p base c b (Decimal e m)) b
    (record { exponent_delta = e -ℤ x; mantissa_delta = m -ℤ y; form = pair_form p (e -ℤ x) (m -ℤ y) b h; value = rw (back_again e x, back_again m y) (l.1.0, l.1.1, refl); cut_is = refl })
    (λ cut o d.
    let same_e : d.exponent_delta ≡ e -ℤ x = one_difference e x d.exponent_delta (sym (ap exponent_of d.value.2)) in
    let same_m : d.mantissa_delta ≡ m -ℤ y = one_difference m y d.mantissa_delta (sym (ap mantissa_of d.value.2)) in
    (d.cut_is, pair_least p (e -ℤ x) (m -ℤ y) b h o (subst (λ (z : ℤ). SpellsPair Usual p o z (m -ℤ y)) same_e (subst (λ (z : ℤ). SpellsPair Usual p o d.exponent_delta z) same_m d.form))))
decimal_delta_is_first p base v b l h = let e = l.0 in absurd cc

pub decimal_delta_first : (p : Presence) (base v : Scalar) → IsOfType Kind.Decimal base → IsOfType Kind.Decimal v → First (λ c b. SpellsDeltas Usual p base c b v)
decimal_delta_first p base v h l =
    let fit = differences_fit base v h l in
    let s = shortest_pair p (exponent_of v -ℤ exponent_of base) (mantissa_of v -ℤ mantissa_of base) fit.0 fit.1 in
    (s.0, decimal_delta_is_first p base v s.0 l s.1)
