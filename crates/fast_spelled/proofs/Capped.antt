-- A decimal of numbers that were capped is that of the numbers.
use Rattle.std.proofs.Common.{◌≡◌, ℕ, ℤ, zero, suc, ◌+◌, ◌-◌, ◌*◌, ◌^◌, ◌<◌, ◌≤◌, Bool, true, false, ◌&&◌, min, List, [], ◌∷◌, ◌++◌, fold, length, Option, None, refl, sym, ap, ap₂, ◌∙◌, inl, inr, ◌⊎◌, arith}
use Rattle.std.proofs.lemmas.Bool.{cases_lt, lt-leb, le-leb}
use Rattle.std.proofs.lemmas.List.Sums.{fold-append}
use Rattle.std.proofs.Math.Nat.{min-eq_left}
use Rattle.std.specs.Str.Parse.{AllDigits, digits_value}
use Rattle.fast_float.specs.Text.{Parts, with_sign}
use Rattle.fast_value.specs.InitialValues.{where_so}
use Rattle.fast_value.specs.Scalar.{in_range, exponent_in_range}
use Rattle.fast_value.specs.declared.kind.Kind.{Kind}
use Rattle.fast_value.specs.declared.scalar.Scalar.{Scalar}
use Rattle.fast_value.specs.declared.scalar.Scalar.TheVariants.{Decimal}
use Rattle.fast_value.proofs.NumberLaws.{capped_fold}
use Rattle.fast_spelled.specs.Numbers.{lowered, decimal_by}
use Rattle.fast_spelled.proofs.Digits.{fold_value}

abbrev pub cap : ℕ
cap = 2 ^ 64

abbrev pub decimal_at : ℤ → ℤ → Option Scalar
decimal_at m e = where_so (in_range Kind.Int64 m && exponent_in_range e) (Decimal e m)

no_mantissa : (m e : ℤ) → in_range Kind.Int64 m ≡ false → decimal_at m e ≡ None
no_mantissa m e h = rw h refl

and_false : (a : Bool) → (a && false) ≡ false
and_false true = refl
and_false false = refl

no_exponent : (m e : ℤ) → exponent_in_range e ≡ false → decimal_at m e ≡ None
no_exponent m e h = rw (h, and_false (in_range Kind.Int64 m)) refl

mantissa_out : (negative : Bool) (n : ℕ) → cap ≤ n → in_range Kind.Int64 (with_sign negative n) ≡ false
mantissa_out false n h = lt-leb n 9223372036854775807 (omega arith)
mantissa_out true zero h = absurd (omega arith)
mantissa_out true (suc n) h = rw (lt-leb n 9223372036854775807 (omega arith)) refl

below_out : (n : ℕ) → cap ≤ n → exponent_in_range (with_sign true n) ≡ false
below_out zero h = absurd (omega arith)
below_out (suc n) h = rw (lt-leb n 62 (omega arith)) refl

exponent_out : (negative : Bool) (n behind : ℕ) → cap ≤ n → behind < 2 ^ 63 → exponent_in_range (lowered negative n behind) ≡ false
exponent_out true n behind h l = below_out (n + behind) (omega arith)
exponent_out false n behind h l = rw (le-leb behind n (omega arith)) (lt-leb (n - behind) 63 (omega arith))

min_cap : (n : ℕ) → cap < n → min n cap ≡ cap
min_cap n h = omega arith

agree : (negative low : Bool) (v x behind : ℕ) → behind < 2 ^ 63 → decimal_at (with_sign negative (min v cap)) (lowered low (min x cap) behind) ≡ decimal_at (with_sign negative v) (lowered low x behind)
agree negative low v x behind l = go (cases_lt cap v) (cases_lt cap x)
  where
    go : (cap < v) ⊎ (v ≤ cap) → (cap < x) ⊎ (x ≤ cap) → decimal_at (with_sign negative (min v cap)) (lowered low (min x cap) behind) ≡ decimal_at (with_sign negative v) (lowered low x behind)
    go (inl h) k =
        no_mantissa (with_sign negative (min v cap)) (lowered low (min x cap) behind) (mantissa_out negative (min v cap) (omega arith)) ∙ sym (no_mantissa (with_sign negative v) (lowered low x behind) (mantissa_out negative v (omega arith)))
    go (inr h) (inl k) =
        no_exponent (with_sign negative (min v cap)) (lowered low (min x cap) behind) (exponent_out low (min x cap) behind (omega arith) l) ∙ sym (no_exponent (with_sign negative v) (lowered low x behind) (exponent_out low x behind (omega arith) l))
    go (inr h) (inr k) = ap₂ (λ a b. decimal_at (with_sign negative a) (lowered low b behind)) (min-eq_left h) (min-eq_left k)

abbrev pub step : ℕ → ℕ → ℕ
step n d = 10 * n + (d - 48)

all-append : (xs ys : List ℕ) → AllDigits 10 xs → AllDigits 10 ys → AllDigits 10 (xs ++ ys)
all-append [] ys a b = b
all-append (x ∷ xs) ys a b = (a.0, all-append xs ys a.1 b)

whole_number : (xs ys : List ℕ) → AllDigits 10 xs → AllDigits 10 ys → min (fold step (min (fold step 0 xs) cap) ys) cap ≡ min (digits_value 10 (xs ++ ys)) cap
whole_number xs ys a b =
    capped_fold ys (fold step 0 xs) ∙ ap (λ n. min n cap) (sym (fold-append step 0 xs ys) ∙ fold_value (xs ++ ys) 0 (all-append xs ys a b))

pub decimal_is : (negative : Bool) (p : Parts) (m e : ℕ) → AllDigits 10 p.whole → AllDigits 10 p.fraction → AllDigits 10 p.exponent → length p.fraction < 2 ^ 63
    → m ≡ min (fold step (min (fold step 0 p.whole) cap) p.fraction) cap → e ≡ min (fold step 0 p.exponent) cap
    → decimal_at (with_sign negative m) (lowered p.exponent_negative e (length p.fraction)) ≡ decimal_by negative p
decimal_is negative p m e a b c l f g =
    ap₂ (λ x y. decimal_at (with_sign negative x) (lowered p.exponent_negative y (length p.fraction))) (f ∙ whole_number p.whole p.fraction a b) (g ∙ ap (λ n. min n cap) (fold_value p.exponent 0 c))
    ∙ agree negative p.exponent_negative (digits_value 10 (p.whole ++ p.fraction)) (digits_value 10 p.exponent) (length p.fraction) l
