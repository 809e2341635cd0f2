-- Numbers of texts as a program has them.
use Rattle.fast_value.proofs.Common.{◌≡◌, ◌<◌, ◌≤◌, ◌+◌, ◌-◌, ◌*◌, ◌^◌, ◌&&◌, suc, ℕ, ℤ, List, [], ◌∷◌, fold, min, nat_lt, nat_le, Option, Some, None, Bool, true, false, pos, negsuc, refl, sym, ap, ◌∙◌, arith, lit<, true≢false, nat_abs, option_and_then, leb-true, le-leb, lt-ltb, Kind, Part, Decimal, in_range, exponent_in_range, of_integer, where_so, in_range_of, integer_of, integer_value, decimal_value, small_integer}

abbrev step : ℕ → ℕ → ℕ
step n d = 10 * n + (d - 48)

-- digits after a number that was capped
pub capped_fold : (xs : List ℕ) (a : ℕ) → min (fold (λ n d. 10 * n + (d - 48)) (min a (2 ^ 64)) xs) (2 ^ 64) ≡ min (fold (λ n d. 10 * n + (d - 48)) a xs) (2 ^ 64)
capped_fold [] a = omega arith
capped_fold (x ∷ xs) a =
    let capped : min (step (min a (2 ^ 64)) x) (2 ^ 64) ≡ min (step a x) (2 ^ 64) = omega arith in
    sym (capped_fold xs (step (min a (2 ^ 64)) x))
    ∙ ap (λ b. min (fold step b xs) (2 ^ 64)) capped
    ∙ capped_fold xs (step a x)

-- ---- integers whose number is small

abbrev small : ℤ → Option ℤ
small z = where_so (nat_lt (nat_abs z) (2 ^ 64)) z

kept : (b : Bool) (y z : ℤ) → Some z ≡ where_so b y → y ≡ z
kept true y z e = sym (ap (λ o. option_or o y) e) where
  option_or : Option ℤ → ℤ → ℤ
  option_or None d = d
  option_or (Some v) d = v
kept false y z e = absurd (cc e)

pub small_some : (o : Option ℤ) (z : ℤ) → Some z ≡ option_and_then small o → o ≡ Some z
small_some None z e = absurd (cc e)
small_some (Some y) z e = ap Some (kept (nat_lt (nat_abs y) (2 ^ 64)) y z e)

first_of : (a b : Bool) → (a && b) ≡ true → a ≡ true
first_of true b e = refl
first_of false b e = e

second_of : (a b : Bool) → (a && b) ≡ true → b ≡ true
second_of true b e = e
second_of false b e = absurd (true≢false (sym e))

-- what is in some range has at most 64 bits
below_two_64 : (g n : ℕ) → g < 2 ^ 64 → nat_le n g ≡ true → nat_lt n (2 ^ 64) ≡ true
below_two_64 g n less le = let under : n ≤ g = leb-true n g le in lt-ltb n (2 ^ 64) (omega (arith, less, under))

in_kind : (k : Kind) (z : ℤ) → in_range k z ≡ true → nat_lt (nat_abs z) (2 ^ 64) ≡ true
in_kind Kind.UInt32 (pos n) e = below_two_64 4294967295 n (lit< tt) (second_of _ _ e)
in_kind Kind.UInt32 (negsuc n) e = absurd (true≢false (sym e))
in_kind Kind.UInt64 (pos n) e = below_two_64 18446744073709551615 n (lit< tt) (second_of _ _ e)
in_kind Kind.UInt64 (negsuc n) e = absurd (true≢false (sym e))
in_kind Kind.Int32 (pos n) e = below_two_64 2147483647 n (lit< tt) e
in_kind Kind.Int32 (negsuc n) e = let under : n ≤ 2147483647 = leb-true n 2147483647 (first_of _ _ e) in lt-ltb (suc n) (2 ^ 64) (omega (arith, under))
in_kind Kind.Int64 (pos n) e = below_two_64 9223372036854775807 n (lit< tt) e
in_kind Kind.Int64 (negsuc n) e = let under : n ≤ 9223372036854775807 = leb-true n 9223372036854775807 (first_of _ _ e) in lt-ltb (suc n) (2 ^ 64) (omega (arith, under))
in_kind Kind.Decimal (pos n) e = below_two_64 0 n (lit< tt) (second_of _ _ e)
in_kind Kind.Decimal (negsuc n) e = absurd (true≢false (sym e))
in_kind Kind.Ascii (pos n) e = below_two_64 0 n (lit< tt) (second_of _ _ e)
in_kind Kind.Ascii (negsuc n) e = absurd (true≢false (sym e))
in_kind Kind.Unicode (pos n) e = below_two_64 0 n (lit< tt) (second_of _ _ e)
in_kind Kind.Unicode (negsuc n) e = absurd (true≢false (sym e))
in_kind Kind.Bytes (pos n) e = below_two_64 0 n (lit< tt) (second_of _ _ e)
in_kind Kind.Bytes (negsuc n) e = absurd (true≢false (sym e))

in_exponents : (z : ℤ) → exponent_in_range z ≡ true → nat_lt (nat_abs z) (2 ^ 64) ≡ true
in_exponents (pos n) e = below_two_64 63 n (lit< tt) e
in_exponents (negsuc n) e = let under : n ≤ 62 = leb-true n 62 (first_of _ _ e) in lt-ltb (suc n) (2 ^ 64) (omega (arith, under))

in_part : (p : Part) (k : Kind) (z : ℤ) → in_range_of p k z ≡ true → nat_lt (nat_abs z) (2 ^ 64) ≡ true
in_part Part.Exponent k z e = in_exponents z e
in_part Part.Whole k z e = in_kind k z e
in_part Part.Mantissa k z e = in_kind k z e
in_part Part.Length k z e = in_kind k z e

outside : (b c : Bool) {A : Type 0} (z : ℤ) (x : A) → (c ≡ true → b ≡ true) → None ≡ where_so b z → where_so c x ≡ None
outside true c z x within e = absurd (cc e)
outside false true z x within e = absurd (true≢false (sym (within refl)))
outside false false z x within e = refl

pub small_none : (p : Part) (k : Kind) (o : Option ℤ) → None ≡ option_and_then small o → option_and_then (λ z. where_so (in_range_of p k z) (of_integer k z)) o ≡ None
small_none p k None e = refl
small_none p k (Some y) e = outside (nat_lt (nat_abs y) (2 ^ 64)) (in_range_of p k y) y (of_integer k y) (in_part p k y) e

-- what an integer that is in range, or is not, is the value of
pub integer_value_some : (p : Part) (k : Kind) (text : List ℕ) (z : ℤ) → Some z ≡ small_integer text → integer_value p k text ≡ where_so (in_range_of p k z) (of_integer k z)
integer_value_some p k text z e = ap (option_and_then (λ y. where_so (in_range_of p k y) (of_integer k y))) (small_some (integer_of text) z e)

pub integer_value_none : (p : Part) (k : Kind) (text : List ℕ) → None ≡ small_integer text → integer_value p k text ≡ None
integer_value_none p k text e = small_none p k (integer_of text) e

-- an exponent's range lies within that of its type
pub in_type : (p : Part) (k : Kind) (z : ℤ) → (p ≡ Part.Exponent → k ≡ Kind.Int32) → in_range_of p k z ≡ true → in_range k z ≡ true
in_type Part.Exponent k (pos n) of e = ap (λ j. in_range j (pos n)) (of refl) ∙ (let under : n ≤ 63 = leb-true n 63 e in le-leb n 2147483647 (omega (arith, under)))
in_type Part.Exponent k (negsuc n) of e = ap (λ j. in_range j (negsuc n)) (of refl) ∙ (let under : n ≤ 62 = leb-true n 62 (first_of _ _ e) in ap (λ b. b && true) (le-leb n 2147483647 (omega (arith, under))))
in_type Part.Whole k z of e = e
in_type Part.Mantissa k z of e = e
in_type Part.Length k z of e = e

-- ---- decimals

pub decimal_none_mantissa : (o q : Option ℤ) → None ≡ option_and_then small o → decimal_value o q ≡ None
decimal_none_mantissa None q e = refl
decimal_none_mantissa (Some y) None e = refl
decimal_none_mantissa (Some y) (Some x) e = outside (nat_lt (nat_abs y) (2 ^ 64)) (in_range Kind.Int64 y && exponent_in_range x) y (Decimal x y) (λ both. in_kind Kind.Int64 y (first_of _ (exponent_in_range x) both)) e

pub decimal_none_exponent : (o q : Option ℤ) → None ≡ option_and_then small q → decimal_value o q ≡ None
decimal_none_exponent None q e = refl
decimal_none_exponent (Some y) None e = refl
decimal_none_exponent (Some y) (Some x) e = outside (nat_lt (nat_abs x) (2 ^ 64)) (in_range Kind.Int64 y && exponent_in_range x) x (Decimal x y) (λ both. in_exponents x (second_of (in_range Kind.Int64 y) (exponent_in_range x) both)) e

pub decimal_some : (o q : Option ℤ) (m x : ℤ) → Some m ≡ option_and_then small o → Some x ≡ option_and_then small q → decimal_value o q ≡ where_so (in_range Kind.Int64 m && exponent_in_range x) (Decimal x m)
decimal_some o q m x e f = λ i. decimal_value (small_some o m e i) (small_some q x f i)
