-- Counting how far two lists agree.
use Rattle.fast_field.proofs.Common.{◌≡◌, ℕ, ◌+◌, ◌-◌, ◌<◌, ◌≤◌, ◌++◌, List, length, take, drop, get_or, refl, sym, ap, ◌∙◌, arith, inl, inr, min, get_or-take, get_or-drop, drop_more, take_more, drop-drop, drop-length, slice_range, take-append-drop, cases_lt, IsLongestPrefix, IsLongestSuffix}
use Rattle.std.proofs.Math.Seq.{take-add}

-- one unit more agrees
pub prefix_more : (a b : List ℕ) (i : ℕ) → i < length a → i < length b → get_or a i 0 ≡ get_or b i 0 → take i a ≡ take i b → take (i + 1) a ≡ take (i + 1) b
prefix_more a b i in_a in_b e so_far = rw (take_more a i 0 in_a, take_more b i 0 in_b, so_far, e) refl

-- and so many more
pub prefix_on : (a b : List ℕ) (i n : ℕ) → slice_range a i (i + n) ≡ slice_range b i (i + n) → take i a ≡ take i b → take (i + n) a ≡ take (i + n) b
prefix_on a b i n same so_far =
    let many : i + n - i ≡ n = omega arith in
    let here : take n (drop i a) ≡ take n (drop i b) = rw many at same in
    take-add i n a ∙ rw (so_far, here) (sym (take-add i n b))

pub prefix_stops : (a b : List ℕ) (i : ℕ) → i < length a → i < length b → (get_or a i 0 ≡ get_or b i 0 → ⊥) → take i a ≡ take i b → IsLongestPrefix a b i
prefix_stops a b i in_a in_b differ so_far = record {
  in_a = omega arith;
  in_b = omega arith;
  common = so_far;
  longest = λ j ja jb e. elim (cases_lt i j) [
    | inl lt ↦ absurd (differ (sym (get_or-take j a i 0 lt) ∙ ap (λ (s : List ℕ). get_or s i 0) e ∙ get_or-take j b i 0 lt))
    | inr ge ↦ ge
  ];
}

pub prefix_ends : (a b : List ℕ) (i : ℕ) → min (length a) (length b) ≤ i → i ≤ min (length a) (length b) → take i a ≡ take i b → IsLongestPrefix a b i
prefix_ends a b i le ge so_far = record { in_a = omega arith; in_b = omega arith; common = so_far; longest = λ j ja jb e. omega arith }

pub suffix_none : (a b : List ℕ) → drop (length a - 0) a ≡ drop (length b - 0) b
suffix_none a b =
    let la : length a - 0 ≡ length a = omega arith in
    let lb : length b - 0 ≡ length b = omega arith in
    rw (la, lb, drop-length a, drop-length b) refl

pub suffix_more : (a b : List ℕ) (i : ℕ) → i < length a → i < length b → get_or a (length a - 1 - i) 0 ≡ get_or b (length b - 1 - i) 0 → drop (length a - i) a ≡ drop (length b - i) b
    → drop (length a - (i + 1)) a ≡ drop (length b - (i + 1)) b
suffix_more a b i in_a in_b e so_far =
    let la : length a - (i + 1) ≡ length a - 1 - i = omega arith in
    let lb : length b - (i + 1) ≡ length b - 1 - i = omega arith in
    let na : length a - 1 - i + 1 ≡ length a - i = omega arith in
    let nb : length b - 1 - i + 1 ≡ length b - i = omega arith in
    rw (la, lb, drop_more a (length a - 1 - i) 0 (omega arith), drop_more b (length b - 1 - i) 0 (omega arith), na, nb, e, so_far) refl

-- and so many more in front of them
behind : (i n : ℕ) (x : List ℕ) → length x - i - (length x - (i + n)) ≡ n → length x - (i + n) + n ≡ length x - i → drop (length x - i - (length x - (i + n))) (drop (length x - (i + n)) x) ≡ drop (length x - i) x
behind i n x many on = rw many (drop-drop n (length x - (i + n)) x ∙ ap (λ m. drop m x) on)

pub suffix_on : (a b : List ℕ) (i n : ℕ) → i + n ≤ length a → i + n ≤ length b → slice_range a (length a - (i + n)) (length a - i) ≡ slice_range b (length b - (i + n)) (length b - i) → drop (length a - i) a ≡ drop (length b - i) b
    → drop (length a - (i + n)) a ≡ drop (length b - (i + n)) b
suffix_on a b i n in_a in_b same so_far =
    let parts : (x : List ℕ) → i + n ≤ length x → drop (length x - (i + n)) x ≡ slice_range x (length x - (i + n)) (length x - i) ++ drop (length x - i) x = λ x le.
    let many : length x - i - (length x - (i + n)) ≡ n = omega (arith, le) in
    let on : length x - (i + n) + n ≡ length x - i = omega (arith, le) in
    sym (take-append-drop (length x - i - (length x - (i + n))) (drop (length x - (i + n)) x))
    ∙ ap (λ (y : List ℕ). slice_range x (length x - (i + n)) (length x - i) ++ y) (behind i n x many on) in
    parts a in_a ∙ rw (same, so_far) (sym (parts b in_b))

pub suffix_stops : (a b : List ℕ) (i : ℕ) → i < length a → i < length b → (get_or a (length a - 1 - i) 0 ≡ get_or b (length b - 1 - i) 0 → ⊥) → drop (length a - i) a ≡ drop (length b - i) b → IsLongestSuffix a b i
suffix_stops a b i in_a in_b differ so_far = record {
  in_a = omega arith;
  in_b = omega arith;
  common = so_far;
  longest = λ j ja jb e. elim (cases_lt i j) [
    | inl lt ↦
        let pa : length a - j + (j - 1 - i) ≡ length a - 1 - i = omega arith in
        let pb : length b - j + (j - 1 - i) ≡ length b - 1 - i = omega arith in
        let ea : get_or (drop (length a - j) a) (j - 1 - i) 0 ≡ get_or a (length a - 1 - i) 0 = get_or-drop (length a - j) a (j - 1 - i) 0 ∙ ap (λ (m : ℕ). get_or a m 0) pa in
        let eb : get_or (drop (length b - j) b) (j - 1 - i) 0 ≡ get_or b (length b - 1 - i) 0 = get_or-drop (length b - j) b (j - 1 - i) 0 ∙ ap (λ (m : ℕ). get_or b m 0) pb in
        absurd (differ (sym ea ∙ ap (λ (s : List ℕ). get_or s (j - 1 - i) 0) e ∙ eb))
    | inr ge ↦ ge
  ];
}

pub suffix_ends : (a b : List ℕ) (i : ℕ) → min (length a) (length b) ≤ i → i ≤ min (length a) (length b) → drop (length a - i) a ≡ drop (length b - i) b → IsLongestSuffix a b i
suffix_ends a b i le ge so_far = record { in_a = omega arith; in_b = omega arith; common = so_far; longest = λ j ja jb e. omega arith }

pub ruleset agreeing = (prefix_more, prefix_on, prefix_stops, prefix_ends, suffix_none, suffix_more, suffix_on, suffix_ends)
