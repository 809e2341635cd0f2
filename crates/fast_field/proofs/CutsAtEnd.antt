-- What is asked of a base and of what is put behind so much of it: how far both agree.
use Rattle.fast_field.proofs.Common.{◌≡◌, ◌≤◌, ◌<◌, ◌+◌, ◌-◌, ◌%◌, true, List, ℕ, ◌++◌, length, take, drop, get_or, sym, ap, subst, ◌∙◌, arith, inl, inr, length-append, nat_eq, not, cases_lt, nat_tests, get_or-append-add, get_or-drop, length-map, take_at, length-take-le, IsEntity, groups, entity_some, IsLongestPrefix, IsLongestSuffix, SharesEnd}
use Rattle.std.proofs.Math.ListN.{get_or-map}
use Rattle.fast_field.proofs.Agreeing.{prefix_ends, prefix_more, prefix_stops, suffix_ends, suffix_none, suffix_stops}
use Rattle.fast_field.proofs.BestCuts.{longest_suffix}

part_at_kept : (base part : List ℕ) (n i : ℕ) → n ≤ length base → get_or (take n base ++ part) (n + i) 0 ≡ get_or part i 0
part_at_kept base part n i h = let long = length-take-le n base h in subst (λ m. get_or (take n base ++ part) (m + i) 0 ≡ get_or part i 0) long (get_or-append-add (take n base) part i 0)

pub prefix_stays : (base part : List ℕ) (n : ℕ) → n < length base → 0 < length part → (get_or base n 0 ≡ get_or part 0 0 → ⊥) → IsLongestPrefix base (take n base ++ part) n
prefix_stays base part n lt some differ =
    let v = take n base ++ part in
    let within : n ≤ length base = omega arith in
    let first : n + 0 ≡ n = omega arith in
    let here : get_or v n 0 ≡ get_or part 0 0 = subst (λ m. get_or v m 0 ≡ get_or part 0 0) first (part_at_kept base part n 0 within) in
    prefix_stops base v n lt (omega (arith, some, length-append (take n base) part, length-take-le n base within)) (λ e. differ (e ∙ here)) (sym (take_at (take n base) part n (length-take-le n base within)))

pub prefix_whole : (base part : List ℕ) (n : ℕ) → n ≤ length base → length base ≤ n → IsLongestPrefix base (take n base ++ part) n
prefix_whole base part n le ge = prefix_ends base (take n base ++ part) n (omega arith) (omega (arith, length-append (take n base) part, length-take-le n base le)) (sym (take_at (take n base) part n (length-take-le n base le)))

pub suffix_stays : (base part : List ℕ) (n : ℕ) → n ≤ length base → 0 < length part → (0 < length base → get_or base (length base - 1) 0 ≡ get_or part (length part - 1) 0 → ⊥) → IsLongestSuffix base (take n base ++ part) 0
suffix_stays base part n h some differ =
    let v = take n base ++ part in
    let long = length-take-le n base h in
    let whole = length-append (take n base) part in
    let there : n + (length part - 1) ≡ length v - 1 - 0 = omega (arith, long, whole, some) in
    let last : get_or v (length v - 1 - 0) 0 ≡ get_or part (length part - 1) 0 = subst (λ m. get_or v m 0 ≡ get_or part (length part - 1) 0) there (part_at_kept base part n (length part - 1) h) in
    let back : length base - 1 - 0 ≡ length base - 1 = omega arith in
    elim (cases_lt 0 (length base)) [
      | inl lt ↦ suffix_stops base v 0 lt (omega (arith, long, whole, some)) (λ e. differ lt (subst (λ m. get_or base m 0 ≡ get_or v (length v - 1 - 0) 0) back e ∙ last)) (suffix_none base v)
      | inr ge ↦ suffix_ends base v 0 (omega (arith, ge)) (omega arith) (suffix_none base v)
    ]

-- where as many are put there as are removed, what both have in common at the end stands behind the first of them
behind_first : (base part : List ℕ) (n m : ℕ) → n < length base → length part ≡ length base - n → length part ≤ n → IsLongestPrefix base (take n base ++ part) n → IsLongestSuffix base (take n base ++ part) m → n < m → ⊥
behind_first base part n m lt as_many few prefix suffix more =
    let v = take n base ++ part in
    let whole : length v ≡ length base = omega (arith, length-append (take n base) part, length-take-le n base (omega (arith, lt)), as_many, lt) in
    let in_a = suffix.in_a in
    let j = n - (length base - m) in
    let there : length base - m + j ≡ n = omega (arith, more, as_many, few, in_a, lt) in
    let there' : length v - m + j ≡ n = omega (arith, more, as_many, few, in_a, lt, whole) in
    let of_base : get_or (drop (length base - m) base) j 0 ≡ get_or base n 0 = get_or-drop (length base - m) base j 0 ∙ ap (λ (i : ℕ). get_or base i 0) there in
    let of_v : get_or (drop (length v - m) v) j 0 ≡ get_or v n 0 = get_or-drop (length v - m) v j 0 ∙ ap (λ (i : ℕ). get_or v i 0) there' in
    let same : get_or base n 0 ≡ get_or v n 0 = sym of_base ∙ ap (λ (l : List ℕ). get_or l j 0) suffix.common ∙ of_v in
    let longer = prefix.longest (n + 1) (omega (arith, lt)) (omega (arith, lt, whole)) (prefix_more base v n lt (omega (arith, lt, whole)) same prefix.common) in
    omega (arith, longer)

pub few_shared : (base part : List ℕ) (n : ℕ) → n < length base → length part ≡ length base - n → length part ≤ n → IsLongestPrefix base (take n base ++ part) n → SharesEnd base (take n base ++ part) n
few_shared base part n lt as_many few prefix =
    let s = longest_suffix base (take n base ++ part) in
    (s.0, s.1, elim (cases_lt n s.0) [ inl more ↦ absurd (behind_first base part n s.0 lt as_many few prefix s.1 more) | inr le ↦ le ])

pub no_equal : (a b : ℕ) → not (nat_eq a b) ≡ true → a ≡ b → ⊥
no_equal a b e same = grind (arith, nat_tests)

pub prefix_found : (base form : List ℕ) (n : ℕ) → n < length base → IsEntity form → (get_or base n 0 ≡ get_or form 0 0 % 128 → ⊥) → IsLongestPrefix base (take n base ++ groups form) n
prefix_found base form n lt entity differ =
    let some = entity_some form entity in
    let same = length-map form (λ b. b % 128) in
    prefix_stays base (groups form) n lt (omega (arith, some, same)) (λ e. differ (e ∙ get_or-map (λ b. b % 128) form 0 0))

pub suffix_found : (base form : List ℕ) (n : ℕ) → n ≤ length base → IsEntity form → (0 < length base → get_or base (length base - 1) 0 ≡ get_or form (length form - 1) 0 % 128 → ⊥) → IsLongestSuffix base (take n base ++ groups form) 0
suffix_found base form n h entity differ =
    let some = entity_some form entity in
    let same = length-map form (λ b. b % 128) in
    suffix_stays base (groups form) n h (omega (arith, some, same)) (λ lt e. differ lt (e ∙ ap (λ m. get_or (groups form) (m - 1) 0) same ∙ get_or-map (λ b. b % 128) form (length form - 1) 0))
