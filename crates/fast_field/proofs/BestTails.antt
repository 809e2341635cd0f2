-- The best tail: the shortest, but in the nullable form of ASCII one unit more where that saves a preamble.
use Rattle.fast_field.proofs.Common.{◌≡◌, ℕ, zero, suc, ◌+◌, ◌-◌, ◌<◌, ◌≤◌, List, [], ◌∷◌, length, take, drop, refl, sym, ap, subst, ◌∙◌, arith, inl, inr, length-drop, take-append-drop, drop-drop, cases_lt, take-take, Usual, ascii_nullable_size, vector_nullable_size, unsigned_size, Value, ascii_nullable_sizes, vector_nullable_sizes, unsigned_size-grows, Kind, Presence, Mandatory, Optional, Scalar, units_of, IsUnitKind, SpellsUnits, at_end, Cut, ended_by, SpellsTail, IsLongestPrefix, ShortestUnits, part_size, tail_size, NoWorse, IsBestTail}
use Rattle.fast_field.proofs.BestForms.{at_end_first}
use Rattle.fast_field.proofs.BestDeltas.{IsFirst, First}
use Rattle.fast_field.proofs.BestCuts.{part_least, parts, longest_prefix, of_few, drop_fits}
use Rattle.fast_field.proofs.Shortest.{units_form, units_is, shortest_units}
use Rattle.fast_field.proofs.Least.{IsPartCost, vector_parts, tail_is, preamble, preamble-cases, tail_cost, shortest_tail, no_worse, one_more, still_shortest}
use Rattle.fast_field.proofs.Refused.{units_are}
use Rattle.fast_field.proofs.ValuesWithin.{IsOfType, IsString, units_of_string}
use Rattle.fast_field.proofs.StandingForms.{of_units_is}

-- ---- sizes

pub tail_least : (k : Kind) (p : Presence) (s b : List ℕ) → SpellsUnits Usual k p b (Value s) → tail_size k p s ≤ length b
tail_least k Mandatory s b h = part_least k s b h
tail_least Kind.Ascii Optional s b h = ascii_nullable_sizes.least b (Value s) h
tail_least k Optional s b h = vector_nullable_sizes.least b (Value s) h

-- ---- the tail that comes first

worse_first : (m n m' n' part : ℕ) (c : Cut) → n ≡ m → m' ≤ n' → NoWorse m part m' c.part → (n ≤ n') × (n ≡ n' → part ≤ c.part)
worse_first m n m' n' part c e le (inl lt) = (omega arith, λ same. absurd (omega arith))
worse_first m n m' n' part c e le (inr h) = let same_size = h.0 in (omega arith, λ same. h.1)

pub tail_is_first : (k : Kind) (p : Presence) (base v : Scalar) (tail b : List ℕ) → IsUnitKind k → IsOfType k v → IsBestTail k p (units_of base) (units_of v) tail → ShortestUnits k p tail b → IsFirst (λ c b. SpellsTail Usual k p base c b v) b
tail_is_first k p base v tail b u l best spelled =
    let few = units_of_string k v u l in
    record {
      cut = record { side = at_end; part = length tail };
      form = record { tail = tail; tail_form = (units_form k p tail b spelled).form; value = of_few k (ended_by (units_of base) tail) v (of_units_is k v u l) few.0 best.made; cut_is = refl };
      first = λ c o other.
          let made = units_are k (ended_by (units_of base) other.tail) v other.value.1 in
          let least = tail_least k p other.tail o other.tail_form in
          let w = worse_first (tail_size k p tail) (length b) (tail_size k p other.tail) (length o) (length tail) (record { side = at_end; part = length other.tail }) (units_is k p tail b spelled) least (best.first other.tail made) in
          rw other.cut_is (at_end_first (length b) (length o) (length tail) (record { side = at_end; part = length other.tail }) w.0 w.1);
    }

-- ---- which tail that is

-- the one of a longer value is the whole of it
pub longer_tail : (k : Kind) (p : Presence) (base v : List ℕ) → length base < length v → IsBestTail k p base v v
longer_tail k p base v lt =
    let prefix = longest_prefix base v in
    let none : length base - length v ≡ 0 = omega arith in
    record { made = rw none refl; first = λ t e. let same = (tail_is base v t prefix.0 prefix.1 e).1 lt in rw same (inr (refl, omega arith)) }

module _ (k : Kind) (p : Presence) (base v : List ℕ) (n : ℕ) (prefix : IsLongestPrefix base v n) (same : length v ≡ length base) where
  keeps : (j : ℕ) → j ≤ n → v ≡ ended_by base (drop j v)
  keeps j le =
      let in_v = prefix.in_b in
      let kept : length base - length (drop j v) ≡ j = omega (arith, length-drop j v) in
      let front : take j base ≡ take j v = sym (take-take j n base le) ∙ ap (take j) prefix.common ∙ take-take j n v le in
      rw (kept, front) (sym (take-append-drop j v))

  -- a tail behind a common front, if none behind another is better
  best_behind : (j : ℕ) → j ≤ n → ((i : ℕ) → i ≤ n → NoWorse (tail_size k p (drop j v)) (length v - j) (tail_size k p (drop i v)) (length v - i)) → IsBestTail k p base v (drop j v)
  best_behind j le best = record {
    made = keeps j le;
    first = λ t e.
        let w = (tail_is base v t n prefix e).2 same in
        let size : length t ≡ length v - (length v - length t) = let short = w.0 in omega arith in
        subst (λ (x : List ℕ). NoWorse (tail_size k p (drop j v)) (length (drop j v)) (tail_size k p x) (length t)) (sym w.2)
        (rw (length-drop j v) (subst (λ (m : ℕ). NoWorse (tail_size k p (drop j v)) (length v - j) (tail_size k p (drop (length v - length t) v)) m) (sym size) (best (length v - length t) w.1)));
  }

  -- where fewer units never take more bytes, the shortest
  shortest : IsPartCost (tail_size k p) → IsBestTail k p base v (drop n v)
  shortest cost =
      best_behind n (omega arith)
      (λ i le.
      let in_v = prefix.in_b in
      let on : i + (n - i) ≡ n = omega arith in
      let more : drop (n - i) (drop i v) ≡ drop n v = drop-drop (n - i) i v ∙ ap (λ (m : ℕ). drop m v) on in
      let fewer : tail_size k p (drop n v) ≤ tail_size k p (drop i v) = rw (← more) (cost.on_drop (n - i) (drop i v)) in
      no_worse _ _ _ fewer (λ e. omega arith))

-- in the nullable form of ASCII
nullable_size_is : (s : List ℕ) → ascii_nullable_size (Value s) ≡ length s + preamble s
nullable_size_is [] = refl
nullable_size_is (zero ∷ s) = omega arith
nullable_size_is (suc c ∷ s) = omega arith

cost_is : (v : List ℕ) (j : ℕ) → ascii_nullable_size (Value (drop j v)) ≡ tail_cost v j
cost_is v j = nullable_size_is (drop j v) ∙ ap (λ (m : ℕ). m + preamble (drop j v)) (length-drop j v)

abbrev NullableBest : List ℕ → ℕ → ℕ → Type 0
NullableBest v j i = NoWorse (ascii_nullable_size (Value (drop j v))) (length v - j) (ascii_nullable_size (Value (drop i v))) (length v - i)

as_cost : (v : List ℕ) (j i : ℕ) → NoWorse (tail_cost v j) (length v - j) (tail_cost v i) (length v - i) → NullableBest v j i
as_cost v j i h = rw (cost_is v j, cost_is v i) h

pub vector_nullable_parts : IsPartCost (λ s. vector_nullable_size (Value s))
vector_nullable_parts = vector_parts (λ n. unsigned_size (n + 1)) (λ m n le. unsigned_size-grows (m + 1) (n + 1) (omega arith))

-- ---- which tail that is, told by the sizes of two: the shortest, or one unit more where that has fewer bytes

pub on_next : (cost : List ℕ → ℕ) → IsPartCost cost → (v : List ℕ) (n : ℕ) → 0 < n → cost (drop n v) ≤ cost (drop (n - 1) v)
on_next cost is v n some =
    let on : n - 1 + 1 ≡ n = omega arith in
    let next : drop 1 (drop (n - 1) v) ≡ drop n v = drop-drop 1 (n - 1) v ∙ ap (λ (m : ℕ). drop m v) on in
    subst (λ (t : List ℕ). cost t ≤ cost (drop (n - 1) v)) next (is.on_drop 1 (drop (n - 1) v))

needs_preamble : (v : List ℕ) (m : ℕ) → suc m ≤ length v → tail_cost v m < tail_cost v (suc m) → (preamble (drop (suc m) v) ≡ 2) × (preamble (drop m v) ≡ 0)
needs_preamble v m le lt = elim (preamble-cases (drop (suc m) v)) [
  | inl none ↦ absurd (omega (arith, lt))
  | inr two ↦ elim (preamble-cases (drop m v)) [ inl none ↦ (two, none) | inr twice ↦ absurd (omega (arith, lt)) ]
]

needs_none : (v : List ℕ) (m : ℕ) → suc m ≤ length v → tail_cost v (suc m) ≤ tail_cost v m → (i : ℕ) → i ≤ suc m → NoWorse (tail_cost v (suc m)) (length v - suc m) (tail_cost v i) (length v - i)
needs_none v m le no_less i small = elim (preamble-cases (drop (suc m) v)) [
  | inl none ↦ shortest_tail v (suc m) i le small none
  | inr two ↦ elim (preamble-cases (drop m v)) [ inl none ↦ absurd (omega (arith, no_less)) | inr twice ↦ still_shortest v m i le small two twice ]
]

pub longer_is_best : (k : Kind) (p : Presence) (base v : List ℕ) (n : ℕ) → IsLongestPrefix base v n → length v ≡ length base → 0 < n → tail_size k p (drop (n - 1) v) < tail_size k p (drop n v) → IsBestTail k p base v (drop (n - 1) v)
longer_is_best k Mandatory base v n prefix same some lt = absurd (omega (arith, lt, on_next (part_size k) (parts k) v n some))
longer_is_best Kind.Ascii Optional base v zero prefix same some lt = absurd (omega (arith, some))
longer_is_best Kind.Ascii Optional base v (suc m) prefix same some lt =
    let in_v = prefix.in_b in
    let back : suc m - 1 ≡ m = omega arith in
    let needs = needs_preamble v m in_v (rw (← cost_is v m, ← cost_is v (suc m)) (rw back at lt)) in
    rw back (best_behind Kind.Ascii Optional base v (suc m) prefix same m (omega arith) (λ i small. as_cost v m i (one_more v m i in_v small needs.0 needs.1)))
longer_is_best k Optional base v n prefix same some lt = absurd (omega (arith, lt, on_next (λ s. vector_nullable_size (Value s)) vector_nullable_parts v n some))

pub shortest_is_best : (k : Kind) (p : Presence) (base v : List ℕ) (n : ℕ) → IsLongestPrefix base v n → length v ≡ length base → (0 < n → tail_size k p (drop n v) ≤ tail_size k p (drop (n - 1) v)) → IsBestTail k p base v (drop n v)
shortest_is_best k Mandatory base v n prefix same no_less = shortest k Mandatory base v n prefix same (parts k)
shortest_is_best Kind.Ascii Optional base v zero prefix same no_less =
    best_behind Kind.Ascii Optional base v 0 prefix same 0 (omega arith) (λ i small. let none : i ≡ 0 = omega arith in rw none (inr (refl, omega arith)))
shortest_is_best Kind.Ascii Optional base v (suc m) prefix same no_less =
    let in_v = prefix.in_b in
    let back : suc m - 1 ≡ m = omega arith in
    let less : tail_cost v (suc m) ≤ tail_cost v m = rw (← cost_is v m, ← cost_is v (suc m)) (rw back at (no_less (omega arith))) in
    best_behind Kind.Ascii Optional base v (suc m) prefix same (suc m) (omega arith) (λ i small. as_cost v (suc m) i (needs_none v m in_v less i small))
shortest_is_best k Optional base v n prefix same no_less = shortest k Optional base v n prefix same vector_nullable_parts

-- a value as long as its base has one
cut_tail : (k : Kind) (p : Presence) (base v : List ℕ) → length v ≡ length base → (j : ℕ) × IsBestTail k p base v (drop j v)
cut_tail k p base v same =
    let n = longest_prefix base v in
    elim (cases_lt 0 n.0) [
      | inl some ↦ elim (cases_lt (tail_size k p (drop (n.0 - 1) v)) (tail_size k p (drop n.0 v))) [
        | inl lt ↦ (n.0 - 1, longer_is_best k p base v n.0 n.1 same some lt)
        | inr ge ↦ (n.0, shortest_is_best k p base v n.0 n.1 same (λ _. ge))
      ]
      | inr none ↦ (n.0, shortest_is_best k p base v n.0 n.1 same (λ some. absurd (omega (arith, none, some))))
    ]

-- each value that is no shorter than its base has one
tail_stands : (k : Kind) (p : Presence) (base v : Scalar) (tail : List ℕ) → IsUnitKind k → IsOfType k v → IsString k tail → IsBestTail k p (units_of base) (units_of v) tail → First (λ c b. SpellsTail Usual k p base c b v)
tail_stands k p base v tail u l fits best = let s = shortest_units k p tail fits in (s.0, tail_is_first k p base v tail s.0 u l best s.1)

pub tail_first : (k : Kind) (p : Presence) (base v : Scalar) → IsUnitKind k → IsOfType k v → length (units_of base) ≤ length (units_of v) → First (λ c b. SpellsTail Usual k p base c b v)
tail_first k p base v u l le =
    let fits = units_of_string k v u l in
    elim (cases_lt (length (units_of base)) (length (units_of v))) [
      | inl lt ↦ tail_stands k p base v (units_of v) u l fits (longer_tail k p (units_of base) (units_of v) lt)
      | inr ge ↦
          let t = cut_tail k p (units_of base) (units_of v) (omega arith) in
          tail_stands k p base v (drop t.0 (units_of v)) u l (drop_fits k t.0 (units_of v) fits) t.1
    ]
