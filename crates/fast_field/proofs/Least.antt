-- Why the longest common part gives the shortest spelling of a delta or a tail.
use Rattle.fast_field.proofs.Common.{◌≡◌, ℕ, zero, suc, ◌+◌, ◌-◌, ◌<◌, ◌≤◌, List, [], ◌∷◌, ◌++◌, length, take, drop, refl, sym, ap, ◌∙◌, arith, inl, inr, ℤ, pos, negsuc, ◌⊎◌, drop-append-add, cases_lt, ascii_size, IsLongestPrefix, IsLongestSuffix, ended_by, NoWorse}
use Rattle.std.proofs.lemmas.List.{take_at, drop_at, take-append-le, length-append, length-take, length-drop}

-- ---- deltas

-- Whatever else is kept of the front is shorter: more is removed, and the new part is what the longest one appends, behind other units.
pub record EndIsLess (base v p : List ℕ) (n k : ℕ) : Type 0 where
  pub less_removed : length base - n ≤ k
  pub more : ℕ
  pub part : drop n v ≡ drop more p

pub end_is_less : (base v p : List ℕ) (n k : ℕ) → IsLongestPrefix base v n → k ≤ length base → v ≡ take (length base - k) base ++ p → EndIsLess base v p n k
end_is_less base v p n k is there e =
    let keep = take (length base - k) base in
    let len : length keep ≡ length base - k = omega (arith, length-take (length base - k) base) in
    let len_v : length v ≡ length keep + length p = ap length e ∙ length-append keep p in
    let front : take (length base - k) v ≡ keep = ap (take (length base - k)) e ∙ take_at keep p (length base - k) len in
    let least : length base - k ≤ n = is.longest (length base - k) (omega arith) (omega arith) (sym front) in
    let split : n ≡ length keep + (n - length keep) = omega arith in
    record { less_removed = omega arith; more = n - length keep; part = ap (λ (x : List ℕ). drop n x) e ∙ ap (λ (m : ℕ). drop m (keep ++ p)) split ∙ drop-append-add keep p (n - length keep) }

pub record FrontIsLess (base v p : List ℕ) (n k : ℕ) : Type 0 where
  pub less_removed : length base - n ≤ k
  pub part : take (length v - n) v ≡ take (length v - n) p

pub front_is_less : (base v p : List ℕ) (n k : ℕ) → IsLongestSuffix base v n → k ≤ length base → v ≡ p ++ drop k base → FrontIsLess base v p n k
front_is_less base v p n k is there e =
    let keep = drop k base in
    let len : length keep ≡ length base - k = length-drop k base in
    let len_v : length v ≡ length p + length keep = ap length e ∙ length-append p keep in
    let at_v : length v - (length base - k) ≡ length p = omega arith in
    let at_base : length base - (length base - k) ≡ k = omega arith in
    let back : drop (length v - (length base - k)) v ≡ keep = ap (λ (m : ℕ). drop m v) at_v ∙ ap (drop (length p)) e ∙ drop_at p keep (length p) refl in
    let same : drop (length base - (length base - k)) base ≡ drop (length v - (length base - k)) v = ap (λ (m : ℕ). drop m base) at_base ∙ sym back in
    let least : length base - k ≤ n = is.longest (length base - k) (omega arith) (omega arith) same in
    let short : length v - n ≤ length p = omega arith in
    record { less_removed = omega arith; part = ap (λ (x : List ℕ). take (length v - n) x) e ∙ take-append-le (length v - n) p keep short }

-- What the bytes of a new part and of a length keep to: fewer units and a smaller removal never take more.
pub record IsPartCost (cost : List ℕ → ℕ) : Type 0 where
  pub on_drop : (m : ℕ) (s : List ℕ) → cost (drop m s) ≤ cost s
  pub on_take : (m : ℕ) (s : List ℕ) → cost (take m s) ≤ cost s

pub record IsLengthCost (cost : ℤ → ℕ) : Type 0 where
  pub at_end : (m n : ℕ) → m ≤ n → cost (pos m) ≤ cost (pos n)
  pub in_front : (m n : ℕ) → m ≤ n → cost (negsuc m) ≤ cost (negsuc n)

-- So of all removals at the end the longest common prefix has the fewest bytes and the shortest part,
pub end_is_least : (lc : ℤ → ℕ) (pc : List ℕ → ℕ) (base v p : List ℕ) (n k : ℕ) → IsLengthCost lc → IsPartCost pc → IsLongestPrefix base v n → k ≤ length base → v ≡ take (length base - k) base ++ p
    → (lc (pos (length base - n)) + pc (drop n v) ≤ lc (pos k) + pc p) × (length (drop n v) ≤ length p)
end_is_least lc pc base v p n k lengths parts is there e =
    let h = end_is_less base v p n k is there e in
    let a = lengths.at_end (length base - n) k h.less_removed in
    let b : pc (drop n v) ≤ pc p = rw h.part (parts.on_drop h.more p) in
    let c : length (drop n v) ≤ length p = rw h.part (omega (arith, length-drop h.more p)) in
    (omega (arith, a, b), c)

-- and of all removals in front the longest common suffix.
pub front_is_least : (lc : ℤ → ℕ) (pc : List ℕ → ℕ) (base v p : List ℕ) (n k : ℕ) → IsLengthCost lc → IsPartCost pc → IsLongestSuffix base v n → k ≤ length base → v ≡ p ++ drop k base
    → (lc (negsuc (length base - n)) + pc (take (length v - n) v) ≤ lc (negsuc k) + pc p) × (length (take (length v - n) v) ≤ length p)
front_is_least lc pc base v p n k lengths parts is there e =
    let h = front_is_less base v p n k is there e in
    let a = lengths.in_front (length base - n) k h.less_removed in
    let b : pc (take (length v - n) v) ≤ pc p = rw h.part (parts.on_take (length v - n) p) in
    let c : length (take (length v - n) v) ≤ length p = rw h.part (omega (arith, length-take (length v - n) p)) in
    (omega (arith, a, b), c)

-- ---- what the forms of new parts take

ascii_size-bounds : (s : List ℕ) → (1 ≤ ascii_size s) × (ascii_size s ≤ 1 + length s) × (length s ≤ ascii_size s)
ascii_size-bounds [] = (omega arith, omega arith, omega arith)
ascii_size-bounds (zero ∷ s) = (omega arith, omega arith, omega arith)
ascii_size-bounds (suc c ∷ s) = (omega arith, omega arith, omega arith)

ascii_on_drop : (m : ℕ) (s : List ℕ) → ascii_size (drop m s) ≤ ascii_size s
ascii_on_drop zero s = omega arith
ascii_on_drop (suc m) [] = omega arith
ascii_on_drop (suc m) (c ∷ s) = omega (arith, (ascii_size-bounds (drop m s)).1, length-drop m s, (ascii_size-bounds (c ∷ s)).2)

ascii_on_take : (m : ℕ) (s : List ℕ) → ascii_size (take m s) ≤ ascii_size s
ascii_on_take zero s = (ascii_size-bounds s).0
ascii_on_take (suc m) [] = omega arith
ascii_on_take (suc m) (zero ∷ s) = omega (arith, length-take m s)
ascii_on_take (suc m) (suc c ∷ s) = omega (arith, length-take m s)

pub ascii_parts : IsPartCost ascii_size
ascii_parts = record { on_drop = ascii_on_drop; on_take = ascii_on_take }

-- vectors: a length and the bytes
pub vector_parts : (size : ℕ → ℕ) → ((m n : ℕ) → m ≤ n → size m ≤ size n) → IsPartCost (λ s. size (length s) + length s)
vector_parts size grows = record {
  on_drop = λ m s. omega (arith, grows (length (drop m s)) (length s) (omega (arith, length-drop m s)), length-drop m s);
  on_take = λ m s. omega (arith, grows (length (take m s)) (length s) (omega (arith, length-take m s)), length-take m s);
}

-- ---- tails

-- A value shorter than its base has no tail; a longer one has itself alone; of one as long each common prefix leaves a tail.
pub tail_is : (base v t : List ℕ) (n : ℕ) → IsLongestPrefix base v n → v ≡ ended_by base t
    → (length base ≤ length v) × (length base < length v → t ≡ v) × (length v ≡ length base → (length t ≤ length v) × (length v - length t ≤ n) × (t ≡ drop (length v - length t) v))
tail_is base v t n is e =
    let keep = take (length base - length t) base in
    let len : length keep ≡ length base - length t = omega (arith, length-take (length base - length t) base) in
    let len_v : length v ≡ length keep + length t = ap length e ∙ length-append keep t in
    let at : length v - length t ≡ length keep = omega arith in
    let front : take (length v - length t) v ≡ keep = ap (λ (m : ℕ). take m v) at ∙ ap (take (length keep)) e ∙ take_at keep t (length keep) refl in
    let back : drop (length v - length t) v ≡ t = ap (λ (m : ℕ). drop m v) at ∙ ap (drop (length keep)) e ∙ drop_at keep t (length keep) refl in
    let whole : length base < length v → t ≡ v = λ h. let none : length v - length t ≡ 0 = omega arith in sym back ∙ ap (λ (m : ℕ). drop m v) none in
    let cut : length v ≡ length base → (length t ≤ length v) × (length v - length t ≤ n) × (t ≡ drop (length v - length t) v) =
    λ h.
    let kept : keep ≡ take (length v - length t) base = ap (λ (m : ℕ). take m base) (omega arith) in
    (omega arith, is.longest (length v - length t) (omega arith) (omega arith) (sym kept ∙ sym front), sym back) in
    (omega arith, whole, cut)

-- Nullable ASCII: two bytes more where there is no character or the first is NUL. So a shorter tail may take more bytes than a longer one.
abbrev pub preamble : List ℕ → ℕ
preamble [] = 2
preamble (zero ∷ s) = 2
preamble (suc c ∷ s) = 0

pub preamble-cases : (s : List ℕ) → (preamble s ≡ 0) ⊎ (preamble s ≡ 2)
preamble-cases [] = inr refl
preamble-cases (zero ∷ s) = inr refl
preamble-cases (suc c ∷ s) = inl refl

abbrev pub tail_cost : List ℕ → ℕ → ℕ
tail_cost v j = (length v - j) + preamble (drop j v)

pub no_worse : (m m' : ℕ) (P : Type 0) → m ≤ m' → (m ≡ m' → P) → (m < m') ⊎ ((m ≡ m') × P)
no_worse m m' P le h = elim (cases_lt m m') [ inl lt ↦ inl lt | inr ge ↦ let e : m ≡ m' = omega arith in inr (e, h e) ]

-- where the shortest tail needs no preamble it is the best
pub shortest_tail : (v : List ℕ) (n j : ℕ) → n ≤ length v → j ≤ n → preamble (drop n v) ≡ 0 → NoWorse (tail_cost v n) (length v - n) (tail_cost v j) (length v - j)
shortest_tail v n j in_v le none = no_worse _ _ _ (omega arith) (λ e. omega arith)

-- where it does, and one unit more needs none, that one is
pub one_more : (v : List ℕ) (n j : ℕ) → suc n ≤ length v → j ≤ suc n → preamble (drop (suc n) v) ≡ 2 → preamble (drop n v) ≡ 0 → NoWorse (tail_cost v n) (length v - n) (tail_cost v j) (length v - j)
one_more v n j in_v le two none =
    elim (cases_lt n j) [
      | inl lt ↦
          let at : j ≡ suc n = omega arith in
          let cost : preamble (drop j v) ≡ 2 = rw at two in
          no_worse _ _ _ (omega arith) (λ e. omega arith)
      | inr ge ↦ no_worse _ _ _ (omega arith) (λ e. omega arith)
    ]

-- and otherwise the shortest is after all
pub still_shortest : (v : List ℕ) (n j : ℕ) → suc n ≤ length v → j ≤ suc n → preamble (drop (suc n) v) ≡ 2 → preamble (drop n v) ≡ 2 → NoWorse (tail_cost v (suc n)) (length v - suc n) (tail_cost v j) (length v - j)
still_shortest v n j in_v le two twice =
    elim (cases_lt n j) [
      | inl lt ↦
          let at : j ≡ suc n = omega arith in
          let cost : preamble (drop j v) ≡ 2 = rw at two in
          no_worse _ _ _ (omega arith) (λ e. omega arith)
      | inr ge ↦ elim (cases_lt j n) [
        | inl lt ↦ no_worse _ _ _ (omega arith) (λ e. omega arith)
        | inr more ↦
            let at : j ≡ n = omega arith in
            let cost : preamble (drop j v) ≡ 2 = rw at twice in
            no_worse _ _ _ (omega arith) (λ e. omega arith)
      ]
    ]
