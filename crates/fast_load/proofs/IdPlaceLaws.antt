-- Maps from identifiers to the first templates that have them.
use Rattle.fast_load.proofs.Common.{◌≡◌, ◌<◌, ◌≤◌, ◌+◌, ℕ, suc, List, [], ◌∷◌, ◌++◌, length, take, get_or, cond, if◌then◌else◌, option_map, option_and_then, find, Option, Some, None, Bool, true, false, refl, sym, ap, ◌∙◌, arith, slice_get, option_or, BTreeMap, take_more, take_all, length-take, FlatTemplate, has_id, first_with, LeadsToFirst, EntersPlace, FindsAll}

further : (b c : Bool) (o : Option ℕ) (n : ℕ) → (if b then Some 0 else option_map suc (option_or o (if c then Some n else None))) ≡ option_or (if b then Some 0 else option_map suc o) (if c then Some (suc n) else None)
further true c o n = refl
further false true None n = refl
further false false None n = refl
further false c (Some m) n = refl

first_with-push : (ts : List FlatTemplate) (t : FlatTemplate) (id : ℕ) → first_with (ts ++ t ∷ []) id ≡ option_or (first_with ts id) (if has_id id t.id then Some (length ts) else None)
first_with-push [] t id = alone (has_id id t.id) where
  alone : (b : Bool) → (if b then Some 0 else option_map suc None) ≡ option_or None (if b then Some 0 else None)
  alone true = refl
  alone false = refl
first_with-push (x ∷ ts) t id = ap (λ o. if has_id id x.id then Some 0 else option_map suc o) (first_with-push ts t id) ∙ further (has_id id x.id) (has_id id t.id) (first_with ts id) (length ts)

shifted : (t : FlatTemplate) (ts : List FlatTemplate) (o : Option ℕ) → option_and_then (slice_get (t ∷ ts)) (option_map suc o) ≡ option_and_then (slice_get ts) o
shifted t ts None = refl
shifted t ts (Some n) = refl

found_by : (ts : List FlatTemplate) (id : ℕ) → option_and_then (slice_get ts) (first_with ts id) ≡ find (λ t. has_id id t.id) ts
found_by [] id = refl
found_by (t ∷ ts) id = by (has_id id t.id) (found_by ts id) where
  by : (b : Bool) → option_and_then (slice_get ts) (first_with ts id) ≡ find (λ x. has_id id x.id) ts → option_and_then (slice_get (t ∷ ts)) (if b then Some 0 else option_map suc (first_with ts id)) ≡ cond b (Some t) (find (λ x. has_id id x.id) ts)
  by true rest = refl
  by false rest = shifted t ts (first_with ts id) ∙ rest

-- one template more
pub enters : (old new : BTreeMap ℕ ℕ) (ts : List FlatTemplate) (i place : ℕ) (d : FlatTemplate) → i < length ts → d ≡ get_or ts i d → place ≡ i → LeadsToFirst old (take i ts) → EntersPlace old new d.id place → LeadsToFirst new (take (i + 1) ts)
enters old new ts i place d inside at here lead enter id =
    let len : place ≡ length (take i ts) = (let k = length-take i ts in omega (arith, k, inside, here)) in
    enter id
    ∙ ap (λ o. option_or o (if has_id id d.id then Some place else None)) (lead id)
    ∙ ap (λ n. option_or (first_with (take i ts) id) (if has_id id d.id then Some n else None)) len
    ∙ sym (first_with-push (take i ts) d id)
    ∙ ap (λ l. first_with l id) (ap (λ x. take i ts ++ x ∷ []) at ∙ sym (take_more ts i d inside))

pub finds : (places : BTreeMap ℕ ℕ) (ts : List FlatTemplate) (i : ℕ) → length ts ≤ i → LeadsToFirst places (take i ts) → FindsAll places ts
finds places ts i le lead id = ap (option_and_then (slice_get ts)) (lead id ∙ ap (λ l. first_with l id) (take_all i ts le)) ∙ found_by ts id
