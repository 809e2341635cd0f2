-- References by name and by place are one, and so are their cycles and orders.
use Rattle.fast_load.proofs.Common.{◌≡◌, ◌≢◌, ◌≤◌, ◌<◌, ◌+◌, ℕ, zero, suc, List, [], ◌∷◌, length, get_or, map, min, nat_eq, option_to_list, option_map, Option, Some, None, Vec, ◌⊎◌, inl, inr, refl, sym, ap, subst, ◌∙◌, arith, slice_get, nat_cmp, ordering_then, ranked, Ordering, Less, Equal, Greater, pointwise, nat_list_eq_equiv, same_text, Global, cases_eq, cases_lt, slice_get_within, slice_get-map, slice_get_cases, length-map, Cycle, LoadFault, Template, WrittenInstruction, WrittenInstructions, written_field, written_parts, written_group, written_sequence, written_reference, no_written, then_written, WrittenTemplate, written_template_of, listed, listed_one, phase_of, Passes, IsFirstOf, place_named, IsReference, AreWithin, Reaches, one, further, IsOrder, IsFirstOnCycle, AreLinks, references_in, references_in_one, places_of, EachReference, EachReferenceOne, IsBehind, IsBuildOrder, at_append, at_old, at_right}
use Rattle.fast_load.specs.LoadChecks.{Check, few_templates, names_well_made, name_new, id_new, operator_allowed, constant_has_value, default_has_value, value_spelled, reference_known, off_cycles, nests_little, sum_small, IsTemplateAt, Fails, Before, Refers, Leads, directly, onwards}
use Rattle.fast_load.proofs.DuplicatePhase.{Found, found, placed}

-- ---- places of names

place_at : (o : Option ℕ) (j b : ℕ) → slice_get (option_to_list o) j ≡ Some b → o ≡ Some b
place_at None j b e = absurd (cc e)
place_at (Some c) zero b e = e
place_at (Some c) (suc j) b e = absurd (cc e)

places_from : (f : List ℕ → Option ℕ) (names : List (List ℕ)) (k b : ℕ) → slice_get (places_of f names) k ≡ Some b → (j : ℕ) × (name : List ℕ) × (slice_get names j ≡ Some name) × (f name ≡ Some b)
places_from f [] k b e = absurd (cc e)
places_from f (name ∷ names) k b e = elim (at_append (option_to_list (f name)) (places_of f names) k b e) [
  | inl a ↦ (0, name, refl, place_at (f name) k b a)
  | inr r ↦ let m = places_from f names r.0 b r.2 in (suc m.0, m.1, m.2, m.3)
]

places_to : (f : List ℕ → Option ℕ) (names : List (List ℕ)) (j : ℕ) (name : List ℕ) (b : ℕ) → slice_get names j ≡ Some name → f name ≡ Some b → (k : ℕ) × (slice_get (places_of f names) k ≡ Some b)
places_to f [] j name b at e = absurd (cc at)
places_to f (n ∷ names) zero name b at e =
    let same : n ≡ name = cc (at) in
    (0, at_old (option_to_list (f n)) (places_of f names) 0 b (ap (λ o. slice_get (option_to_list o) 0) (ap f same ∙ e)))
places_to f (n ∷ names) (suc j) name b at e =
    let r = places_to f names j name b at e in
    (length (option_to_list (f n)) + r.0, at_right (option_to_list (f n)) (places_of f names) r.0 b r.1)

-- ---- references among listed instructions

mutual
  listed_one_to : (i : WrittenInstruction) (k : ℕ) (name : List ℕ) → slice_get (listed_one i) k ≡ Some (written_reference name) → (j : ℕ) × (slice_get (references_in_one i) j ≡ Some name)
  listed_one_to (written_field n kind presence operation) zero name e = absurd (cc e)
  listed_one_to (written_field n kind presence operation) (suc k) name e = absurd (cc e)
  listed_one_to (written_parts n presence exponent mantissa) zero name e = absurd (cc e)
  listed_one_to (written_parts n presence exponent mantissa) (suc k) name e = absurd (cc e)
  listed_one_to (written_group n presence around members) zero name e = absurd (cc e)
  listed_one_to (written_group n presence around members) (suc k) name e = listed_to members k name e
  listed_one_to (written_sequence n presence around length_name len members) zero name e = absurd (cc e)
  listed_one_to (written_sequence n presence around length_name len members) (suc k) name e = listed_to members k name e
  listed_one_to (written_reference n) zero name e = (0, cc (e))
  listed_one_to (written_reference n) (suc k) name e = absurd (cc e)

  pub listed_to : (is : WrittenInstructions) (k : ℕ) (name : List ℕ) → slice_get (listed is) k ≡ Some (written_reference name) → (j : ℕ) × (slice_get (references_in is) j ≡ Some name)
  listed_to no_written k name e = absurd (cc e)
  listed_to (then_written i is) k name e = elim (at_append (listed_one i) (listed is) k (written_reference name) e) [
    | inl a ↦ let r = listed_one_to i k name a in (r.0, at_old (references_in_one i) (references_in is) r.0 name r.1)
    | inr m ↦ let r = listed_to is m.0 name m.2 in (length (references_in_one i) + r.0, at_right (references_in_one i) (references_in is) r.0 name r.1)
  ]

mutual
  listed_one_from : (i : WrittenInstruction) (j : ℕ) (name : List ℕ) → slice_get (references_in_one i) j ≡ Some name → (k : ℕ) × (slice_get (listed_one i) k ≡ Some (written_reference name))
  listed_one_from (written_field n kind presence operation) j name e = absurd (cc e)
  listed_one_from (written_parts n presence exponent mantissa) j name e = absurd (cc e)
  listed_one_from (written_group n presence around members) j name e = let r = listed_from members j name e in (suc r.0, r.1)
  listed_one_from (written_sequence n presence around length_name len members) j name e = let r = listed_from members j name e in (suc r.0, r.1)
  listed_one_from (written_reference n) zero name e = let same : n ≡ name = cc (e) in (0, ap (λ m. Some (written_reference m)) same)
  listed_one_from (written_reference n) (suc j) name e = absurd (cc e)

  listed_from : (is : WrittenInstructions) (j : ℕ) (name : List ℕ) → slice_get (references_in is) j ≡ Some name → (k : ℕ) × (slice_get (listed is) k ≡ Some (written_reference name))
  listed_from no_written j name e = absurd (cc e)
  listed_from (then_written i is) j name e = elim (at_append (references_in_one i) (references_in is) j name e) [
    | inl a ↦ let r = listed_one_from i j name a in (r.0, at_old (listed_one i) (listed is) r.0 (written_reference name) r.1)
    | inr m ↦ let r = listed_from is m.0 name m.2 in (length (listed_one i) + r.0, at_right (listed_one i) (listed is) r.0 (written_reference name) r.1)
  ]

mutual
  each_one_of : (P : List ℕ → Type 0) (i : WrittenInstruction) → ((j : ℕ) (name : List ℕ) → slice_get (references_in_one i) j ≡ Some name → P name) → EachReferenceOne P i
  each_one_of P (written_field n kind presence operation) all = tt
  each_one_of P (written_parts n presence exponent mantissa) all = tt
  each_one_of P (written_group n presence around members) all = each_of P members all
  each_one_of P (written_sequence n presence around length_name len members) all = each_of P members all
  each_one_of P (written_reference n) all = all 0 n refl

  pub each_of : (P : List ℕ → Type 0) (is : WrittenInstructions) → ((j : ℕ) (name : List ℕ) → slice_get (references_in is) j ≡ Some name → P name) → EachReference P is
  each_of P no_written all = tt
  each_of P (then_written i is) all = (
    each_one_of P i (λ j name at. all j name (at_old (references_in_one i) (references_in is) j name at)),
    each_of P is (λ j name at. all (length (references_in_one i) + j) name (at_right (references_in_one i) (references_in is) j name at)),
  )

-- ---- names that differ

-- the template at the first place of a name
pub named_there : (ts : List WrittenTemplate) (name : List ℕ) (b : ℕ) → place_named ts name ≡ Some b → (w : WrittenTemplate) × (slice_get ts b ≡ Some w) × (w.name ≡ name)
unfolding Found
named_there ts name b e = let f = found (λ x. pointwise nat_eq x.name name) ts b e in (f.0, f.1, same_text f.0.name name (sym f.2))

-- a template stands at the first place of its name
pub named_here : (ts : List WrittenTemplate) → Passes ts 2 → (b : ℕ) (w : WrittenTemplate) → slice_get ts b ≡ Some w → place_named ts w.name ≡ Some b
named_here ts differ b w at =
    let first = placed (λ x. pointwise nat_eq x.name w.name) ts b w at (nat_list_eq_equiv.refl w.name) in
    let there = named_there ts w.name first.0 first.1 in
    elim (cases_eq first.0 b) [
      | inl same ↦ first.1 ∙ ap Some same
      | inr apart ↦ elim (cases_lt first.0 b) [
        | inl less ↦ absurd (differ (name_new (suc b)) refl (suc first.0, there.0, w, omega (arith, less), there.1, at, there.2))
        | inr le ↦ absurd (differ (name_new (suc first.0)) refl (suc b, w, there.0, omega (arith, le, apart), at, there.1, sym there.2))
      ]
    ]

-- a reference leads to a template
pub is_known : (ts : List WrittenTemplate) → Passes ts 4 → (a : ℕ) (w : WrittenTemplate) (j : ℕ) (name : List ℕ) → slice_get ts a ≡ Some w → slice_get (references_in w.members) j ≡ Some name → (b : ℕ) × (place_named ts name ≡ Some b)
is_known ts known a w j name at ref = by (place_named ts name) refl where
  listed_at : (k : ℕ) × (slice_get (listed w.members) k ≡ Some (written_reference name))
  listed_at = listed_from w.members j name ref

  none : place_named ts name ≡ None → (u : ℕ) (v : WrittenTemplate) → IsTemplateAt ts u v → v.name ≢ name
  none gone zero v at_v same = absurd (cc at_v)
  none gone (suc u) v at_v same =
      let first = placed (λ x. pointwise nat_eq x.name name) ts u v at_v (ap (pointwise nat_eq v.name) (sym same) ∙ nat_list_eq_equiv.refl v.name) in
      cc (sym first.1 ∙ gone)

  by : (o : Option ℕ) → place_named ts name ≡ o → (b : ℕ) × (place_named ts name ≡ Some b)
  by (Some b) is = (b, is)
  by None is = absurd (known (reference_known (suc a) (suc listed_at.0)) refl (name, (w, at, listed_at.1), none is))

module _ (templates : List Template) (rows : List (Vec ℕ Global)) (are : AreLinks templates rows) where
  abbrev ts : List WrittenTemplate
  ts = map written_template_of templates

  rows_len : length rows ≡ length ts
  rows_len = sym (length-map rows (λ (row : Vec ℕ Global). row.items)) ∙ ap length are ∙ length-map templates (λ t. places_of (place_named ts) (references_in (written_template_of t).members)) ∙ sym (length-map templates written_template_of)

  -- the row of a template
  row_at : (a : ℕ) (row : Vec ℕ Global) (o : Option Template) → slice_get templates a ≡ o → slice_get rows a ≡ Some row → option_map (λ t. places_of (place_named ts) (references_in (written_template_of t).members)) o ≡ Some row.items → (w : WrittenTemplate) × (slice_get ts a ≡ Some w) × (row.items ≡ places_of (place_named ts) (references_in w.members))
  row_at a row None there at e = absurd (cc e)
  row_at a row (Some t) there at e = (written_template_of t, slice_get-map written_template_of templates a ∙ ap (option_map written_template_of) there, cc (e))

  of_row : (a : ℕ) (row : Vec ℕ Global) → slice_get rows a ≡ Some row → (w : WrittenTemplate) × (slice_get ts a ≡ Some w) × (row.items ≡ places_of (place_named ts) (references_in w.members))
  of_row a row at = row_at a row (slice_get templates a) refl at (sym (slice_get-map (λ t. places_of (place_named ts) (references_in (written_template_of t).members)) templates a) ∙ sym (ap (λ l. slice_get l a) are) ∙ slice_get-map (λ (r : Vec ℕ Global). r.items) rows a ∙ ap (option_map (λ (r : Vec ℕ Global). r.items)) at)

  -- a reference by place is one by name
  by_name : (a k b : ℕ) → IsReference rows a k b → (w : WrittenTemplate) × (j : ℕ) × (name : List ℕ) × (slice_get ts a ≡ Some w) × (slice_get (references_in w.members) j ≡ Some name) × (place_named ts name ≡ Some b)
  by_name a k b (row, at, ref) =
      let r = of_row a row at in
      let m = places_from (place_named ts) (references_in r.0.members) k b (sym (ap (λ l. slice_get l k) r.2) ∙ ref) in
      (r.0, m.0, m.1, r.1, m.2, m.3)

  row_there : (a : ℕ) (w : WrittenTemplate) → slice_get ts a ≡ Some w → (row : Vec ℕ Global) × (slice_get rows a ≡ Some row) × (row.items ≡ places_of (place_named ts) (references_in w.members))
  row_there a w at = by (slice_get rows a) refl (slice_get_cases rows a).1 where
    by : (o : Option (Vec ℕ Global)) → slice_get rows a ≡ o → ((row : Vec ℕ Global) × (a < length rows) × (slice_get rows a ≡ Some row) × (get_or rows a row ≡ row)) ⊎ ((length rows ≤ a) × (slice_get rows a ≡ None)) → (row : Vec ℕ Global) × (slice_get rows a ≡ Some row) × (row.items ≡ places_of (place_named ts) (references_in w.members))
    by o is (inl r) = let m = of_row a r.0 r.2 in let same : m.0 ≡ w = cc (sym m.1 ∙ at) in (r.0, r.2, m.2 ∙ ap (λ v. places_of (place_named ts) (references_in v.members)) same)
    by o is (inr past) =
        let inside : a < length ts = slice_get_within ts a w at in
        let k : length rows ≡ length ts = rows_len in
        let le : length rows ≤ a = past.0 in
        absurd (omega (arith, inside, k, le))

  -- and the other way round
  by_place : (a : ℕ) (w : WrittenTemplate) (j : ℕ) (name : List ℕ) (b : ℕ) → slice_get ts a ≡ Some w → slice_get (references_in w.members) j ≡ Some name → place_named ts name ≡ Some b → (k : ℕ) × IsReference rows a k b
  by_place a w j name b at ref is =
      let row = row_there a w at in
      let m = places_to (place_named ts) (references_in w.members) j name b ref is in
      (m.0, (row.0, row.1, ap (λ l. slice_get l m.0) row.2 ∙ m.1))

  pub links_within : AreWithin rows
  links_within a k b ref =
      let r = by_name a k b ref in
      let t = named_there ts r.2 b r.5 in
      let inside : b < length ts = slice_get_within ts b t.0 t.1 in
      let len : length rows ≡ length ts = rows_len in
      omega (arith, inside, len)

  -- ---- cycles

  refers_to : (a k b : ℕ) → IsReference rows a k b → Refers ts (suc a) (suc b)
  refers_to a k b ref =
      let r = by_name a k b ref in
      let t = named_there ts r.2 b r.5 in
      let l = listed_from r.0.members r.1 r.2 r.4 in
      (suc l.0, t.0, t.1, (r.0, r.3, l.1 ∙ ap (λ n. Some (written_reference n)) (sym t.2)))

  reference_from : Passes ts 2 → (a v : ℕ) → Refers ts (suc a) v → (b : ℕ) × (v ≡ suc b) × ((k : ℕ) × IsReference rows a k b)
  reference_from differ a zero (i, w, at, (u, at_u, here)) = absurd (cc at)
  reference_from differ a (suc b) (zero, w, at, (u, at_u, here)) = absurd (cc here)
  reference_from differ a (suc b) (suc i, w, at, (u, at_u, here)) =
      let l = listed_to u.members i w.name here in
      (b, refl, by_place a u l.0 w.name b at_u l.1 (named_here ts differ b w at))

  leads_to : (a b : ℕ) → Reaches rows a b → Leads ts (suc a) (suc b)
  leads_to a b (one k _ ref) = directly (suc b) (refers_to a k b ref)
  leads_to a b (further k c _ p ref) = onwards (suc c) (suc b) (leads_to a c p) (refers_to c k b ref)

  reaches_from : Passes ts 2 → (a v : ℕ) → Leads ts (suc a) v → (b : ℕ) × (v ≡ suc b) × Reaches rows a b
  reaches_from differ a v (directly _ r) = let m = reference_from differ a v r in (m.0, m.1, one m.2.0 m.0 m.2.1)
  reaches_from differ a v (onwards u _ p r) =
      let m = reaches_from differ a u p in
      let n = reference_from differ m.0 v (subst (λ z. Refers ts z v) m.1 r) in
      (n.0, n.1, further n.2.0 m.0 n.0 m.2 n.2.1)

  none_from_zero : (v : ℕ) → ¬ (Leads ts zero v)
  none_from_zero v (directly _ (i, w, at, (u, at_u, here))) = absurd (cc at_u)
  none_from_zero v (onwards u _ p r) = none_from_zero u p

  -- what references lead to stands before
  stands_before : (order : List ℕ) → IsOrder rows order → (p a b : ℕ) → slice_get order p ≡ Some a → Reaches rows a b → (q : ℕ) × (q < p) × (slice_get order q ≡ Some b)
  stands_before order o p a b at (one k _ ref) = o.behind p a k b at ref
  stands_before order o p a b at (further k c _ r ref) =
      let m = stands_before order o p a c at r in
      let n = o.behind m.0 c k b m.2 ref in
      (n.0, (let x : n.0 < m.0 = n.1 in let y : m.0 < p = m.1 in omega (arith, x, y)), n.2)

  descends : (order : List ℕ) → IsOrder rows order → (n p a : ℕ) → p < n → slice_get order p ≡ Some a → ¬ (Reaches rows a a)
  descends order o zero p a less at r = absurd (omega (arith, less))
  descends order o (suc n) p a less at r = let m = stands_before order o p a a at r in let x : m.0 < p = m.1 in descends order o n m.0 a (omega (arith, x, less)) m.2 r

  starts_within : (a b : ℕ) → Reaches rows a b → a < length rows
  starts_within a b (one k _ (row, at, ref)) = slice_get_within rows a row at
  starts_within a b (further k c _ p ref) = starts_within a c p

  no_cycle : (order : List ℕ) → IsOrder rows order → (a : ℕ) → ¬ (Reaches rows a a)
  no_cycle order o a r = let at = o.complete a (starts_within a a r) in descends order o (suc at.0) at.0 a (omega arith) at.1 r

  off_all : (order : List ℕ) → IsOrder rows order → Passes ts 2 → (t : ℕ) → ¬ (Leads ts t t)
  off_all order o differ zero l = none_from_zero zero l
  off_all order o differ (suc a) l =
      let m = reaches_from differ a (suc a) l in
      let same : a ≡ m.0 = cc (m.1) in
      no_cycle order o a (subst (Reaches rows a) (sym same) m.2)

  pub cycles_pass : (order : List ℕ) → IsOrder rows order → Passes ts 2 → Passes ts 5
  cycles_pass order o differ few_templates is = absurd (cc is)
  cycles_pass order o differ (names_well_made t i) is = absurd (cc is)
  cycles_pass order o differ (name_new t) is = absurd (cc is)
  cycles_pass order o differ (id_new t) is = absurd (cc is)
  cycles_pass order o differ (operator_allowed t i q) is = absurd (cc is)
  cycles_pass order o differ (constant_has_value t i q) is = absurd (cc is)
  cycles_pass order o differ (default_has_value t i q) is = absurd (cc is)
  cycles_pass order o differ (value_spelled t i q) is = absurd (cc is)
  cycles_pass order o differ (reference_known t i) is = absurd (cc is)
  cycles_pass order o differ (off_cycles t) is = off_all order o differ t
  cycles_pass order o differ (nests_little t) is = absurd (cc is)
  cycles_pass order o differ (sum_small t) is = absurd (cc is)

  below : (t u : ℕ) (o : Ordering) → nat_cmp t u ≡ o → ordering_then o Equal ≡ Less → t < u
  below t u Less is e = ranked t u Less (sym is)
  below t u Equal is e = absurd (cc e)
  below t u Greater is e = absurd (cc e)

  earlier_off : (first : ℕ) → IsFirstOnCycle rows first → Passes ts 2 → (t : ℕ) → t < suc first → ¬ (Leads ts t t)
  earlier_off first f differ zero less l = none_from_zero zero l
  earlier_off first f differ (suc a) less l =
      let m = reaches_from differ a (suc a) l in
      let same : a ≡ m.0 = cc (m.1) in
      f.first a (omega (arith, less)) (subst (Reaches rows a) (sym same) m.2)

  first_cycle : (first : ℕ) → IsFirstOnCycle rows first → Passes ts 2 → (other : Check) → phase_of other ≡ 5 → Before other (off_cycles (suc first)) → ¬ (Fails ts other)
  first_cycle first f differ few_templates is before = absurd (cc is)
  first_cycle first f differ (names_well_made t i) is before = absurd (cc is)
  first_cycle first f differ (name_new t) is before = absurd (cc is)
  first_cycle first f differ (id_new t) is before = absurd (cc is)
  first_cycle first f differ (operator_allowed t i q) is before = absurd (cc is)
  first_cycle first f differ (constant_has_value t i q) is before = absurd (cc is)
  first_cycle first f differ (default_has_value t i q) is before = absurd (cc is)
  first_cycle first f differ (value_spelled t i q) is before = absurd (cc is)
  first_cycle first f differ (reference_known t i) is before = absurd (cc is)
  first_cycle first f differ (off_cycles t) is before = earlier_off first f differ t (below t (suc first) _ refl before)
  first_cycle first f differ (nests_little t) is before = absurd (cc is)
  first_cycle first f differ (sum_small t) is before = absurd (cc is)

  pub cycles_fault : (first : ℕ) (fault : LoadFault) → IsFirstOnCycle rows first → Passes ts 2 → length ts ≤ 65535 → fault ≡ record { cause = Cycle; template = first + 1; instruction = 0 } → IsFirstOf ts 5 fault
  cycles_fault first fault f differ few is =
      let inside : first < length rows = f.within in
      let len : length rows ≡ length ts = rows_len in
      let number : first + 1 ≡ min (suc first) 4294967295 = omega (arith, inside, len, few) in
      record {
        check = off_cycles (suc first);
        of_phase = refl;
        fails = leads_to first first f.on_cycle;
        first = first_cycle first f differ;
        answered = is ∙ ap (λ n. record { cause = Cycle; template = n; instruction = 0 }) number;
      }

  -- ---- the order of templates

  pub build_order_is : (order : List ℕ) → IsOrder rows order → Passes ts 4 → IsBuildOrder ts order
  build_order_is order o known = record {
    within = λ p a at. let k : a < length rows = o.within p a at in let len : length rows ≡ length ts = rows_len in omega (arith, k, len);
    complete = λ a inside. o.complete a (let len : length rows ≡ length ts = rows_len in omega (arith, inside, len));
    once = o.once;
    behind = λ p a w at_p at_a. each_of (IsBehind ts order p) w.members (λ j name ref. behind_so p a w at_p at_a j name ref);
  } where
    behind_so : (p a : ℕ) (w : WrittenTemplate) → slice_get order p ≡ Some a → slice_get ts a ≡ Some w → (j : ℕ) (name : List ℕ) → slice_get (references_in w.members) j ≡ Some name → IsBehind ts order p name
    behind_so p a w at_p at_a j name ref =
        let b = is_known ts known a w j name at_a ref in
        let k = by_place a w j name b.0 at_a ref b.1 in
        let q = o.behind p a k.0 b.0 at_p k.1 in
        (b.0, q.0, b.1, q.1, q.2)
