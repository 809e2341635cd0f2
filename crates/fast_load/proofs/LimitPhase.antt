-- The phase of limits, from the extents of flat lists; and that there are flat lists.
use Rattle.fast_load.proofs.Common.{◌≡◌, ◌≤◌, ◌<◌, ◌+◌, ℕ, zero, suc, List, [], ◌∷◌, length, get_or, take, min, nat_eq, nat_lt, if◌then◌else◌, option_map, Option, Some, None, Bool, true, false, ◌⊎◌, inl, inr, refl, sym, ap, subst, ◌∙◌, arith, slice_get, MatchOption, option_map_or, unsigned_Decides, pointwise, ltb-true, ltb-false, slice_get_within, slice_get-get_or, slice_get_cases, Extent, LoadFault, LoadCause, TooDeep, TooMany, WrittenTemplate, Instructions, depth_of, AreFlatLists, Check, few_templates, names_well_made, name_new, id_new, operator_allowed, constant_has_value, default_has_value, value_spelled, reference_known, off_cycles, nests_little, sum_small, size_up_to, Fails, Before, phase_of, Passes, IsFirstOf, place_named, IsBehind, IsBuildOrder, IsExtentOf, too_large}
use Rattle.fast_load.proofs.LinkOrder.{named_here}
use Rattle.fast_load.proofs.ExtentLaws.{each_so}
use Rattle.fast_load.proofs.NamePhase.{earlier_or_here}
use Rattle.fast_load.proofs.Solutions.{located, lists_in, solves, LeadDown, AreFound}

-- ---- there are flat lists

located_from : (ts : List WrittenTemplate) (k : ℕ) (name : List ℕ) (p : ℕ × WrittenTemplate) → located ts k name ≡ Some p → (b : ℕ) × (place_named ts name ≡ Some b) × (slice_get ts b ≡ Some p.1)
located_from [] k name p e = absurd (cc e)
located_from (t ∷ ts) k name p e = by (pointwise nat_eq t.name name) refl (located_from ts (k + 1) name p) where
  by : (c : Bool) → pointwise nat_eq t.name name ≡ c → (located ts (k + 1) name ≡ Some p → (b : ℕ) × (place_named ts name ≡ Some b) × (slice_get ts b ≡ Some p.1)) → (b : ℕ) × (place_named (t ∷ ts) name ≡ Some b) × (slice_get (t ∷ ts) b ≡ Some p.1)
  by true is further =
      let here : (k, t) ≡ p = cc (sym (ap (λ c. if c then Some (k, t) else located ts (k + 1) name) is) ∙ e) in
      (0, ap (λ c. if c then Some 0 else option_map suc (place_named ts name)) is, ap (λ q. Some q.1) here)
  by false is further =
      let r = further (sym (ap (λ c. if c then Some (k, t) else located ts (k + 1) name) is) ∙ e) in
      (suc r.0, ap (λ c. if c then Some 0 else option_map suc (place_named ts name)) is ∙ ap (option_map suc) r.1, r.2)

suc_of : (o : Option ℕ) (b : ℕ) → option_map suc o ≡ Some (suc b) → o ≡ Some b
suc_of None b e = absurd (cc e)
suc_of (Some c) b e = cc (e)

no_suc : (o : Option ℕ) → option_map suc o ≡ Some 0 → ⊥
no_suc None e = cc e
no_suc (Some c) e = cc e

located_to : (ts : List WrittenTemplate) (k : ℕ) (name : List ℕ) (b : ℕ) (w : WrittenTemplate) → place_named ts name ≡ Some b → slice_get ts b ≡ Some w → located ts k name ≡ Some (k + b, w)
located_to [] k name b w e at = absurd (cc at)
located_to (t ∷ ts) k name zero w e at = by (pointwise nat_eq t.name name) refl where
  by : (c : Bool) → pointwise nat_eq t.name name ≡ c → located (t ∷ ts) k name ≡ Some (k + zero, w)
  by true is =
      let same : t ≡ w = cc (at) in
      let none : k ≡ k + zero = omega arith in
      ap (λ c. if c then Some (k, t) else located ts (k + 1) name) is ∙ (λ i. Some (none i, same i))
  by false is = absurd (no_suc (place_named ts name) (sym (ap (λ c. if c then Some 0 else option_map suc (place_named ts name)) is) ∙ e))
located_to (t ∷ ts) k name (suc b) w e at = by (pointwise nat_eq t.name name) refl (λ placed. located_to ts (k + 1) name b w placed at) where
  by : (c : Bool) → pointwise nat_eq t.name name ≡ c → (place_named ts name ≡ Some b → located ts (k + 1) name ≡ Some (k + 1 + b, w)) → located (t ∷ ts) k name ≡ Some (k + suc b, w)
  by true is further = absurd (cc (sym (ap (λ c. if c then Some 0 else option_map suc (place_named ts name)) is) ∙ e))
  by false is further =
      let next : k + 1 + b ≡ k + suc b = omega arith in
      ap (λ c. if c then Some (k, t) else located ts (k + 1) name) is
      ∙ further (suc_of (place_named ts name) b (sym (ap (λ c. if c then Some 0 else option_map suc (place_named ts name)) is) ∙ e))
      ∙ ap (λ n. Some (n, w)) next

-- the first place of an element
abbrev first_at : List ℕ → ℕ → ℕ
first_at [] a = 0
first_at (x ∷ xs) a = if nat_eq x a then 0 else suc (first_at xs a)

eq_from : (x a : ℕ) → nat_eq x a ≡ true → x ≡ a
eq_from x a e = (unsigned_Decides x a).0 e

first_at_is : (xs : List ℕ) (p a : ℕ) → slice_get xs p ≡ Some a → (first_at xs a ≤ p) × (slice_get xs (first_at xs a) ≡ Some a)
first_at_is [] p a e = absurd (cc e)
first_at_is (x ∷ xs) p a e = by (nat_eq x a) refl (λ q at. first_at_is xs q a at) p e where
  by : (c : Bool) → nat_eq x a ≡ c → ((q : ℕ) → slice_get xs q ≡ Some a → (first_at xs a ≤ q) × (slice_get xs (first_at xs a) ≡ Some a)) → (q : ℕ) → slice_get (x ∷ xs) q ≡ Some a → (first_at (x ∷ xs) a ≤ q) × (slice_get (x ∷ xs) (first_at (x ∷ xs) a) ≡ Some a)
  by true is further q at =
      let zero_is : first_at (x ∷ xs) a ≡ 0 = ap (λ c. if c then 0 else suc (first_at xs a)) is in
      (omega (arith, zero_is), ap (slice_get (x ∷ xs)) zero_is ∙ ap Some (eq_from x a is))
  by false is further zero at =
      let same : x ≡ a = cc (at) in
      absurd (cc (sym is ∙ (unsigned_Decides x a).1 same))
  by false is further (suc q) at =
      let r = further q at in
      let suc_is : first_at (x ∷ xs) a ≡ suc (first_at xs a) = ap (λ c. if c then 0 else suc (first_at xs a)) is in
      let le : first_at xs a ≤ q = r.0 in
      (omega (arith, suc_is, le), ap (slice_get (x ∷ xs)) suc_is ∙ r.1)

module _ (ts : List WrittenTemplate) (order : List ℕ) (o : IsBuildOrder ts order) (differ : Passes ts 2) where
  abbrev rank : List ℕ → ℕ
  rank name = option_map_or (first_at order) (place_named ts name) 0

  rank_of : (name : List ℕ) (b : ℕ) → place_named ts name ≡ Some b → rank name ≡ first_at order b
  rank_of name b is = ap (λ p. option_map_or (first_at order) p 0) is

  lead_down : LeadDown ts rank
  lead_down name p is =
      let l = located_from ts 1 name p is in
      let inside : l.0 < length ts = slice_get_within ts l.0 p.1 l.2 in
      let some = o.complete l.0 inside in
      let first = first_at_is order some.0 l.0 some.1 in
      each_so (IsBehind ts order (first_at order l.0)) (λ other. rank other < rank name) (lower l.0 l.1) p.1.members (o.behind (first_at order l.0) l.0 p.1 first.1 l.2)
    where
      lower : (b : ℕ) → place_named ts name ≡ Some b → (other : List ℕ) → IsBehind ts order (first_at order b) other → rank other < rank name
      lower b placed other (d, q, placed_d, less, at_q) =
          let le = (first_at_is order q d at_q).0 in
          let mine = rank_of name b placed in
          let its = rank_of other d placed_d in
          omega (arith, le, less, mine, its)

  are_found : AreFound ts
  are_found i t at = located_to ts 1 t.name i t (named_here ts differ i t at) at ∙ ap (λ n. Some (n, t)) (let k : 1 + i ≡ i + 1 = omega arith in k)

  rank_below : (i : ℕ) (t : WrittenTemplate) → slice_get ts i ≡ Some t → rank t.name < length order + 1
  rank_below i t at =
      let some = o.complete i (slice_get_within ts i t at) in
      let first = first_at_is order some.0 i some.1 in
      let inside : first_at order i < length order = slice_get_within order (first_at order i) i first.1 in
      let mine = rank_of t.name i (named_here ts differ i t at) in
      omega (arith, inside, mine)

  pub there_are_lists : (stands : List ℕ → Instructions) × AreFlatLists ts stands
  there_are_lists = (lists_in ts (length order + 1), solves ts rank (length order + 1) are_found lead_down rank_below)

-- ---- extents of all templates

abbrev sum_of : List Extent → ℕ
sum_of [] = 0
sum_of (e ∷ es) = e.size + sum_of es

abbrev pub AreExtents : (List ℕ → Instructions) → List WrittenTemplate → List Extent → Type 0
AreExtents stands ws es = (a : ℕ) (w : WrittenTemplate) (e : Extent) → slice_get ws a ≡ Some w → slice_get es a ≡ Some e → IsExtentOf (stands w.name) e

-- where the first fault is
record Stops (es : List Extent) (t sum : ℕ) (fault : LoadFault) : Type 0 where
  pub place : ℕ
  pub extent : Extent
  pub at : slice_get es place ≡ Some extent
  pub shallow : (j : ℕ) (e : Extent) → j < place → slice_get es j ≡ Some e → e.depth ≤ 8
  pub few : sum + sum_of (take place es) ≤ 65535
  pub why : ((fault ≡ record { cause = TooDeep; template = t + place; instruction = 0 }) × (8 < extent.depth)) ⊎ ((fault ≡ record { cause = TooMany; template = t + place; instruction = 0 }) × (extent.depth ≤ 8) × (65535 < sum + sum_of (take (suc place) es)))

stops : (es : List Extent) (t sum : ℕ) (fault : LoadFault) → sum ≤ 65535 → too_large es t sum ≡ Some fault → Stops es t sum fault
stops [] t sum fault few e = absurd (cc e)
stops (x ∷ es) t sum fault few e = by_depth (nat_lt 8 x.depth) refl (λ few_more e_more. stops es (t + 1) (sum + x.size) fault few_more e_more) where
  rest : Option LoadFault
  rest = if nat_lt 65535 (sum + x.size) then Some (record { cause = TooMany; template = t; instruction = 0 }) else too_large es (t + 1) (sum + x.size)

  here : (cause : LoadCause) → fault ≡ record { cause = cause; template = t; instruction = 0 } → fault ≡ record { cause = cause; template = t + 0; instruction = 0 }
  here cause is = is ∙ ap (λ n. record { cause = cause; template = n; instruction = 0 }) (let k : t ≡ t + 0 = omega arith in k)

  further : x.depth ≤ 8 → Stops es (t + 1) (sum + x.size) fault → Stops (x ∷ es) t sum fault
  further flat r = record {
    place = suc r.place;
    extent = r.extent;
    at = r.at;
    shallow = λ j y less at_y. shallow_so j y less at_y;
    few = let k = r.few in omega (arith, k);
    why = elim r.why [
      | inl deep ↦ inl (deep.0 ∙ ap (λ n. record { cause = TooDeep; template = n; instruction = 0 }) next, deep.1)
      | inr many ↦ inr (many.0 ∙ ap (λ n. record { cause = TooMany; template = n; instruction = 0 }) next, many.1, (let k = many.2 in omega (arith, k)))
    ];
  } where
    next : t + 1 + r.place ≡ t + suc r.place
    next = omega arith

    shallow_so : (j : ℕ) (y : Extent) → j < suc r.place → slice_get (x ∷ es) j ≡ Some y → y.depth ≤ 8
    shallow_so zero y less at_y = let same : x ≡ y = cc (at_y) in subst (λ z. z.depth ≤ 8) same flat
    shallow_so (suc j) y less at_y = r.shallow j y (omega (arith, less)) at_y

  by_sum : x.depth ≤ 8 → (b : Bool) → nat_lt 65535 (sum + x.size) ≡ b → rest ≡ Some fault → (sum + x.size ≤ 65535 → too_large es (t + 1) (sum + x.size) ≡ Some fault → Stops es (t + 1) (sum + x.size) fault) → Stops (x ∷ es) t sum fault
  by_sum flat true is r onwards = record {
    place = 0;
    extent = x;
    at = refl;
    shallow = λ j y less at_y. absurd (omega (arith, less));
    few = omega (arith, few);
    why = inr (here TooMany (cc (sym r ∙ ap (λ c. if c then Some (record { cause = TooMany; template = t; instruction = 0 }) else too_large es (t + 1) (sum + x.size)) is)), flat, (let k : 65535 < sum + x.size = ltb-true 65535 (sum + x.size) is in omega (arith, k)));
  }
  by_sum flat false is r onwards = further flat (onwards (ltb-false 65535 (sum + x.size) is) (sym (ap (λ c. if c then Some (record { cause = TooMany; template = t; instruction = 0 }) else too_large es (t + 1) (sum + x.size)) is) ∙ r))

  by_depth : (b : Bool) → nat_lt 8 x.depth ≡ b → (sum + x.size ≤ 65535 → too_large es (t + 1) (sum + x.size) ≡ Some fault → Stops es (t + 1) (sum + x.size) fault) → Stops (x ∷ es) t sum fault
  by_depth true is onwards = record {
    place = 0;
    extent = x;
    at = refl;
    shallow = λ j y less at_y. absurd (omega (arith, less));
    few = omega (arith, few);
    why = inl (here TooDeep (cc (sym e ∙ ap (λ c. if c then Some (record { cause = TooDeep; template = t; instruction = 0 }) else rest) is)), ltb-true 8 x.depth is);
  }
  by_depth false is onwards = by_sum (ltb-false 8 x.depth is) (nat_lt 65535 (sum + x.size)) refl (sym (ap (λ c. if c then Some (record { cause = TooDeep; template = t; instruction = 0 }) else rest) is) ∙ e) onwards

-- no list is too large
record Fits (es : List Extent) (sum : ℕ) : Type 0 where
  pub shallow : (j : ℕ) (e : Extent) → slice_get es j ≡ Some e → e.depth ≤ 8
  pub few : (n : ℕ) → sum + sum_of (take n es) ≤ 65535

fits : (es : List Extent) (t sum : ℕ) → sum ≤ 65535 → too_large es t sum ≡ None → Fits es sum
fits [] t sum few e = record { shallow = λ j y at. absurd (cc at); few = λ n. none n } where
  none : (n : ℕ) → sum + sum_of (take n []) ≤ 65535
  none zero = omega (arith, few)
  none (suc n) = omega (arith, few)
fits (x ∷ es) t sum few e = by_depth (nat_lt 8 x.depth) refl (λ few_more e_more. fits es (t + 1) (sum + x.size) few_more e_more) where
  rest : Option LoadFault
  rest = if nat_lt 65535 (sum + x.size) then Some (record { cause = TooMany; template = t; instruction = 0 }) else too_large es (t + 1) (sum + x.size)

  further : x.depth ≤ 8 → Fits es (sum + x.size) → Fits (x ∷ es) sum
  further flat r = record { shallow = shallow_so; few = few_so } where
    shallow_so : (j : ℕ) (y : Extent) → slice_get (x ∷ es) j ≡ Some y → y.depth ≤ 8
    shallow_so zero y at_y = let same : x ≡ y = cc (at_y) in subst (λ z. z.depth ≤ 8) same flat
    shallow_so (suc j) y at_y = r.shallow j y at_y

    few_so : (n : ℕ) → sum + sum_of (take n (x ∷ es)) ≤ 65535
    few_so zero = omega (arith, few)
    few_so (suc n) = let k = r.few n in omega (arith, k)

  by_sum : x.depth ≤ 8 → (b : Bool) → nat_lt 65535 (sum + x.size) ≡ b → rest ≡ None → (sum + x.size ≤ 65535 → too_large es (t + 1) (sum + x.size) ≡ None → Fits es (sum + x.size)) → Fits (x ∷ es) sum
  by_sum flat true is r onwards = absurd (cc (sym r ∙ ap (λ c. if c then Some (record { cause = TooMany; template = t; instruction = 0 }) else too_large es (t + 1) (sum + x.size)) is))
  by_sum flat false is r onwards = further flat (onwards (ltb-false 65535 (sum + x.size) is) (sym (ap (λ c. if c then Some (record { cause = TooMany; template = t; instruction = 0 }) else too_large es (t + 1) (sum + x.size)) is) ∙ r))

  by_depth : (b : Bool) → nat_lt 8 x.depth ≡ b → (sum + x.size ≤ 65535 → too_large es (t + 1) (sum + x.size) ≡ None → Fits es (sum + x.size)) → Fits (x ∷ es) sum
  by_depth true is onwards = absurd (cc (sym e ∙ ap (λ c. if c then Some (record { cause = TooDeep; template = t; instruction = 0 }) else rest) is))
  by_depth false is onwards = by_sum (ltb-false 8 x.depth is) (nat_lt 65535 (sum + x.size)) refl (sym (ap (λ c. if c then Some (record { cause = TooDeep; template = t; instruction = 0 }) else rest) is) ∙ e) onwards

-- ---- sizes

sums_grow : (es : List Extent) (m n : ℕ) → m ≤ n → sum_of (take m es) ≤ sum_of (take n es)
sums_grow [] zero zero le = omega arith
sums_grow [] zero (suc n) le = omega arith
sums_grow [] (suc m) zero le = absurd (omega (arith, le))
sums_grow [] (suc m) (suc n) le = omega arith
sums_grow (e ∷ es) zero n le = omega arith
sums_grow (e ∷ es) (suc m) zero le = absurd (omega (arith, le))
sums_grow (e ∷ es) (suc m) (suc n) le = let k = sums_grow es m n (omega (arith, le)) in omega (arith, k)

sizes_exact : (stands : List ℕ → Instructions) (ws : List WrittenTemplate) (es : List Extent) (n : ℕ) → length ws ≡ length es → AreExtents stands ws es → sum_of (take n es) ≤ 65535 → size_up_to stands (take n ws) ≡ sum_of (take n es)
sizes_exact stands [] [] zero len h few = refl
sizes_exact stands [] [] (suc n) len h few = refl
sizes_exact stands [] (e ∷ es) n len h few = absurd (omega (arith, len))
sizes_exact stands (w ∷ ws) [] n len h few = absurd (omega (arith, len))
sizes_exact stands (w ∷ ws) (e ∷ es) zero len h few = refl
sizes_exact stands (w ∷ ws) (e ∷ es) (suc n) len h few =
    let k = sizes_exact stands ws es n (omega (arith, len)) (λ a v x at_v at_x. h (suc a) v x at_v at_x) (omega (arith, few)) in
    let m = (h 0 w e refl refl).0 in
    omega (arith, k, m, few)

sizes_at_least : (stands : List ℕ → Instructions) (ws : List WrittenTemplate) (es : List Extent) (n : ℕ) → length ws ≡ length es → AreExtents stands ws es → sum_of (take n es) ≤ size_up_to stands (take n ws)
sizes_at_least stands [] [] zero len h = omega arith
sizes_at_least stands [] [] (suc n) len h = omega arith
sizes_at_least stands [] (e ∷ es) n len h = absurd (omega (arith, len))
sizes_at_least stands (w ∷ ws) [] n len h = absurd (omega (arith, len))
sizes_at_least stands (w ∷ ws) (e ∷ es) zero len h = omega arith
sizes_at_least stands (w ∷ ws) (e ∷ es) (suc n) len h =
    let k = sizes_at_least stands ws es n (omega (arith, len)) (λ a v x at_v at_x. h (suc a) v x at_v at_x) in
    let m = (h 0 w e refl refl).0 in
    omega (arith, k, m)

-- ---- the phase

module _ (ts : List WrittenTemplate) (es : List Extent) (len : length es ≡ length ts) (extents : (stands : List ℕ → Instructions) → AreFlatLists ts stands → AreExtents stands ts es) where
  extent_there : (a : ℕ) (w : WrittenTemplate) → slice_get ts a ≡ Some w → (e : Extent) × (slice_get es a ≡ Some e)
  extent_there a w at = (_, slice_get-get_or es a (record { size = 0; depth = 0 }) (let k : a < length ts = slice_get_within ts a w at in omega (arith, k, len)))

  template_there : (a : ℕ) (e : Extent) → slice_get es a ≡ Some e → a < length ts
  template_there a e at = let k : a < length es = slice_get_within es a e at in omega (arith, k, len)

  shallow_so : (a : ℕ) (w : WrittenTemplate) (stands : List ℕ → Instructions) → AreFlatLists ts stands → ((e : Extent) → slice_get es a ≡ Some e → e.depth ≤ 8) → slice_get ts a ≡ Some w → 8 < depth_of (stands w.name) → ⊥
  shallow_so a w stands flat least at deep =
      let e = extent_there a w at in
      let is = (extents stands flat a w e.0 at e.1).1 in
      let le : e.0.depth ≤ 8 = least e.0 e.1 in
      absurd (omega (arith, is, le, deep))

  few_so : (n : ℕ) (stands : List ℕ → Instructions) → AreFlatLists ts stands → sum_of (take n es) ≤ 65535 → 65535 < size_up_to stands (take n ts) → ⊥
  few_so n stands flat few many =
      let k = sizes_exact stands ts es n (sym len) (extents stands flat) few in
      absurd (omega (arith, k, few, many))

  no_depth : (t : ℕ) → ((a : ℕ) (e : Extent) → t ≡ suc a → slice_get es a ≡ Some e → e.depth ≤ 8) → ¬ (Fails ts (nests_little t))
  no_depth zero least (stands, w, flat, at, deep) = absurd (cc at)
  no_depth (suc a) least (stands, w, flat, at, deep) = shallow_so a w stands flat (λ e at_e. least a e refl at_e) at deep

  no_sum : (t : ℕ) → sum_of (take t es) ≤ 65535 → ¬ (Fails ts (sum_small t))
  no_sum t few (stands, w, flat, at, many) = few_so t stands flat few many

  pub limits_pass : too_large es 1 0 ≡ None → Passes ts 6
  limits_pass none few_templates is = absurd (cc is)
  limits_pass none (names_well_made t i) is = absurd (cc is)
  limits_pass none (name_new t) is = absurd (cc is)
  limits_pass none (id_new t) is = absurd (cc is)
  limits_pass none (operator_allowed t i q) is = absurd (cc is)
  limits_pass none (constant_has_value t i q) is = absurd (cc is)
  limits_pass none (default_has_value t i q) is = absurd (cc is)
  limits_pass none (value_spelled t i q) is = absurd (cc is)
  limits_pass none (reference_known t i) is = absurd (cc is)
  limits_pass none (off_cycles t) is = absurd (cc is)
  limits_pass none (nests_little t) is = no_depth t (λ a e same at. (fits es 1 0 (omega arith) none).shallow a e at)
  limits_pass none (sum_small t) is = no_sum t (let k = (fits es 1 0 (omega arith) none).few t in omega (arith, k))

  module _ (fault : LoadFault) (st : Stops es 1 0 fault) where
    no_depth_before : (t : ℕ) → t < suc st.place → ¬ (Fails ts (nests_little t))
    no_depth_before t less = no_depth t (λ a e same at. st.shallow a e (omega (arith, less, same)) at)

    no_sum_before : (t : ℕ) → t < suc st.place → ¬ (Fails ts (sum_small t))
    no_sum_before t less = no_sum t (let k = st.few in let m = sums_grow es t st.place (omega (arith, less)) in omega (arith, k, m))

    first_deep : (other : Check) → phase_of other ≡ 6 → Before other (nests_little (suc st.place)) → ¬ (Fails ts other)
    first_deep few_templates is before = absurd (cc is)
    first_deep (names_well_made t i) is before = absurd (cc is)
    first_deep (name_new t) is before = absurd (cc is)
    first_deep (id_new t) is before = absurd (cc is)
    first_deep (operator_allowed t i q) is before = absurd (cc is)
    first_deep (constant_has_value t i q) is before = absurd (cc is)
    first_deep (default_has_value t i q) is before = absurd (cc is)
    first_deep (value_spelled t i q) is before = absurd (cc is)
    first_deep (reference_known t i) is before = absurd (cc is)
    first_deep (off_cycles t) is before = absurd (cc is)
    first_deep (nests_little t) is before = elim (earlier_or_here t 0 (suc st.place) 0 _ refl before) [ inl less ↦ no_depth_before t less | inr same ↦ absurd (omega (arith, same.1)) ]
    first_deep (sum_small t) is before = elim (earlier_or_here t 1 (suc st.place) 0 _ refl before) [ inl less ↦ no_sum_before t less | inr same ↦ absurd (omega (arith, same.1)) ]

    first_many : st.extent.depth ≤ 8 → (other : Check) → phase_of other ≡ 6 → Before other (sum_small (suc st.place)) → ¬ (Fails ts other)
    first_many flat few_templates is before = absurd (cc is)
    first_many flat (names_well_made t i) is before = absurd (cc is)
    first_many flat (name_new t) is before = absurd (cc is)
    first_many flat (id_new t) is before = absurd (cc is)
    first_many flat (operator_allowed t i q) is before = absurd (cc is)
    first_many flat (constant_has_value t i q) is before = absurd (cc is)
    first_many flat (default_has_value t i q) is before = absurd (cc is)
    first_many flat (value_spelled t i q) is before = absurd (cc is)
    first_many flat (reference_known t i) is before = absurd (cc is)
    first_many flat (off_cycles t) is before = absurd (cc is)
    first_many flat (nests_little t) is before = elim (earlier_or_here t 0 (suc st.place) 1 _ refl before) [ inl less ↦ no_depth_before t less | inr same ↦ no_depth t (λ a e at_t at. let here : a ≡ st.place = cc (sym at_t ∙ same.0) in let one : e ≡ st.extent = cc (sym at ∙ ap (slice_get es) here ∙ st.at) in subst (λ x. x.depth ≤ 8) (sym one) flat) ]
    first_many flat (sum_small t) is before = elim (earlier_or_here t 1 (suc st.place) 1 _ refl before) [ inl less ↦ no_sum_before t less | inr same ↦ absurd (omega (arith, same.1)) ]

    number : length ts ≤ 65535 → 1 + st.place ≡ min (suc st.place) 4294967295
    number few = let k : st.place < length ts = template_there st.place st.extent st.at in omega (arith, k, few)

    here : (stands : List ℕ → Instructions) → AreFlatLists ts stands → (w : WrittenTemplate) × (slice_get ts st.place ≡ Some w)
    here stands flat = by (slice_get ts st.place) refl where
      by : (o : Option WrittenTemplate) → slice_get ts st.place ≡ o → (w : WrittenTemplate) × (slice_get ts st.place ≡ Some w)
      by (Some w) is = (w, is)
      by None is = absurd (past (slice_get_cases ts st.place).1) where
        past : ((w : WrittenTemplate) × (st.place < length ts) × (slice_get ts st.place ≡ Some w) × (get_or ts st.place w ≡ w)) ⊎ ((length ts ≤ st.place) × (slice_get ts st.place ≡ None)) → ⊥
        past (inl r) = cc (sym is ∙ r.2)
        past (inr r) = let k : st.place < length ts = template_there st.place st.extent st.at in let le : length ts ≤ st.place = r.0 in absurd (omega (arith, k, le))

    first_limit : length ts ≤ 65535 → (stands : List ℕ → Instructions) → AreFlatLists ts stands → ((fault ≡ record { cause = TooDeep; template = 1 + st.place; instruction = 0 }) × (8 < st.extent.depth)) ⊎ ((fault ≡ record { cause = TooMany; template = 1 + st.place; instruction = 0 }) × (st.extent.depth ≤ 8) × (65535 < 0 + sum_of (take (suc st.place) es))) → IsFirstOf ts 6 fault
    first_limit few stands flat (inl (is, deep)) =
        let w = here stands flat in
        let depth = (extents stands flat st.place w.0 st.extent w.1 st.at).1 in
        record {
          check = nests_little (suc st.place);
          of_phase = refl;
          fails = (stands, w.0, flat, w.1, omega (arith, depth, deep));
          first = first_deep;
          answered = is ∙ ap (λ n. record { cause = TooDeep; template = n; instruction = 0 }) (number few);
        }
    first_limit few stands flat (inr (is, flat_one, many)) =
        let w = here stands flat in
        let size = sizes_at_least stands ts es (suc st.place) (sym len) (extents stands flat) in
        record {
          check = sum_small (suc st.place);
          of_phase = refl;
          fails = (stands, w.0, flat, w.1, omega (arith, size, many));
          first = first_many flat_one;
          answered = is ∙ ap (λ n. record { cause = TooMany; template = n; instruction = 0 }) (number few);
        }

  pub limits_fault : (fault : LoadFault) → length ts ≤ 65535 → ((stands : List ℕ → Instructions) × AreFlatLists ts stands) → too_large es 1 0 ≡ Some fault → IsFirstOf ts 6 fault
  limits_fault fault few lists e = let st = stops es 1 0 fault (omega arith) e in first_limit fault st few lists.0 lists.1 st.why

-- what the code answers
pub limit_is : (ts : List WrittenTemplate) (es : List Extent) → length es ≡ length ts → ((stands : List ℕ → Instructions) → AreFlatLists ts stands → AreExtents stands ts es) → length ts ≤ 65535 → ((stands : List ℕ → Instructions) × AreFlatLists ts stands) → (o : Option LoadFault) → o ≡ too_large es 1 0 → MatchOption o (Passes ts 6) (λ fault. IsFirstOf ts 6 fault)
limit_is ts es len extents few lists None is = limits_pass ts es len extents (sym is)
limit_is ts es len extents few lists (Some fault) is = limits_fault ts es len extents fault few lists (sym is)
