-- The phase of duplicates, from the first template that repeats something.
use Rattle.std.proofs.Common.{◌≡◌, ◌≤◌, ◌<◌, ◌+◌, ℕ, zero, suc, List, [], ◌∷◌, ◌++◌, length, take, min, if◌then◌else◌, nat_eq, Option, Some, None, option_map, is_some, Bool, true, false, ◌⊎◌, inl, inr, refl, sym, ap, subst, ◌∙◌, append-nil, append_assoc, lit≤, arith, true≢false}
use Rattle.fast_load.proofs.Common.{slice_get, IsSome, option_map_or, nat_cmp, ordering_then, ranked, unsigned_Decides, Ordering, Less, Equal, Greater, pointwise, slice_cmp, same_text, nat_list_eq_equiv, LoadCause, DuplicateName, DuplicateId, LoadFault, WrittenTemplate, has_id, Check, few_templates, names_well_made, name_new, id_new, operator_allowed, constant_has_value, default_has_value, value_spelled, reference_known, off_cycles, nests_little, sum_small, Fails, Before, after_template, place_where, place_named, place_of_id, repeats_id, duplicate_of, first_duplicate, phase_of, Passes, IsFirstOf}

same_some : {A : Type 0} (x y : A) → Some x ≡ Some y → x ≡ y
same_some x y e = ap (λ o. option_map_or (λ v. v) o x) e

none_some : {A : Type 0} (x : A) → None ≡ Some x → ⊥
none_some x e = cc e

-- ---- what a place is, and where there is none

found_by : (b : Bool) (o : Option ℕ) (j : ℕ) → (if b then Some 0 else option_map suc o) ≡ Some j → ((b ≡ true) × (j ≡ 0)) ⊎ ((m : ℕ) × (o ≡ Some m) × (j ≡ suc m))
found_by true o j e = inl (refl, sym (same_some 0 j e))
found_by false None j e = absurd (cc e)
found_by false (Some m) j e = inr (m, refl, sym (same_some (suc m) j e))

unfoldable pub Found : (WrittenTemplate → Bool) → List WrittenTemplate → ℕ → Type 0
Found test ts j = (v : WrittenTemplate) × (slice_get ts j ≡ Some v) × (test v ≡ true)

found_at : (test : WrittenTemplate → Bool) (t : WrittenTemplate) (ts : List WrittenTemplate) (j : ℕ) → ((test t ≡ true) × (j ≡ 0)) ⊎ ((m : ℕ) × (place_where test ts ≡ Some m) × (j ≡ suc m)) → ((m : ℕ) → place_where test ts ≡ Some m → Found test ts m) → Found test (t ∷ ts) j
unfolding Found
found_at test t ts j (inl here) go = (t, ap (slice_get (t ∷ ts)) here.1, here.0)
found_at test t ts j (inr later) go = let f = go later.0 later.1 in (f.0, ap (slice_get (t ∷ ts)) later.2 ∙ f.1, f.2)

pub found : (test : WrittenTemplate → Bool) (ts : List WrittenTemplate) (j : ℕ) → place_where test ts ≡ Some j → Found test ts j
found test [] j e = absurd (cc e)
found test (t ∷ ts) j e = found_at test t ts j (found_by (test t) (place_where test ts) j e) (found test ts)

-- a template that passes the test has a place, or one before it has
placed_by : (b : Bool) (o : Option ℕ) → (b ≡ true) ⊎ ((m : ℕ) × (o ≡ Some m)) → (m : ℕ) × ((if b then Some 0 else option_map suc o) ≡ Some m)
placed_by true o some = (0, refl)
placed_by false o (inl e) = absurd (true≢false (sym e))
placed_by false o (inr some) = (suc some.0, ap (option_map suc) some.1)

pub placed : (test : WrittenTemplate → Bool) (ts : List WrittenTemplate) (j : ℕ) (v : WrittenTemplate) → slice_get ts j ≡ Some v → test v ≡ true → (m : ℕ) × (place_where test ts ≡ Some m)
placed test [] j v there e = absurd (cc there)
placed test (t ∷ ts) zero v there e = placed_by (test t) (place_where test ts) (inl (ap test (same_some t v there) ∙ e))
placed test (t ∷ ts) (suc j) v there e = placed_by (test t) (place_where test ts) (inr (placed test ts j v there e))

-- the first templates of a list
in_take : (ts : List WrittenTemplate) (k j : ℕ) (v : WrittenTemplate) → slice_get (take k ts) j ≡ Some v → (slice_get ts j ≡ Some v) × (j < k)
in_take ts zero j v there = absurd (cc there)
in_take [] (suc k) j v there = absurd (cc there)
in_take (t ∷ ts) (suc k) zero v there = (there, omega arith)
in_take (t ∷ ts) (suc k) (suc j) v there = let rest = in_take ts k j v there in (rest.0, omega (arith, rest.1))

from_take : (ts : List WrittenTemplate) (k j : ℕ) (v : WrittenTemplate) → slice_get ts j ≡ Some v → j < k → slice_get (take k ts) j ≡ Some v
from_take ts zero j v there less = absurd (omega (arith, less))
from_take [] (suc k) j v there less = absurd (cc there)
from_take (t ∷ ts) (suc k) zero v there less = there
from_take (t ∷ ts) (suc k) (suc j) v there less = from_take ts k j v there (omega (arith, less))

-- ---- the first that repeats

record FirstRepeat (before ws : List WrittenTemplate) (t : ℕ) (fault : LoadFault) : Type 0 where
  place : ℕ
  one : WrittenTemplate
  there : slice_get ws place ≡ Some one
  cause : LoadCause
  repeats : duplicate_of (before ++ take place ws) one ≡ Some cause
  earlier : (q : ℕ) (v : WrittenTemplate) → q < place → slice_get ws q ≡ Some v → duplicate_of (before ++ take q ws) v ≡ None
  answered : fault ≡ record { cause = cause; template = t + place; instruction = 0 }

earlier_one : (before : List WrittenTemplate) (w : WrittenTemplate) (ws : List WrittenTemplate) (n : ℕ) → duplicate_of before w ≡ None
    → ((q : ℕ) (v : WrittenTemplate) → q < n → slice_get ws q ≡ Some v → duplicate_of ((before ++ w ∷ []) ++ take q ws) v ≡ None)
    → (q : ℕ) (v : WrittenTemplate) → q < suc n → slice_get (w ∷ ws) q ≡ Some v → duplicate_of (before ++ take q (w ∷ ws)) v ≡ None
earlier_one before w ws n is others zero v less there = ap (λ l. duplicate_of l v) (append-nil before) ∙ ap (duplicate_of before) (sym (same_some w v there)) ∙ is
earlier_one before w ws n is others (suc q) v less there = ap (λ l. duplicate_of l v) (sym (append_assoc before (w ∷ []) (take q ws))) ∙ others q v (omega (arith, less)) there

repeat_after : (before : List WrittenTemplate) (w : WrittenTemplate) (ws : List WrittenTemplate) (t : ℕ) (fault : LoadFault) (o : Option LoadCause) → duplicate_of before w ≡ o
    → after_template o t (first_duplicate (before ++ w ∷ []) ws (t + 1)) ≡ Some fault
    → (first_duplicate (before ++ w ∷ []) ws (t + 1) ≡ Some fault → FirstRepeat (before ++ w ∷ []) ws (t + 1) fault) → FirstRepeat before (w ∷ ws) t fault
repeat_after before w ws t fault (Some c) is e go =
    let zeros : t ≡ t + 0 = omega arith in
    record {
      place = 0;
      one = w;
      there = refl;
      cause = c;
      repeats = ap (λ l. duplicate_of l w) (append-nil before) ∙ is;
      earlier = λ q v less there. absurd (omega (arith, less));
      answered = sym (same_some _ fault e) ∙ (λ i. record { cause = c; template = zeros i; instruction = 0 });
    }
repeat_after before w ws t fault None is e go =
    let later : FirstRepeat (before ++ w ∷ []) ws (t + 1) fault = go e in
    let places : (t + 1) + later.place ≡ t + suc later.place = omega arith in
    record {
      place = suc later.place;
      one = later.one;
      there = later.there;
      cause = later.cause;
      repeats = ap (λ l. duplicate_of l later.one) (sym (append_assoc before (w ∷ []) (take later.place ws))) ∙ later.repeats;
      earlier = earlier_one before w ws later.place is later.earlier;
      answered = later.answered ∙ (λ i. record { cause = later.cause; template = places i; instruction = 0 });
    }

first_repeat : (before ws : List WrittenTemplate) (t : ℕ) (fault : LoadFault) → first_duplicate before ws t ≡ Some fault → FirstRepeat before ws t fault
first_repeat before [] t fault e = absurd (cc e)
first_repeat before (w ∷ ws) t fault e = repeat_after before w ws t fault (duplicate_of before w) refl e (first_repeat (before ++ w ∷ []) ws (t + 1) fault)

none_after : (before : List WrittenTemplate) (w : WrittenTemplate) (ws : List WrittenTemplate) (t : ℕ) (o : Option LoadCause) → duplicate_of before w ≡ o
    → after_template o t (first_duplicate (before ++ w ∷ []) ws (t + 1)) ≡ None
    → (first_duplicate (before ++ w ∷ []) ws (t + 1) ≡ None → (q : ℕ) (v : WrittenTemplate) → slice_get ws q ≡ Some v → duplicate_of ((before ++ w ∷ []) ++ take q ws) v ≡ None)
    → (q : ℕ) (v : WrittenTemplate) → slice_get (w ∷ ws) q ≡ Some v → duplicate_of (before ++ take q (w ∷ ws)) v ≡ None
none_after before w ws t (Some c) is e go q v there = absurd (none_some _ (sym e))
none_after before w ws t None is e go zero v there = ap (λ l. duplicate_of l v) (append-nil before) ∙ ap (duplicate_of before) (sym (same_some w v there)) ∙ is
none_after before w ws t None is e go (suc q) v there = ap (λ l. duplicate_of l v) (sym (append_assoc before (w ∷ []) (take q ws))) ∙ go e q v there

no_repeat : (before ws : List WrittenTemplate) (t : ℕ) → first_duplicate before ws t ≡ None → (q : ℕ) (v : WrittenTemplate) → slice_get ws q ≡ Some v → duplicate_of (before ++ take q ws) v ≡ None
no_repeat before [] t e = λ q v there. absurd (cc there)
no_repeat before (w ∷ ws) t e = none_after before w ws t (duplicate_of before w) refl e (no_repeat (before ++ w ∷ []) ws (t + 1))

-- ---- checks

-- a check of the phase that fails, of a template that then repeats something
name_repeats : (ts : List WrittenTemplate) (t : ℕ) → Fails ts (name_new t) → (k : ℕ) × (w : WrittenTemplate) × (t ≡ suc k) × (slice_get ts k ≡ Some w) × (duplicate_of (take k ts) w ≡ Some DuplicateName)
name_repeats ts zero (u, v, w, less, at_u, at_t, names) = absurd (cc at_t)
name_repeats ts (suc k) (zero, v, w, less, at_u, at_t, names) = absurd (cc at_u)
name_repeats ts (suc k) (suc j, v, w, less, at_u, at_t, names) =
    let there : slice_get (take k ts) j ≡ Some v = from_take ts k j v at_u (omega (arith, less)) in
    let found_name = placed (λ x. pointwise nat_eq x.name w.name) (take k ts) j v there (ap (pointwise nat_eq v.name) (sym names) ∙ nat_list_eq_equiv.refl v.name) in
    (k, w, refl, at_t, ap (λ o. if is_some o then Some DuplicateName else if repeats_id (take k ts) w.id then Some DuplicateId else None) found_name.1)

repeats_by : (b : Bool) (r : Bool) → r ≡ true → (c : LoadCause) × ((if b then Some DuplicateName else if r then Some DuplicateId else None) ≡ Some c)
repeats_by true r e = (DuplicateName, refl)
repeats_by false r e = (DuplicateId, ap (λ x. if x then Some DuplicateId else None) e)

id_at : (ts : List WrittenTemplate) (k : ℕ) (o : Option ℕ) (j : ℕ) (v : WrittenTemplate) → slice_get (take k ts) j ≡ Some v → v.id ≡ o → IsSome o → repeats_id (take k ts) o ≡ true
id_at ts k None j v there same some = absurd (cc some)
id_at ts k (Some id) j v there same some = ap is_some (placed (λ x. has_id id x.id) (take k ts) j v there (ap (has_id id) same ∙ (unsigned_Decides id id).1 refl)).1

id_repeats : (ts : List WrittenTemplate) (t : ℕ) → Fails ts (id_new t) → (k : ℕ) × (w : WrittenTemplate) × (c : LoadCause) × (t ≡ suc k) × (slice_get ts k ≡ Some w) × (duplicate_of (take k ts) w ≡ Some c)
id_repeats ts zero (u, v, w, less, at_u, at_t, ids, some) = absurd (cc at_t)
id_repeats ts (suc k) (zero, v, w, less, at_u, at_t, ids, some) = absurd (cc at_u)
id_repeats ts (suc k) (suc j, v, w, less, at_u, at_t, ids, some) =
    let there : slice_get (take k ts) j ≡ Some v = from_take ts k j v at_u (omega (arith, less)) in
    let caused = repeats_by (is_some (place_named (take k ts) w.name)) (repeats_id (take k ts) w.id) (id_at ts k w.id j v there ids some) in
    (k, w, caused.0, refl, at_t, caused.1)

-- what a template repeats is a check that fails
name_check : (ts : List WrittenTemplate) (k j : ℕ) (w : WrittenTemplate) → slice_get ts k ≡ Some w → place_named (take k ts) w.name ≡ Some j → Fails ts (name_new (suc k))
unfolding Found
name_check ts k j w at is =
    let f = found (λ x. pointwise nat_eq x.name w.name) (take k ts) j is in
    let there = in_take ts k j f.0 f.1 in
    (suc j, f.0, w, omega (arith, there.1), there.0, at, same_text f.0.name w.name (sym f.2))

own_id : (id : ℕ) (o : Option ℕ) → has_id id o ≡ true → o ≡ Some id
own_id id None e = absurd (cc e)
own_id id (Some own) e = ap Some ((unsigned_Decides own id).0 e)

id_check : (ts : List WrittenTemplate) (k j id : ℕ) (w : WrittenTemplate) → slice_get ts k ≡ Some w → w.id ≡ Some id → place_of_id (take k ts) id ≡ Some j → Fails ts (id_new (suc k))
unfolding Found
id_check ts k j id w at own is =
    let f = found (λ x. has_id id x.id) (take k ts) j is in
    let there = in_take ts k j f.0 f.1 in
    (suc j, f.0, w, omega (arith, there.1), there.0, at, own_id id f.0.id f.2 ∙ sym own, subst IsSome (sym own) refl)

Repeats : List WrittenTemplate → ℕ → LoadCause → Type 0
Repeats ts k c = ((DuplicateName ≡ c) × Fails ts (name_new (suc k))) ⊎ ((DuplicateId ≡ c) × Fails ts (id_new (suc k)))

by_id : (ts : List WrittenTemplate) (k id : ℕ) (w : WrittenTemplate) (c : LoadCause) (o : Option ℕ) → slice_get ts k ≡ Some w → w.id ≡ Some id → place_of_id (take k ts) id ≡ o → (if is_some o then Some DuplicateId else None) ≡ Some c → Repeats ts k c
unfolding Repeats
by_id ts k id w c None at own is e = absurd (cc e)
by_id ts k id w c (Some j) at own is e = inr (same_some DuplicateId c e, id_check ts k j id w at own is)

by_own : (ts : List WrittenTemplate) (k : ℕ) (w : WrittenTemplate) (c : LoadCause) (o : Option ℕ) → slice_get ts k ≡ Some w → w.id ≡ o → (if repeats_id (take k ts) o then Some DuplicateId else None) ≡ Some c → Repeats ts k c
by_own ts k w c None at own e = absurd (cc e)
by_own ts k w c (Some id) at own e = by_id ts k id w c (place_of_id (take k ts) id) at own refl e

by_name : (ts : List WrittenTemplate) (k : ℕ) (w : WrittenTemplate) (c : LoadCause) (o : Option ℕ) → slice_get ts k ≡ Some w → place_named (take k ts) w.name ≡ o → (if is_some o then Some DuplicateName else if repeats_id (take k ts) w.id then Some DuplicateId else None) ≡ Some c → Repeats ts k c
unfolding Repeats
by_name ts k w c None at is e = by_own ts k w c w.id at refl e
by_name ts k w c (Some j) at is e = inl (same_some DuplicateName c e, name_check ts k j w at is)

-- ---- the order of the phase

lex_by : (a b c d : ℕ) (o : Ordering) → nat_cmp a c ≡ o → ordering_then o (ordering_then (nat_cmp b d) Equal) ≡ Less → (a < c) ⊎ ((a ≡ c) × (b < d))
lex_by a b c d Less is e = inl (ranked a c Less (sym is))
lex_by a b c d Equal is e = inr (ranked a c Equal (sym is), ranked b d Less (sym (then_less (nat_cmp b d) e))) where
  then_less : (o : Ordering) → ordering_then o Equal ≡ Less → o ≡ Less
  then_less Less f = refl
  then_less Equal f = f
  then_less Greater f = f
lex_by a b c d Greater is e = absurd (cc e)

turn_lex : (a b c d : ℕ) → slice_cmp nat_cmp (2 ∷ a ∷ b ∷ []) (2 ∷ c ∷ d ∷ []) ≡ Less → (a < c) ⊎ ((a ≡ c) × (b < d))
turn_lex a b c d e = lex_by a b c d (nat_cmp a c) refl e

within_list : (ts : List WrittenTemplate) (p : ℕ) (w : WrittenTemplate) → slice_get ts p ≡ Some w → p < length ts
within_list [] p w e = absurd (cc e)
within_list (t ∷ ts) zero w e = omega arith
within_list (t ∷ ts) (suc p) w e = let less : p < length ts = within_list ts p w e in omega (arith, less)

module _ (ts : List WrittenTemplate) (fault : LoadFault) (f : FirstRepeat [] ts 1 fault) where
  sooner : (t k : ℕ) (w : WrittenTemplate) (c : LoadCause) → t ≡ suc k → slice_get ts k ≡ Some w → duplicate_of (take k ts) w ≡ Some c → t < suc f.place → ⊥
  sooner t k w c is at repeats less = none_some c (sym (f.earlier k w (omega (arith, is, less)) at) ∙ repeats)

  no_name_before : (t r : ℕ) → Fails ts (name_new t) → (t < suc f.place) ⊎ ((t ≡ suc f.place) × (0 < r)) → (0 < r → DuplicateId ≡ f.cause) → ⊥
  no_name_before t r fails (inl less) causes = let n = name_repeats ts t fails in sooner t n.0 n.1 DuplicateName n.2 n.3 n.4 less
  no_name_before t r fails (inr both) causes =
      let n = name_repeats ts t fails in
      let places : n.0 ≡ f.place = omega (arith, n.2, both.0) in
      let ones : n.1 ≡ f.one = same_some n.1 f.one (sym n.3 ∙ ap (slice_get ts) places ∙ f.there) in
      let causes_are : DuplicateName ≡ f.cause = same_some DuplicateName f.cause (sym n.4 ∙ (λ i. duplicate_of (take (places i) ts) (ones i)) ∙ f.repeats) in
      absurd (cc (causes_are ∙ sym (causes both.1)))

  no_id_before : (t r : ℕ) → Fails ts (id_new t) → (t < suc f.place) ⊎ ((t ≡ suc f.place) × (1 < r)) → r ≤ 1 → ⊥
  no_id_before t r fails (inl less) low = let n = id_repeats ts t fails in sooner t n.0 n.1 n.2 n.3 n.4 n.5 less
  no_id_before t r fails (inr both) low = let past : 1 < r = both.1 in absurd (omega (arith, past, low))

  first_by_name : (other : Check) → phase_of other ≡ 2 → Before other (name_new (suc f.place)) → ¬ (Fails ts other)
  first_by_name few_templates is before = absurd (cc is)
  first_by_name (names_well_made t i) is before = absurd (cc is)
  first_by_name (name_new t) is before = λ fails. no_name_before t 0 fails (turn_lex t 0 (suc f.place) 0 before) (λ less. absurd (omega (arith, less)))
  first_by_name (id_new t) is before = λ fails. no_id_before t 0 fails (turn_lex t 1 (suc f.place) 0 before) (lit≤ tt)
  first_by_name (operator_allowed t i q) is before = absurd (cc is)
  first_by_name (constant_has_value t i q) is before = absurd (cc is)
  first_by_name (default_has_value t i q) is before = absurd (cc is)
  first_by_name (value_spelled t i q) is before = absurd (cc is)
  first_by_name (reference_known t i) is before = absurd (cc is)
  first_by_name (off_cycles t) is before = absurd (cc is)
  first_by_name (nests_little t) is before = absurd (cc is)
  first_by_name (sum_small t) is before = absurd (cc is)

  first_by_id : DuplicateId ≡ f.cause → (other : Check) → phase_of other ≡ 2 → Before other (id_new (suc f.place)) → ¬ (Fails ts other)
  first_by_id causes few_templates is before = absurd (cc is)
  first_by_id causes (names_well_made t i) is before = absurd (cc is)
  first_by_id causes (name_new t) is before = λ fails. no_name_before t 1 fails (turn_lex t 0 (suc f.place) 1 before) (λ less. causes)
  first_by_id causes (id_new t) is before = λ fails. no_id_before t 1 fails (turn_lex t 1 (suc f.place) 1 before) (lit≤ tt)
  first_by_id causes (operator_allowed t i q) is before = absurd (cc is)
  first_by_id causes (constant_has_value t i q) is before = absurd (cc is)
  first_by_id causes (default_has_value t i q) is before = absurd (cc is)
  first_by_id causes (value_spelled t i q) is before = absurd (cc is)
  first_by_id causes (reference_known t i) is before = absurd (cc is)
  first_by_id causes (off_cycles t) is before = absurd (cc is)
  first_by_id causes (nests_little t) is before = absurd (cc is)
  first_by_id causes (sum_small t) is before = absurd (cc is)

  settled : length ts ≤ 65535 → Repeats ts f.place f.cause → IsFirstOf ts 2 fault
  unfolding Repeats
  settled few (inl (causes, fails)) =
      let less : f.place < length ts = within_list ts f.place f.one f.there in
      let places : 1 + f.place ≡ min (suc f.place) 4294967295 = omega (arith, less, few) in
      record {
        check = name_new (suc f.place);
        of_phase = refl;
        fails = fails;
        first = first_by_name;
        answered = f.answered ∙ (λ i. record { cause = sym causes i; template = places i; instruction = 0 });
      }
  settled few (inr (causes, fails)) =
      let less : f.place < length ts = within_list ts f.place f.one f.there in
      let places : 1 + f.place ≡ min (suc f.place) 4294967295 = omega (arith, less, few) in
      record {
        check = id_new (suc f.place);
        of_phase = refl;
        fails = fails;
        first = first_by_id causes;
        answered = f.answered ∙ (λ i. record { cause = sym causes i; template = places i; instruction = 0 });
      }

-- ---- the phase

pub duplicates_fault : (ts : List WrittenTemplate) (fault : LoadFault) → length ts ≤ 65535 → first_duplicate [] ts 1 ≡ Some fault → IsFirstOf ts 2 fault
duplicates_fault ts fault few e =
    let f : FirstRepeat [] ts 1 fault = first_repeat [] ts 1 fault e in
    settled ts fault f few (by_name ts f.place f.one f.cause (place_named (take f.place ts) f.one.name) f.there refl f.repeats)

pub duplicates_pass : (ts : List WrittenTemplate) → first_duplicate [] ts 1 ≡ None → Passes ts 2
duplicates_pass ts none few_templates is = absurd (cc is)
duplicates_pass ts none (names_well_made t i) is = absurd (cc is)
duplicates_pass ts none (name_new t) is = λ fails. let n = name_repeats ts t fails in none_some _ (sym (no_repeat [] ts 1 none n.0 n.1 n.3) ∙ n.4)
duplicates_pass ts none (id_new t) is = λ fails. let n = id_repeats ts t fails in none_some _ (sym (no_repeat [] ts 1 none n.0 n.1 n.4) ∙ n.5)
duplicates_pass ts none (operator_allowed t i q) is = absurd (cc is)
duplicates_pass ts none (constant_has_value t i q) is = absurd (cc is)
duplicates_pass ts none (default_has_value t i q) is = absurd (cc is)
duplicates_pass ts none (value_spelled t i q) is = absurd (cc is)
duplicates_pass ts none (reference_known t i) is = absurd (cc is)
duplicates_pass ts none (off_cycles t) is = absurd (cc is)
duplicates_pass ts none (nests_little t) is = absurd (cc is)
duplicates_pass ts none (sum_small t) is = absurd (cc is)
