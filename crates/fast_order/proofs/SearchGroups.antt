-- A search is through with a whole group at once, and ends.
use Rattle.fast_order.proofs.Common.{◌≡◌, ◌≢◌, ◌<◌, ◌≤◌, ◌+◌, ◌-◌, ◌⊎◌, inl, inr, ℕ, suc, zero, List, [], ◌∷◌, ◌++◌, length, set, take, drop, Some, None, Vec, Bool, true, false, refl, sym, ap, subst, ◌∙◌, arith, slice_get, option_map_or, Global, cases_eq, cases_lt, slice_get_within, slice_get-get_or, length-set, length-take, IsReference, IsOrder, IsFirstOnCycle, Reaches, one, State, visiting, Joins, IsDone, NoneStarts, ToCome, IsFollowed, Stands, KeepsSeen, row_length, unseen_steps, path_steps, steps_left, set_all, entered, closed, Mark, Unseen, Open, Done, Visit}
use Rattle.fast_order.proofs.SearchSteps.{at_old, at_last, at_push, at_append, at_right, at_take, at_taken, at_drop, at_dropped, at_set_same, at_set_other, at_set, reaches_joins, done_onwards, IsThrough, nothing_to_come}

-- ---- marks that are set together

pub length-set_all : (ms : List Mark) (vs : List ℕ) (m : Mark) → length (set_all ms vs m) ≡ length ms
length-set_all ms [] m = refl
length-set_all ms (v ∷ vs) m = length-set_all (set ms v m) vs m ∙ length-set ms v m

pub set_all_back : (ms : List Mark) (vs : List ℕ) (m : Mark) (u : ℕ) (y : Mark) → slice_get (set_all ms vs m) u ≡ Some y → ((y ≡ m) × ((p : ℕ) × (slice_get vs p ≡ Some u))) ⊎ (slice_get ms u ≡ Some y)
set_all_back ms [] m u y e = inr e
set_all_back ms (v ∷ vs) m u y e = elim (set_all_back (set ms v m) vs m u y e) [
  | inl a ↦ inl (a.0, (suc a.1.0, a.1.1))
  | inr b ↦ elim (at_set ms v u m y b) [ inl c ↦ inl (c.1, (0, ap Some (sym c.0))) | inr d ↦ inr d ]
]

pub set_all_same : (ms : List Mark) (vs : List ℕ) (m : Mark) (u : ℕ) → slice_get ms u ≡ Some m → slice_get (set_all ms vs m) u ≡ Some m
set_all_same ms [] m u e = e
set_all_same ms (v ∷ vs) m u e = set_all_same (set ms v m) vs m u (elim (cases_eq u v) [
  | inl same ↦ ap (slice_get (set ms v m)) same ∙ at_set_same ms v m (let l : u < length ms = slice_get_within ms u m e in omega (arith, l, same))
  | inr differ ↦ at_set_other ms v u m m differ e
])

pub set_all_in : (ms : List Mark) (vs : List ℕ) (m : Mark) (p u : ℕ) → slice_get vs p ≡ Some u → u < length ms → slice_get (set_all ms vs m) u ≡ Some m
set_all_in ms [] m p u e l = absurd (cc e)
set_all_in ms (v ∷ vs) m zero u e l =
    let same : v ≡ u = cc (e) in
    set_all_same (set ms v m) vs m u (ap (slice_get (set ms v m)) (sym same) ∙ at_set_same ms v m (omega (arith, l, same)))
set_all_in ms (v ∷ vs) m (suc p) u e l = set_all_in (set ms v m) vs m p u e (let k : length (set ms v m) ≡ length ms = length-set ms v m in omega (arith, k, l))

pub set_all_out : (ms : List Mark) (vs : List ℕ) (m : Mark) (u : ℕ) (y : Mark) → ((p : ℕ) → ¬ (slice_get vs p ≡ Some u)) → slice_get ms u ≡ Some y → slice_get (set_all ms vs m) u ≡ Some y
set_all_out ms [] m u y out e = e
set_all_out ms (v ∷ vs) m u y out e = set_all_out (set ms v m) vs m u y (λ p at. out (suc p) at) (at_set_other ms v u m y (λ same. out 0 (ap Some (sym same))) e)

length_take_le : (n : ℕ) (xs : List ℕ) → length (take n xs) ≤ n
length_take_le n xs = omega (arith, length-take n xs)

-- ---- the last group

-- whether what is open from a place on lies on cycles
pub record IsJudged (rows : List (Vec ℕ Global)) (s : State) (start : ℕ) (on_cycle : Bool) : Type 0 where
  pub yes : on_cycle ≡ true → (i u : ℕ) → start ≤ i → slice_get s.opened i ≡ Some u → Reaches rows u u
  pub alone : on_cycle ≡ false → length s.opened ≤ start + 1
  pub apart : on_cycle ≡ false → (k u : ℕ) → slice_get s.opened start ≡ Some u → ¬ (IsReference rows u k u)

pub group_done : (rows : List (Vec ℕ Global)) (s : State) (x : Visit) (on_cycle : Bool) (front : List ℕ) → IsThrough rows x → s.starts ≡ front ++ x.place ∷ [] → take (length s.starts - 1) s.starts ≡ front → IsJudged rows s x.place on_cycle → Stands rows (visiting s x) None → Stands rows (closed x.place on_cycle s) None
group_done rows s x on_cycle front through last_start front_is judged_so h = record {
  marks_len = length-set_all s.marks group (Done on_cycle) ∙ h.marks_len;
  opened_marked = λ i u at. let r = at_take x.place s.opened i u at in kept_open u i r.1 (h.opened_marked i u r.0);
  marked_opened = λ i u at. opened_so i u at (set_all_back s.marks group (Done on_cycle) u (Open i) at);
  joins = λ i j u v at_u at_v none. let a = at_take x.place s.opened i u at_u in h.joins i j u v a.0 (at_take x.place s.opened j v at_v).0 (λ p b at. none_so i j a.1 none p b (start_cases p b at));
  explored = λ i k u w at ref. let a = at_take x.place s.opened i u at in explored_so i k w a.1 (h.explored i k u w a.0 ref);
  visits = λ p z at. at_taken x.place s.opened z.place z.node (below p z at) (h.visits p z (at_old s.path (x ∷ []) p z at));
  rising = λ p q a b at_a at_b less. h.rising p q a b (at_old s.path (x ∷ []) p a at_a) (at_old s.path (x ∷ []) q b at_b) less;
  starts_visited = λ p b at. visited_so p b (front_at p b at) (h.starts_visited p b (start_at p b (front_at p b at)));
  starts_rising = λ p q b c at_b at_c less. h.starts_rising p q b c (start_at p b (front_at p b at_b)) (start_at q c (front_at q c at_c)) less;
  first_starts = λ some. first_so some;
  done_closed = λ v k w done ref. closed_so v k w ref (done_cases v done);
  judged = λ v. (λ at. judged_true v (set_all_back s.marks group (Done on_cycle) v (Done true) at), λ at. judged_false v (set_all_back s.marks group (Done on_cycle) v (Done false) at));
  placed = λ v done. placed_so v (done_cases v done);
  behind = λ p v k w at ref. behind_so p v k w (at_append s.order group p v at) ref;
  ordered = λ p v at. ordered_so p v (at_append s.order group p v at);
  once = λ p q v at_p at_q. once_so p q v (at_append s.order group p v at_p) (at_append s.order group q v at_q);
} where
  group : List ℕ
  group = drop x.place s.opened

  s_start : slice_get s.starts (length front) ≡ Some x.place
  s_start = ap (λ l. slice_get l (length front)) last_start ∙ at_last front x.place

  front_at : (p b : ℕ) → slice_get (take (length s.starts - 1) s.starts) p ≡ Some b → slice_get front p ≡ Some b
  front_at p b at = sym (ap (λ l. slice_get l p) front_is) ∙ at

  start_at : (p b : ℕ) → slice_get front p ≡ Some b → slice_get s.starts p ≡ Some b
  start_at p b at = ap (λ l. slice_get l p) last_start ∙ at_old front (x.place ∷ []) p b at

  start_cases : (p b : ℕ) → slice_get s.starts p ≡ Some b → (slice_get front p ≡ Some b) ⊎ ((p ≡ length front) × (b ≡ x.place))
  start_cases p b at = at_push front x.place p b (sym (ap (λ l. slice_get l p) last_start) ∙ at)

  start_below : (p b : ℕ) → slice_get front p ≡ Some b → b < x.place
  start_below p b at = h.starts_rising p (length front) b x.place (start_at p b at) s_start (slice_get_within front p b at)

  all_below : (p b : ℕ) → slice_get s.starts p ≡ Some b → b ≤ x.place
  all_below p b at = elim (start_cases p b at) [ inl a ↦ (let l : b < x.place = start_below p b a in omega (arith, l)) | inr e ↦ (let k : b ≡ x.place = e.1 in omega (arith, k)) ]

  at_x : slice_get s.opened x.place ≡ Some x.node
  at_x = h.visits (length s.path) x (at_last s.path x)

  below : (p : ℕ) (z : Visit) → slice_get s.path p ≡ Some z → z.place < x.place
  below p z at = h.rising p (length s.path) z x (at_old s.path (x ∷ []) p z at) (at_last s.path x) (slice_get_within s.path p z at)

  in_group : (i u : ℕ) → x.place ≤ i → slice_get s.opened i ≡ Some u → (p : ℕ) × (slice_get group p ≡ Some u)
  in_group i u le at = (i - x.place, at_dropped x.place s.opened i u le at)

  from_group : (p u : ℕ) → slice_get group p ≡ Some u → slice_get s.opened (x.place + p) ≡ Some u
  from_group p u at = at_drop x.place s.opened p u at

  group_marked : (p u : ℕ) → slice_get group p ≡ Some u → slice_get s.marks u ≡ Some (Open (x.place + p))
  group_marked p u at = h.opened_marked (x.place + p) u (from_group p u at)

  group_now : (p u : ℕ) → slice_get group p ≡ Some u → slice_get (set_all s.marks group (Done on_cycle)) u ≡ Some (Done on_cycle)
  group_now p u at = set_all_in s.marks group (Done on_cycle) p u at (slice_get_within s.marks u (Open (x.place + p)) (group_marked p u at))

  group_done_now : (i u : ℕ) → x.place ≤ i → slice_get s.opened i ≡ Some u → IsDone (set_all s.marks group (Done on_cycle)) u
  group_done_now i u le at = let r = in_group i u le at in (on_cycle, group_now r.0 u r.1)

  kept_open : (u i : ℕ) → i < x.place → slice_get s.marks u ≡ Some (Open i) → slice_get (set_all s.marks group (Done on_cycle)) u ≡ Some (Open i)
  kept_open u i less at = set_all_out s.marks group (Done on_cycle) u (Open i) out at where
    out : (p : ℕ) → ¬ (slice_get group p ≡ Some u)
    out p e = let same : i ≡ x.place + p = cc (sym at ∙ group_marked p u e) in absurd (omega (arith, same, less))

  kept_done : (u : ℕ) → IsDone s.marks u → IsDone (set_all s.marks group (Done on_cycle)) u
  kept_done u (b, at) = (b, set_all_out s.marks group (Done on_cycle) u (Done b) (λ p e. absurd (cc (sym at ∙ group_marked p u e))) at)

  opened_so : (i u : ℕ) → slice_get (set_all s.marks group (Done on_cycle)) u ≡ Some (Open i) → ((Open i ≡ Done on_cycle) × ((p : ℕ) × (slice_get group p ≡ Some u))) ⊎ (slice_get s.marks u ≡ Some (Open i)) → slice_get (take x.place s.opened) i ≡ Some u
  opened_so i u at_now (inl a) = absurd (cc a.0)
  opened_so i u at_now (inr e) = elim (cases_lt i x.place) [
    | inl less ↦ at_taken x.place s.opened i u less (h.marked_opened i u e)
    | inr le ↦ absurd (gone (in_group i u le (h.marked_opened i u e)))
  ] where
    -- what is in the group is done, not open
    gone : ((p : ℕ) × (slice_get group p ≡ Some u)) → ⊥
    gone (p, at) = cc (sym at_now ∙ group_now p u at)

  none_so : (i j : ℕ) → i < x.place → NoneStarts (take (length s.starts - 1) s.starts) j i → (p b : ℕ) → (slice_get front p ≡ Some b) ⊎ ((p ≡ length front) × (b ≡ x.place)) → (b ≤ j) ⊎ (i < b)
  none_so i j less none p b (inl a) = none p b (ap (λ l. slice_get l p) front_is ∙ a)
  none_so i j less none p b (inr e) = inr (let k : b ≡ x.place = e.1 in omega (arith, k, less))

  explored_so : (i k w : ℕ) → i < x.place → (⊥ ⊎ ToCome (s.path ++ x ∷ []) i k) ⊎ IsFollowed s.marks s.starts i w → (⊥ ⊎ ToCome s.path i k) ⊎ IsFollowed (set_all s.marks group (Done on_cycle)) (take (length s.starts - 1) s.starts) i w
  explored_so i k w less (inl (inl never)) = absurd never
  explored_so i k w less (inl (inr (p, y, at_y, there, next))) = elim (at_push s.path x p y at_y) [
    | inl a ↦ inl (inr (p, y, a, there, next))
    | inr b ↦ let place : x.place ≡ i = ap (λ z. z.place) (sym b.1) ∙ there in absurd (omega (arith, place, less))
  ]
  explored_so i k w less (inr (inl done)) = inr (inl (kept_done w done))
  explored_so i k w less (inr (inr (j, at, above))) = elim (cases_lt j x.place) [
    | inl under ↦ inr (inr (j, kept_open w j under at, λ p b at_b le. above p b (start_at p b (front_at p b at_b)) le))
    | inr over ↦ inr (inl (group_done_now j w over (h.marked_opened j w at)))
  ]

  visited_so : (p b : ℕ) → slice_get front p ≡ Some b → ((q : ℕ) × (z : Visit) × (slice_get (s.path ++ x ∷ []) q ≡ Some z) × (z.place ≡ b)) → (q : ℕ) × (z : Visit) × (slice_get s.path q ≡ Some z) × (z.place ≡ b)
  visited_so p b at (q, z, at_z, there) = elim (at_push s.path x q z at_z) [
    | inl a ↦ (q, z, a, there)
    | inr l ↦ let less : b < x.place = start_below p b at in let same : x.place ≡ b = ap (λ v. v.place) (sym l.1) ∙ there in absurd (omega (arith, less, same))
  ]

  first_so : 0 < length (take x.place s.opened) → (p : ℕ) × (slice_get (take (length s.starts - 1) s.starts) p ≡ Some 0)
  first_so some =
      let inside : x.place < length s.opened = slice_get_within s.opened x.place x.node at_x in
      let few : length (take x.place s.opened) ≤ x.place = length_take_le x.place s.opened in
      from_first (omega (arith, few, some)) (h.first_starts (omega (arith, inside))) where
        from_first : 0 < x.place → ((p : ℕ) × (slice_get s.starts p ≡ Some 0)) → (p : ℕ) × (slice_get (take (length s.starts - 1) s.starts) p ≡ Some 0)
        from_first above (p, at) = elim (start_cases p 0 at) [
          | inl a ↦ (p, ap (λ l. slice_get l p) front_is ∙ a)
          | inr e ↦ let k : 0 ≡ x.place = e.1 in absurd (omega (arith, k, above))
        ]

  done_cases : (v : ℕ) → IsDone (set_all s.marks group (Done on_cycle)) v → IsDone s.marks v ⊎ ((p : ℕ) × (slice_get group p ≡ Some v))
  done_cases v (b, at) = elim (set_all_back s.marks group (Done on_cycle) v (Done b) at) [ inl a ↦ inr a.1 | inr e ↦ inl (b, e) ]

  -- a reference of the group leads to what is done by now
  group_onwards : (i k u w : ℕ) → x.place ≤ i → slice_get s.opened i ≡ Some u → IsReference rows u k w → (⊥ ⊎ ToCome (s.path ++ x ∷ []) i k) ⊎ IsFollowed s.marks s.starts i w → IsDone s.marks w ⊎ ((j : ℕ) × (x.place ≤ j) × (slice_get s.opened j ≡ Some w))
  group_onwards i k u w le at ref (inl (inl never)) = absurd never
  group_onwards i k u w le at ref (inl (inr t)) = absurd (nothing_to_come rows s x through h i k u w le at ref t)
  group_onwards i k u w le at ref (inr (inl done)) = inl done
  group_onwards i k u w le at ref (inr (inr (j, at_w, above))) = inr (j, above (length front) x.place s_start le, h.marked_opened j w at_w)

  closed_so : (v k w : ℕ) → IsReference rows v k w → IsDone s.marks v ⊎ ((p : ℕ) × (slice_get group p ≡ Some v)) → IsDone (set_all s.marks group (Done on_cycle)) w
  closed_so v k w ref (inl done) = kept_done w (h.done_closed v k w done ref)
  closed_so v k w ref (inr (p, at)) = elim (group_onwards (x.place + p) k v w (omega arith) (from_group p v at) ref (h.explored (x.place + p) k v w (from_group p v at) ref)) [
    | inl done ↦ kept_done w done
    | inr r ↦ group_done_now r.0 w r.1 r.2
  ]

  -- one that is on no cycle leads to what was done before
  out_of_alone : on_cycle ≡ false → (p v : ℕ) → slice_get group p ≡ Some v → (k w : ℕ) → IsReference rows v k w → IsDone s.marks w
  out_of_alone free p v at k w ref = elim (group_onwards (x.place + p) k v w (omega arith) (from_group p v at) ref (h.explored (x.place + p) k v w (from_group p v at) ref)) [
    | inl done ↦ done
    | inr r ↦ absurd (itself r.0 r.1 r.2)
  ] where
    itself : (j : ℕ) → x.place ≤ j → slice_get s.opened j ≡ Some w → ⊥
    itself j le at_w =
        let few : length s.opened ≤ x.place + 1 = judged_so.alone free in
        let inside_w : j < length s.opened = slice_get_within s.opened j w at_w in
        let inside_v : x.place + p < length s.opened = slice_get_within s.opened (x.place + p) v (from_group p v at) in
        let at_start_w : slice_get s.opened x.place ≡ Some w = ap (slice_get s.opened) (let k : x.place ≡ j = omega (arith, le, few, inside_w) in k) ∙ at_w in
        let at_start_v : slice_get s.opened x.place ≡ Some v = ap (slice_get s.opened) (let k : x.place ≡ x.place + p = omega (arith, few, inside_v) in k) ∙ from_group p v at in
        let same : w ≡ v = cc (sym at_start_w ∙ at_start_v) in
        judged_so.apart free k v at_start_v (subst (λ z. IsReference rows v k z) same ref)

  judged_true : (v : ℕ) → ((Done true ≡ Done on_cycle) × ((p : ℕ) × (slice_get group p ≡ Some v))) ⊎ (slice_get s.marks v ≡ Some (Done true)) → Reaches rows v v
  judged_true v (inl a) = let so : on_cycle ≡ true = cc (a.0) in judged_so.yes so (x.place + a.1.0) v (omega arith) (from_group a.1.0 v a.1.1)
  judged_true v (inr e) = (h.judged v).0 e

  judged_false : (v : ℕ) → ((Done false ≡ Done on_cycle) × ((p : ℕ) × (slice_get group p ≡ Some v))) ⊎ (slice_get s.marks v ≡ Some (Done false)) → ¬ (Reaches rows v v)
  judged_false v (inl a) reaches =
      let no_cycle : on_cycle ≡ false = cc (a.0) in
      let done : IsDone s.marks v = done_onwards rows s.marks v v h.done_closed (out_of_alone no_cycle a.1.0 v a.1.1) reaches in
      absurd (cc (sym done.1 ∙ group_marked a.1.0 v a.1.1))
  judged_false v (inr e) reaches = (h.judged v).1 e reaches

  placed_so : (v : ℕ) → IsDone s.marks v ⊎ ((p : ℕ) × (slice_get group p ≡ Some v)) → (p : ℕ) × (slice_get (s.order ++ group) p ≡ Some v)
  placed_so v (inl done) = let r = h.placed v done in (r.0, at_old s.order group r.0 v r.1)
  placed_so v (inr (p, at)) = (length s.order + p, at_right s.order group p v at)

  by_flag : (b : Bool) → on_cycle ≡ b → (p v k w : ℕ) → (j : ℕ) → p ≡ length s.order + j → slice_get group j ≡ Some v → IsReference rows v k w → Reaches rows v v ⊎ ((q : ℕ) × (q < p) × (slice_get (s.order ++ group) q ≡ Some w))
  by_flag true so p v k w j there at ref = inl (judged_so.yes so (x.place + j) v (omega arith) (from_group j v at))
  by_flag false so p v k w j there at ref =
      let r = h.placed w (out_of_alone so j v at k w ref) in
      let inside : r.0 < length s.order = slice_get_within s.order r.0 w r.1 in
      inr (r.0, omega (arith, inside, there), at_old s.order group r.0 w r.1)

  behind_so : (p v k w : ℕ) → (slice_get s.order p ≡ Some v) ⊎ ((j : ℕ) × (p ≡ length s.order + j) × (slice_get group j ≡ Some v)) → IsReference rows v k w → Reaches rows v v ⊎ ((q : ℕ) × (q < p) × (slice_get (s.order ++ group) q ≡ Some w))
  behind_so p v k w (inl a) ref = elim (h.behind p v k w a ref) [ inl cycle ↦ inl cycle | inr r ↦ inr (r.0, r.1, at_old s.order group r.0 w r.2) ]
  behind_so p v k w (inr (j, there, at)) ref = by_flag on_cycle refl p v k w j there at ref

  ordered_so : (p v : ℕ) → (slice_get s.order p ≡ Some v) ⊎ ((j : ℕ) × (p ≡ length s.order + j) × (slice_get group j ≡ Some v)) → IsDone (set_all s.marks group (Done on_cycle)) v
  ordered_so p v (inl a) = kept_done v (h.ordered p v a)
  ordered_so p v (inr (j, there, at)) = (on_cycle, group_now j v at)

  -- what was done before is not in the group, and what is open is so once
  once_so : (p q v : ℕ) → (slice_get s.order p ≡ Some v) ⊎ ((j : ℕ) × (p ≡ length s.order + j) × (slice_get group j ≡ Some v)) → (slice_get s.order q ≡ Some v) ⊎ ((j : ℕ) × (q ≡ length s.order + j) × (slice_get group j ≡ Some v)) → p ≡ q
  once_so p q v (inl a) (inl b) = h.once p q v a b
  once_so p q v (inl a) (inr (j, there, at)) = absurd (cc (sym (h.ordered p v a).1 ∙ group_marked j v at))
  once_so p q v (inr (j, there, at)) (inl b) = absurd (cc (sym (h.ordered q v b).1 ∙ group_marked j v at))
  once_so p q v (inr (i, there_p, at_p)) (inr (j, there_q, at_q)) =
      let same : x.place + i ≡ x.place + j = cc (sym (group_marked i v at_p) ∙ group_marked j v at_q) in
      omega (arith, same, there_p, there_q)

-- ---- whether a group lies on cycles

-- what is open from the start of the last group on reaches itself, where there is more than one
on_cycle_of : (rows : List (Vec ℕ Global)) (s : State) (x : Visit) → ((p b : ℕ) → slice_get s.starts p ≡ Some b → b ≤ x.place) → Stands rows (visiting s x) None → (i j u v : ℕ) → x.place ≤ i → x.place ≤ j → i ≢ j → slice_get s.opened i ≡ Some u → slice_get s.opened j ≡ Some v → Reaches rows u u
on_cycle_of rows s x below h i j u v le_i le_j apart at_u at_v = round (h.joins i j u v at_u at_v (λ p b at. inl (let l : b ≤ x.place = below p b at in omega (arith, l, le_j)))) where
  back : Joins rows v u
  back = h.joins j i v u at_v at_u (λ p b at. inl (let l : b ≤ x.place = below p b at in omega (arith, l, le_i)))

  round : Joins rows u v → Reaches rows u u
  round (inl same) =
      let one_mark : Open i ≡ Open j = cc (sym (h.opened_marked i u at_u) ∙ ap (slice_get s.marks) same ∙ h.opened_marked j v at_v) in
      absurd (apart (cc (one_mark)))
  round (inr on) = reaches_joins rows u v u on back

pub is_judged : (rows : List (Vec ℕ Global)) (s : State) (x : Visit) (on_cycle : Bool) → ((p b : ℕ) → slice_get s.starts p ≡ Some b → b ≤ x.place) → Stands rows (visiting s x) None →
    (on_cycle ≡ true → (x.place + 1 < length s.opened) ⊎ ((k : ℕ) × IsReference rows x.node k x.node)) →
    (on_cycle ≡ false → (length s.opened ≤ x.place + 1) × ((k : ℕ) → ¬ (IsReference rows x.node k x.node))) → IsJudged rows s x.place on_cycle
is_judged rows s x on_cycle below h if_so if_not = record {
  yes = λ so i u le at. from (if_so so) i u le at;
  alone = λ so. (if_not so).0;
  apart = λ so k u at ref. let same : u ≡ x.node = cc (sym at ∙ at_x) in (if_not so).1 k (subst (λ z. IsReference rows z k z) same ref);
} where
  at_x : slice_get s.opened x.place ≡ Some x.node
  at_x = h.visits (length s.path) x (at_last s.path x)

  two : x.place + 1 < length s.opened → (i u : ℕ) → x.place ≤ i → slice_get s.opened i ≡ Some u → (i ≡ x.place) ⊎ (i ≢ x.place) → Reaches rows u u
  two some i u le at (inr apart) = on_cycle_of rows s x below h i x.place u x.node le (omega arith) apart at at_x
  two some i u le at (inl same) = on_cycle_of rows s x below h i (x.place + 1) u _ le (omega arith) (λ e. absurd (omega (arith, e, same))) at (slice_get-get_or s.opened (x.place + 1) 0 some)

  from : (x.place + 1 < length s.opened) ⊎ ((k : ℕ) × IsReference rows x.node k x.node) → (i u : ℕ) → x.place ≤ i → slice_get s.opened i ≡ Some u → Reaches rows u u
  from (inl some) i u le at = two some i u le at (cases_eq i x.place)
  from (inr (k, ref)) i u le at = elim (cases_lt (x.place + 1) (length s.opened)) [
    | inl some ↦ two some i u le at (cases_eq i x.place)
    | inr few ↦
        let inside : i < length s.opened = slice_get_within s.opened i u at in
        let here : i ≡ x.place = omega (arith, le, few, inside) in
        let same : x.node ≡ u = cc (sym at_x ∙ ap (slice_get s.opened) (sym here) ∙ at) in
        one k u (subst (λ z. IsReference rows z k z) same ref)
  ]

-- ---- a search ends

path_steps_push : (rows : List (Vec ℕ Global)) (xs : List Visit) (x : Visit) → path_steps rows (xs ++ x ∷ []) ≡ path_steps rows xs + ((row_length rows x.node - x.next) + 1)
path_steps_push rows [] x = omega arith
path_steps_push rows (y ∷ xs) x = let k = path_steps_push rows xs x in omega (arith, k)

unseen_steps_open : (rows : List (Vec ℕ Global)) (ms : List Mark) (v i : ℕ) → v < length rows → slice_get ms v ≡ Some Unseen → unseen_steps rows (set ms v (Open i)) + row_length rows v + 2 ≡ unseen_steps rows ms
unseen_steps_open [] ms v i l e = absurd (omega (arith, l))
unseen_steps_open (row ∷ rows) [] v i l e = absurd (cc e)
unseen_steps_open (row ∷ rows) (Unseen ∷ ms) zero i l e = omega arith
unseen_steps_open (row ∷ rows) (Open j ∷ ms) zero i l e = absurd (cc e)
unseen_steps_open (row ∷ rows) (Done b ∷ ms) zero i l e = absurd (cc e)
unseen_steps_open (row ∷ rows) (Unseen ∷ ms) (suc v) i l e = let k = unseen_steps_open rows ms v i (omega (arith, l)) e in omega (arith, k)
unseen_steps_open (row ∷ rows) (Open j ∷ ms) (suc v) i l e = unseen_steps_open rows ms v i (omega (arith, l)) e
unseen_steps_open (row ∷ rows) (Done b ∷ ms) (suc v) i l e = unseen_steps_open rows ms v i (omega (arith, l)) e

unseen_steps_done : (rows : List (Vec ℕ Global)) (ms : List Mark) (v : ℕ) (b : Bool) → unseen_steps rows (set ms v (Done b)) ≤ unseen_steps rows ms
unseen_steps_done [] ms v b = omega arith
unseen_steps_done (row ∷ rows) [] v b = omega arith
unseen_steps_done (row ∷ rows) (Unseen ∷ ms) zero b = omega arith
unseen_steps_done (row ∷ rows) (Open j ∷ ms) zero b = omega arith
unseen_steps_done (row ∷ rows) (Done c ∷ ms) zero b = omega arith
unseen_steps_done (row ∷ rows) (Unseen ∷ ms) (suc v) b = let k = unseen_steps_done rows ms v b in omega (arith, k)
unseen_steps_done (row ∷ rows) (Open j ∷ ms) (suc v) b = unseen_steps_done rows ms v b
unseen_steps_done (row ∷ rows) (Done c ∷ ms) (suc v) b = unseen_steps_done rows ms v b

unseen_steps_all : (rows : List (Vec ℕ Global)) (ms : List Mark) (vs : List ℕ) (b : Bool) → unseen_steps rows (set_all ms vs (Done b)) ≤ unseen_steps rows ms
unseen_steps_all rows ms [] b = omega arith
unseen_steps_all rows ms (v ∷ vs) b = let k = unseen_steps_all rows (set ms v (Done b)) vs b in let l = unseen_steps_done rows ms v b in omega (arith, k, l)

row_length_is : (rows : List (Vec ℕ Global)) (v k w : ℕ) → IsReference rows v k w → k < row_length rows v
row_length_is rows v k w (row, at, ref) =
    let inside : k < length row.items = slice_get_within row.items k w ref in
    let same : row_length rows v ≡ length row.items = ap (λ o. option_map_or (λ (r : Vec ℕ Global). length r.items) o 0) at in
    omega (arith, inside, same)

-- a reference was followed
pub fewer_on : (rows : List (Vec ℕ Global)) (s : State) (x y : Visit) (w : ℕ) → y.node ≡ x.node → y.next ≡ x.next + 1 → IsReference rows x.node x.next w → path_steps rows (s.path ++ y ∷ []) + 1 ≡ path_steps rows (s.path ++ x ∷ [])
fewer_on rows s x y w node next ref =
    let k = path_steps_push rows s.path x in
    let l = path_steps_push rows s.path y in
    let less : x.next < row_length rows x.node = row_length_is rows x.node x.next w ref in
    let same : row_length rows y.node ≡ row_length rows x.node = ap (row_length rows) node in
    omega (arith, k, l, less, same, next)

pub fewer_entered : (rows : List (Vec ℕ Global)) (s : State) (v : ℕ) → v < length rows → slice_get s.marks v ≡ Some Unseen → steps_left rows (entered v s) + 1 ≡ steps_left rows s
fewer_entered rows s v l new =
    let k = path_steps_push rows s.path (record { node = v; place = length s.opened; next = 0 }) in
    let m = unseen_steps_open rows s.marks v (length s.opened) l new in
    omega (arith, k, m)

pub fewer_left : (rows : List (Vec ℕ Global)) (s : State) (x : Visit) → path_steps rows s.path < path_steps rows (s.path ++ x ∷ [])
fewer_left rows s x = let k = path_steps_push rows s.path x in omega (arith, k)

pub fewer_closed : (rows : List (Vec ℕ Global)) (s : State) (x : Visit) (on_cycle : Bool) → steps_left rows (closed x.place on_cycle s) < steps_left rows (visiting s x)
fewer_closed rows s x on_cycle =
    let k = fewer_left rows s x in
    let m = unseen_steps_all rows s.marks (drop x.place s.opened) on_cycle in
    omega (arith, k, m)

-- ---- what was seen stays seen

pub entered_seen : (s : State) (v : ℕ) → KeepsSeen s (entered v s)
entered_seen s v u e = elim (at_set s.marks v u (Open (length s.opened)) Unseen e) [ inl a ↦ absurd (cc a.1) | inr b ↦ b ]

pub closed_seen : (s : State) (start : ℕ) (on_cycle : Bool) → KeepsSeen s (closed start on_cycle s)
closed_seen s start on_cycle u e = elim (set_all_back s.marks (drop start s.opened) (Done on_cycle) u Unseen e) [ inl a ↦ absurd (cc a.0) | inr b ↦ b ]

-- ---- the end

mark_of : (marks : List Mark) (v : ℕ) (m : Mark) → slice_get marks v ≡ Some m → (slice_get marks v ≡ Some Unseen) ⊎ (((i : ℕ) × (slice_get marks v ≡ Some (Open i))) ⊎ IsDone marks v)
mark_of marks v Unseen e = inl e
mark_of marks v (Open i) e = inr (inl (i, e))
mark_of marks v (Done b) e = inr (inr (b, e))

-- with nothing on the path nothing is open, and what was met is done
pub done_at_rest : (rows : List (Vec ℕ Global)) (s : State) → Stands rows s None → s.path ≡ [] → (v : ℕ) → v < length rows → ¬ (slice_get s.marks v ≡ Some Unseen) → IsDone s.marks v
done_at_rest rows s h rest v l seen = elim (mark_of s.marks v _ (slice_get-get_or s.marks v Unseen (let k = h.marks_len in omega (arith, k, l)))) [
  | inl e ↦ absurd (seen e)
  | inr r ↦ elim r [ inl o ↦ absurd (none o.0 (h.marked_opened o.0 v o.1)) | inr d ↦ d ]
] where
  none : (i : ℕ) → slice_get s.opened i ≡ Some v → ⊥
  none i at =
      let inside : i < length s.opened = slice_get_within s.opened i v at in
      let r = h.first_starts (omega (arith, inside)) in
      let q = h.starts_visited r.0 0 r.1 in
      cc (sym q.2 ∙ ap (λ p. slice_get p q.0) rest)

-- before anything is met
pub at_first : (rows : List (Vec ℕ Global)) (s : State) → length s.marks ≡ length rows → ((v : ℕ) (m : Mark) → slice_get s.marks v ≡ Some m → m ≡ Unseen) → s.opened ≡ [] → s.starts ≡ [] → s.path ≡ [] → s.order ≡ [] → Stands rows s None
at_first rows s len new opened starts path order = record {
  marks_len = len;
  opened_marked = λ i v at. absurd (cc (sym at ∙ ap (λ l. slice_get l i) opened));
  marked_opened = λ i v at. absurd (cc (new v (Open i) at));
  joins = λ i j u v at_u at_v none. absurd (cc (sym at_u ∙ ap (λ l. slice_get l i) opened));
  explored = λ i k u w at ref. absurd (cc (sym at ∙ ap (λ l. slice_get l i) opened));
  visits = λ p x at. absurd (cc (sym at ∙ ap (λ l. slice_get l p) path));
  rising = λ p q x y at_x at_y less. absurd (cc (sym at_x ∙ ap (λ l. slice_get l p) path));
  starts_visited = λ p b at. absurd (cc (sym at ∙ ap (λ l. slice_get l p) starts));
  starts_rising = λ p q b c at_b at_c less. absurd (cc (sym at_b ∙ ap (λ l. slice_get l p) starts));
  first_starts = λ some. let k : length s.opened ≡ 0 = ap length opened in absurd (omega (arith, k, some));
  done_closed = λ v k w done ref. absurd (cc (new v (Done done.0) done.1));
  judged = λ v. (λ at. absurd (cc (new v (Done true) at)), λ at. absurd (cc (new v (Done false) at)));
  placed = λ v done. absurd (cc (new v (Done done.0) done.1));
  behind = λ p v k w at ref. absurd (cc (sym at ∙ ap (λ l. slice_get l p) order));
  ordered = λ p v at. absurd (cc (sym at ∙ ap (λ l. slice_get l p) order));
  once = λ p q v at_p at_q. absurd (cc (sym at_p ∙ ap (λ l. slice_get l p) order));
}

-- all done
pub order_is : (rows : List (Vec ℕ Global)) (s : State) → Stands rows s None → ((v : ℕ) → v < length rows → IsDone s.marks v) → ((v : ℕ) → ¬ (slice_get s.marks v ≡ Some (Done true))) → IsOrder rows s.order
order_is rows s h done free = record {
  within = inside;
  complete = λ a l. h.placed a (done a l);
  once = h.once;
  behind = λ p a k b at ref. elim (h.behind p a k b at ref) [ inl cycle ↦ absurd (off a (done a (inside p a at)) cycle) | inr r ↦ r ];
} where
  inside : (p a : ℕ) → slice_get s.order p ≡ Some a → a < length rows
  inside p a at =
      let done_at = h.ordered p a at in
      let k : a < length s.marks = slice_get_within s.marks a (Done done_at.0) done_at.1 in
      let len : length s.marks ≡ length rows = h.marks_len in
      omega (arith, k, len)

  off : (a : ℕ) → IsDone s.marks a → ¬ (Reaches rows a a)
  off a (true, at) = λ cycle. free a at
  off a (false, at) = (h.judged a).1 at

pub first_is : (rows : List (Vec ℕ Global)) (s : State) (t : ℕ) → Stands rows s None → ((v : ℕ) → v < length rows → IsDone s.marks v) → slice_get s.marks t ≡ Some (Done true) → ((u : ℕ) → u < t → ¬ (slice_get s.marks u ≡ Some (Done true))) → IsFirstOnCycle rows t
first_is rows s t h done at before = record {
  within = inside;
  on_cycle = (h.judged t).0 at;
  first = λ u less. off u less (done u (omega (arith, less, inside)));
} where
  inside : t < length rows
  inside = let k : t < length s.marks = slice_get_within s.marks t (Done true) at in let l = h.marks_len in omega (arith, k, l)

  off : (u : ℕ) → u < t → IsDone s.marks u → ¬ (Reaches rows u u)
  off u less (true, at_u) = λ cycle. before u less at_u
  off u less (false, at_u) = (h.judged u).1 at_u
