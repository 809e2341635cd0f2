-- Each turn of a search.
use Rattle.fast_order.proofs.Common.{◌≡◌, ◌≢◌, ◌<◌, ◌≤◌, ◌+◌, ◌-◌, ◌⊎◌, inl, inr, ℕ, List, [], ◌∷◌, ◌++◌, length, set, take, Option, Some, None, Vec, Bool, true, refl, sym, ap, subst, ◌∙◌, arith, get_or, IsTrue, ◌↔◌, slice_get, MatchOption, Global, cases_lt, slice_get_within, slice_get-get_or, get_or_from_slice_get, take_more, take_all, IsReference, AreWithin, State, visiting, IsDone, IsFollowed, Stands, KeepsSeen, Advances, path_steps, steps_left, entered, closed, Unseen, Open, Visit}
use Rattle.fast_order.proofs.SearchSteps.{at_old, at_last, at_push, at_set_same, advanced, resolved, opened_one, lowered, left, IsThrough, joins_reference}
use Rattle.fast_order.proofs.SearchGroups.{IsJudged, is_judged, group_done, fewer_on, fewer_entered, fewer_left, fewer_closed, entered_seen, closed_seen, done_at_rest}

-- each start lies on the path, so none is above its last
pub starts_up_to : (rows : List (Vec ℕ Global)) (s : State) (x : Visit) (now : Option Visit) → Stands rows (visiting s x) now → (p b : ℕ) → slice_get s.starts p ≡ Some b → b ≤ x.place
starts_up_to rows s x now h p b at = from (h.starts_visited p b at) where
  from : ((q : ℕ) × (z : Visit) × (slice_get (s.path ++ x ∷ []) q ≡ Some z) × (z.place ≡ b)) → b ≤ x.place
  from (q, z, at_z, there) = elim (at_push s.path x q z at_z) [
    | inl a ↦ let less : z.place < x.place = h.rising q (length s.path) z x at_z (at_last s.path x) (slice_get_within s.path q z a) in omega (arith, less, there)
    | inr e ↦ let same : z.place ≡ x.place = ap (λ v. v.place) e.1 in omega (arith, same, there)
  ]

pub visit_open : (rows : List (Vec ℕ Global)) (s : State) (x : Visit) (now : Option Visit) → Stands rows (visiting s x) now → slice_get s.opened x.place ≡ Some x.node
visit_open rows s x now h = h.visits (length s.path) x (at_last s.path x)

pub place_within : (rows : List (Vec ℕ Global)) (s : State) (x : Visit) → Stands rows (visiting s x) None → x.place < length s.opened
place_within rows s x h = slice_get_within s.opened x.place x.node (visit_open rows s x None h)

pub opened_within : (rows : List (Vec ℕ Global)) (s : State) (x : Visit) → Stands rows (visiting s x) None → (i v : ℕ) → slice_get s.opened i ≡ Some v → v < length s.marks
opened_within rows s x h i v at = slice_get_within s.marks v (Open i) (h.opened_marked i v at)

pub node_within : (rows : List (Vec ℕ Global)) (s : State) (x : Visit) → Stands rows (visiting s x) None → x.node < length rows
node_within rows s x h =
    let k : x.node < length s.marks = opened_within rows s x h x.place x.node (visit_open rows s x None h) in
    let l : length s.marks ≡ length rows = h.marks_len in
    omega (arith, k, l)

-- what one reference leads to
only_one : (rows : List (Vec ℕ Global)) (a k v w : ℕ) → IsReference rows a k v → IsReference rows a k w → v ≡ w
only_one rows a k v w (row, at, ref) (other, at_o, ref_o) =
    let same : row ≡ other = cc (sym at ∙ at_o) in
    cc (sym ref ∙ ap (λ (r : Vec ℕ Global). slice_get r.items k) same ∙ ref_o)

-- the turns of one reference: y is x with the next reference
pub record IsNext (x y : Visit) : Type 0 where
  pub node : y.node ≡ x.node
  pub place : y.place ≡ x.place
  pub next : y.next ≡ x.next + 1

pub next_of : (x y : Visit) → y.node ≡ x.node → y.place ≡ x.place → y.next ≡ x.next + 1 → IsNext x y
next_of x y node place next = record { node = node; place = place; next = next }

followed_by : (rows : List (Vec ℕ Global)) (s t : State) (x : Visit) (w : ℕ) → t.opened ≡ s.opened → Stands rows (visiting s x) None → IsReference rows x.node x.next w → IsFollowed t.marks t.starts x.place w → (u v : ℕ) → slice_get t.opened x.place ≡ Some u → IsReference rows u x.next v → IsFollowed t.marks t.starts x.place v
followed_by rows s t x w opened h ref f u v at ref_v =
    let same : u ≡ x.node = cc (sym at ∙ ap (λ o. slice_get o x.place) opened ∙ visit_open rows s x None h) in
    let one : w ≡ v = only_one rows x.node x.next w v ref (subst (λ z. IsReference rows z x.next v) same ref_v) in
    subst (IsFollowed t.marks t.starts x.place) one f

-- to one that is done
pub turn_done : (rows : List (Vec ℕ Global)) (s t : State) (x y : Visit) (w : ℕ) → IsNext x y → t ≡ visiting s y → IsReference rows x.node x.next w → IsDone s.marks w → Stands rows (visiting s x) None → Advances rows (visiting s x) t
turn_done rows s t x y w n is ref done h = subst (Advances rows (visiting s x)) (sym is) (record {
  stands = resolved rows (visiting s y) x (followed_by rows s (visiting s y) x w refl h ref (inl done)) (advanced rows s x y n.node n.place n.next h);
  seen = λ v e. e;
  fewer = let k = fewer_on rows s x y w n.node n.next ref in omega (arith, k);
})

-- to one that is open
pub turn_open : (rows : List (Vec ℕ Global)) (s t : State) (x y : Visit) (w q : ℕ) → IsNext x y → t.marks ≡ s.marks → t.opened ≡ s.opened → t.order ≡ s.order → t.path ≡ s.path ++ y ∷ [] →
    ((p b : ℕ) → slice_get t.starts p ≡ Some b → (slice_get s.starts p ≡ Some b) × (b ≤ q)) →
    ((p b : ℕ) → slice_get s.starts p ≡ Some b → (slice_get t.starts p ≡ Some b) ⊎ (q < b)) →
    IsReference rows x.node x.next w → slice_get s.marks w ≡ Some (Open q) → Stands rows (visiting s x) None → Advances rows (visiting s x) t
turn_open rows s t x y w q n marks opened order path rest gone ref at_w h = record {
  stands = resolved rows t x (followed_by rows s t x w opened h ref (inr (q, ap (λ m. slice_get m w) marks ∙ at_w, λ p b at le. (rest p b at).1))) low;
  seen = λ v e. sym (ap (λ m. slice_get m v) marks) ∙ e;
  fewer = let k = fewer_on rows s x y w n.node n.next ref in let same : steps_left rows t ≡ steps_left rows (visiting s y) = ap (λ m. steps_left rows (record { marks = m; opened = t.opened; starts = t.starts; path = t.path; order = t.order })) marks ∙ ap (λ z. steps_left rows (record { marks = s.marks; opened = t.opened; starts = t.starts; path = z; order = t.order })) path in omega (arith, k, same);
} where
  low : Stands rows t (Some x)
  low = lowered rows (visiting s y) t (Some x) x.place x.node x.next q w marks opened path order rest gone (visit_open rows s x None h) ref at_w (starts_up_to rows s x None h) (advanced rows s x y n.node n.place n.next h)

-- to one that was not met
pub turn_new : (rows : List (Vec ℕ Global)) (s t : State) (x y : Visit) (w : ℕ) → IsNext x y → t ≡ entered w (visiting s y) → AreWithin rows → IsReference rows x.node x.next w → slice_get s.marks w ≡ Some Unseen → Stands rows (visiting s x) None → Advances rows (visiting s x) t
turn_new rows s t x y w n is within ref new h = subst (Advances rows (visiting s x)) (sym is) (record {
  stands = resolved rows (entered w (visiting s y)) x to_new (opened_one rows (visiting s y) w (Some x) new parent (advanced rows s x y n.node n.place n.next h));
  seen = entered_seen (visiting s y) w;
  fewer = let k = fewer_on rows s x y w n.node n.next ref in let m = fewer_entered rows (visiting s y) w w_within new in omega (arith, k, m);
}) where
  w_within : w < length rows
  w_within = within x.node x.next w ref

  parent : (i u : ℕ) → slice_get s.opened i ≡ Some u → Rattle.fast_order.specs.Search.Joins rows u w
  parent i u at = inr (joins_reference rows u x.node x.next w (h.joins i x.place u x.node at (visit_open rows s x None h) (λ p b at_b. inl (starts_up_to rows s x None h p b at_b))) ref)

  to_new : (u v : ℕ) → slice_get (s.opened ++ w ∷ []) x.place ≡ Some u → IsReference rows u x.next v → IsFollowed (entered w (visiting s y)).marks (entered w (visiting s y)).starts x.place v
  to_new u v at ref_v =
      let same : u ≡ x.node = cc (sym at ∙ at_old s.opened (w ∷ []) x.place x.node (visit_open rows s x None h)) in
      let one : w ≡ v = only_one rows x.node x.next w v ref (subst (λ z. IsReference rows z x.next v) same ref_v) in
      let st = opened_one rows (visiting s y) w (Some x) new parent (advanced rows s x y n.node n.place n.next h) in
      subst (IsFollowed (entered w (visiting s y)).marks (entered w (visiting s y)).starts x.place) one (inr (length s.opened, st.opened_marked (length s.opened) w (at_last s.opened w), λ p b at_b le. above p b (at_push s.starts (length s.opened) p b at_b)))
    where
      above : (p b : ℕ) → (slice_get s.starts p ≡ Some b) ⊎ ((p ≡ length s.starts) × (b ≡ length s.opened)) → b ≤ length s.opened
      above p b (inl a) = let k : b ≤ x.place = starts_up_to rows s x None h p b a in let l : x.place < length s.opened = place_within rows s x h in omega (arith, k, l)
      above p b (inr e) = let k : b ≡ length s.opened = e.1 in omega (arith, k)

-- ---- the end of a row

-- not the first of its group
pub turn_left : (rows : List (Vec ℕ Global)) (s : State) (x : Visit) → IsThrough rows x → ¬ (slice_get s.starts (length s.starts - 1) ≡ Some x.place) → Stands rows (visiting s x) None → Advances rows (visiting s x) s
turn_left rows s x through not_last h = record {
  stands = left rows s x through no_start h;
  seen = λ v e. e;
  fewer = let k = fewer_left rows s x in omega (arith, k);
} where
  no_start : (p b : ℕ) → slice_get s.starts p ≡ Some b → b ≢ x.place
  no_start p b at = λ same. by same (cases_lt p (length s.starts - 1)) where
    by : b ≡ x.place → (p < length s.starts - 1) ⊎ (length s.starts - 1 ≤ p) → ⊥
    by same (inl less) =
        let last = slice_get-get_or s.starts (length s.starts - 1) 0 (omega (arith, less)) in
        let above : b < get_or s.starts (length s.starts - 1) 0 = h.starts_rising p (length s.starts - 1) b _ at last less in
        let under : get_or s.starts (length s.starts - 1) 0 ≤ x.place = starts_up_to rows s x None h (length s.starts - 1) _ last in
        absurd (omega (arith, above, under, same))
    by same (inr le) =
        let inside : p < length s.starts = slice_get_within s.starts p b at in
        let here : length s.starts - 1 ≡ p = omega (arith, le, inside) in
        absurd (not_last (ap (slice_get s.starts) here ∙ at ∙ ap Some same))

split_last : (xs : List ℕ) (a : ℕ) → slice_get xs (length xs - 1) ≡ Some a → xs ≡ take (length xs - 1) xs ++ a ∷ []
split_last xs a at =
    let inside : length xs - 1 < length xs = slice_get_within xs (length xs - 1) a at in
    let whole : take (length xs - 1 + 1) xs ≡ xs = take_all (length xs - 1 + 1) xs (omega (arith, inside)) in
    sym whole ∙ take_more xs (length xs - 1) 0 inside ∙ ap (λ y. take (length xs - 1) xs ++ y ∷ []) (get_or_from_slice_get xs (length xs - 1) a 0 at)

-- the first of the last group
pub turn_closed : (rows : List (Vec ℕ Global)) (s t : State) (x : Visit) (on_cycle : Bool) → t ≡ closed x.place on_cycle s → IsThrough rows x → slice_get s.starts (length s.starts - 1) ≡ Some x.place → IsJudged rows s x.place on_cycle → Stands rows (visiting s x) None → Advances rows (visiting s x) t
turn_closed rows s t x on_cycle is through last judged_so h = subst (Advances rows (visiting s x)) (sym is) (record {
  stands = group_done rows s x on_cycle (take (length s.starts - 1) s.starts) through (split_last s.starts x.place last) refl judged_so h;
  seen = closed_seen s x.place on_cycle;
  fewer = fewer_closed rows s x on_cycle;
})

-- ---- what the code reads

-- the row of a template
abbrev pub IsRow : List (Vec ℕ Global) → ℕ → List ℕ → Type 0
IsRow rows a refs = (row : Vec ℕ Global) × (slice_get rows a ≡ Some row) × (row.items ≡ refs)

pub in_row : (rows : List (Vec ℕ Global)) (a : ℕ) (refs : List ℕ) → ((row : Vec ℕ Global) × (slice_get rows a ≡ Some row) × (row.items ≡ refs)) → (k b : ℕ) → slice_get refs k ≡ Some b → IsReference rows a k b
in_row rows a refs (row, at, is) k b e = (row, at, ap (λ l. slice_get l k) is ∙ e)

pub of_row : (rows : List (Vec ℕ Global)) (a : ℕ) (refs : List ℕ) → ((row : Vec ℕ Global) × (slice_get rows a ≡ Some row) × (row.items ≡ refs)) → (k b : ℕ) → IsReference rows a k b → slice_get refs k ≡ Some b
of_row rows a refs (row, at, is) k b (other, at_o, e) =
    let same : row ≡ other = cc (sym at ∙ at_o) in
    sym (ap (λ l. slice_get l k) is) ∙ ap (λ (r : Vec ℕ Global). slice_get r.items k) same ∙ e

-- a read of a row by a number
pub reference_is : (rows : List (Vec ℕ Global)) (a : ℕ) (refs : List ℕ) → ((row : Vec ℕ Global) × (slice_get rows a ≡ Some row) × (row.items ≡ refs)) → (number : ℕ) (o : Option ℕ) → o ≡ slice_get refs number → MatchOption o ((k w : ℕ) → IsReference rows a k w → k < number) (λ other. IsReference rows a number other)
reference_is rows a refs row number None is = λ k w ref. by (cases_lt number (length refs)) (slice_get_within refs k w (of_row rows a refs row k w ref)) where
  by : {k : ℕ} → (number < length refs) ⊎ (length refs ≤ number) → k < length refs → k < number
  by (inl less) inside = absurd (cc (is ∙ slice_get-get_or refs number 0 less))
  by (inr le) inside = omega (arith, le, inside)
reference_is rows a refs row number (Some other) is = in_row rows a refs row number other (sym is)

pub names_itself : (rows : List (Vec ℕ Global)) (a : ℕ) (refs : List ℕ) (b : Bool) → ((row : Vec ℕ Global) × (slice_get rows a ≡ Some row) × (row.items ≡ refs)) → (IsTrue b ↔ ((k : ℕ) × (slice_get refs k ≡ Some a))) → IsTrue b ↔ ((k : ℕ) × IsReference rows a k a)
names_itself rows a refs b row e = (λ so. let r = e.0 so in (r.0, in_row rows a refs row r.0 a r.1), λ r. e.1 (r.0, of_row rows a refs row r.0 a r.1))

-- a group of more than one, and of one
pub judged_by_size : (rows : List (Vec ℕ Global)) (s : State) (x : Visit) (on_cycle : Bool) → Stands rows (visiting s x) None → x.place < length s.opened - 1 → on_cycle ≡ true → IsJudged rows s x.place on_cycle
judged_by_size rows s x on_cycle h some so = is_judged rows s x on_cycle (starts_up_to rows s x None h) h (λ e. inl (omega (arith, some))) (λ e. absurd (cc (sym so ∙ e)))

pub judged_by_reference : (rows : List (Vec ℕ Global)) (s : State) (x : Visit) (on_cycle own : Bool) → Stands rows (visiting s x) None → length s.opened - 1 ≤ x.place → on_cycle ≡ own → (IsTrue own ↔ ((k : ℕ) × IsReference rows x.node k x.node)) → IsJudged rows s x.place on_cycle
judged_by_reference rows s x on_cycle own h few same e = is_judged rows s x on_cycle (starts_up_to rows s x None h) h (λ so. inr (e.0 (sym same ∙ so))) (λ off. (omega (arith, few), λ k ref. absurd (cc (sym (e.1 (k, ref)) ∙ sym same ∙ off))))

-- ---- from a root

pub none_open : (rows : List (Vec ℕ Global)) (s : State) → Stands rows s None → s.path ≡ [] → (i v : ℕ) → ¬ (slice_get s.opened i ≡ Some v)
none_open rows s h rest i v = λ at.
    let inside : i < length s.opened = slice_get_within s.opened i v at in
    let r = h.first_starts (omega (arith, inside)) in
    let q = h.starts_visited r.0 0 r.1 in
    absurd (cc (sym q.2 ∙ ap (λ p. slice_get p q.0) rest))

pub root_opened : (rows : List (Vec ℕ Global)) (s t : State) (v : ℕ) → Stands rows s None → s.path ≡ [] → slice_get s.marks v ≡ Some Unseen → t ≡ entered v s → Stands rows t None
root_opened rows s t v h rest new is = subst (λ z. Stands rows z None) (sym is) (opened_one rows s v None new (λ i u at. absurd (none_open rows s h rest i u at)) h)

pub root_done : (rows : List (Vec ℕ Global)) (s t u : State) (v : ℕ) → v < length rows → slice_get s.marks v ≡ Some Unseen → t ≡ entered v s → KeepsSeen t u → Stands rows u None → u.path ≡ [] → IsDone u.marks v
root_done rows s t u v inside new is kept h rest = done_at_rest rows u h rest v inside (λ e. met (kept v e)) where
  met : slice_get t.marks v ≡ Some Unseen → ⊥
  met e =
      let at : slice_get (set s.marks v (Open (length s.opened))) v ≡ Some (Open (length s.opened)) = at_set_same s.marks v (Open (length s.opened)) (slice_get_within s.marks v Unseen new) in
      cc (sym e ∙ ap (λ z. slice_get z.marks v) is ∙ at)

pub root_seen : (s t u : State) (v : ℕ) → t ≡ entered v s → KeepsSeen t u → KeepsSeen s u
root_seen s t u v is kept w e = entered_seen s v w (sym (ap (λ z. slice_get z.marks w) is) ∙ kept w e)

-- one root more
pub roots_more : (rows : List (Vec ℕ Global)) (s t : State) (root : ℕ) → root < length rows → ((v : ℕ) → v < root → IsDone s.marks v) → IsDone t.marks root → KeepsSeen s t → Stands rows t None → t.path ≡ [] → (v : ℕ) → v < root + 1 → IsDone t.marks v
roots_more rows s t root inside done now kept h rest v less = elim (cases_lt v root) [
  | inl before ↦ done_at_rest rows t h rest v (omega (arith, before, inside)) (λ e. let d = done v before in absurd (cc (sym d.1 ∙ kept v e)))
  | inr le ↦ let here : v ≡ root = omega (arith, le, less) in subst (IsDone t.marks) (sym here) now
]
