-- Each step of a search keeps what holds of it.
use Rattle.fast_order.proofs.Common.{◌≡◌, ◌≢◌, ◌<◌, ◌≤◌, ◌+◌, ◌-◌, ◌⊎◌, inl, inr, ℕ, suc, zero, List, [], ◌∷◌, ◌++◌, length, set, take, drop, Option, Some, None, Vec, Bool, true, false, refl, sym, ap, subst, ◌∙◌, arith, slice_get, Global, cases_eq, cases_lt, slice_get_within, length-set, IsReference, Reaches, one, further, State, visiting, Joins, IsDone, NoneStarts, ToCome, IsNow, IsFollowed, Stands, entered, Mark, Unseen, Open, Done, Visit}

-- ---- elements of lists

pub at_old : {A : Type 0} (xs ys : List A) (i : ℕ) (x : A) → slice_get xs i ≡ Some x → slice_get (xs ++ ys) i ≡ Some x
at_old [] ys i x e = absurd (cc e)
at_old (y ∷ xs) ys zero x e = e
at_old (y ∷ xs) ys (suc i) x e = at_old xs ys i x e

pub at_last : {A : Type 0} (xs : List A) (y : A) → slice_get (xs ++ y ∷ []) (length xs) ≡ Some y
at_last [] y = refl
at_last (z ∷ xs) y = at_last xs y

pub at_push : {A : Type 0} (xs : List A) (y : A) (i : ℕ) (x : A) → slice_get (xs ++ y ∷ []) i ≡ Some x → (slice_get xs i ≡ Some x) ⊎ ((i ≡ length xs) × (x ≡ y))
at_push [] y zero x e = inr (refl, cc)
at_push [] y (suc i) x e = absurd (cc e)
at_push (z ∷ xs) y zero x e = inl e
at_push (z ∷ xs) y (suc i) x e = elim (at_push xs y i x e) [ inl a ↦ inl a | inr b ↦ inr (ap suc b.0, b.1) ]

pub at_append : {A : Type 0} (xs ys : List A) (i : ℕ) (x : A) → slice_get (xs ++ ys) i ≡ Some x → (slice_get xs i ≡ Some x) ⊎ ((j : ℕ) × (i ≡ length xs + j) × (slice_get ys j ≡ Some x))
at_append [] ys i x e = inr (i, omega arith, e)
at_append (z ∷ xs) ys zero x e = inl e
at_append (z ∷ xs) ys (suc i) x e = elim (at_append xs ys i x e) [ inl a ↦ inl a | inr b ↦ inr (b.0, (let k = b.1 in omega (arith, k)), b.2) ]

pub at_right : {A : Type 0} (xs ys : List A) (j : ℕ) (x : A) → slice_get ys j ≡ Some x → slice_get (xs ++ ys) (length xs + j) ≡ Some x
at_right [] ys j x e = rw (let z : 0 + j ≡ j = omega arith in z) e
at_right (z ∷ xs) ys j x e = rw (let k : suc (length xs) + j ≡ suc (length xs + j) = omega arith in k) (at_right xs ys j x e)

pub at_take : {A : Type 0} (n : ℕ) (xs : List A) (i : ℕ) (x : A) → slice_get (take n xs) i ≡ Some x → (slice_get xs i ≡ Some x) × (i < n)
at_take zero [] i x e = absurd (cc e)
at_take (suc n) [] i x e = absurd (cc e)
at_take zero (y ∷ xs) i x e = absurd (cc e)
at_take (suc n) (y ∷ xs) zero x e = (e, omega arith)
at_take (suc n) (y ∷ xs) (suc i) x e = let r = at_take n xs i x e in (r.0, (let k = r.1 in omega (arith, k)))

pub at_taken : {A : Type 0} (n : ℕ) (xs : List A) (i : ℕ) (x : A) → i < n → slice_get xs i ≡ Some x → slice_get (take n xs) i ≡ Some x
at_taken zero xs i x l e = absurd (omega (arith, l))
at_taken (suc n) [] i x l e = absurd (cc e)
at_taken (suc n) (y ∷ xs) zero x l e = e
at_taken (suc n) (y ∷ xs) (suc i) x l e = at_taken n xs i x (omega (arith, l)) e

pub at_drop : {A : Type 0} (n : ℕ) (xs : List A) (j : ℕ) (x : A) → slice_get (drop n xs) j ≡ Some x → slice_get xs (n + j) ≡ Some x
at_drop zero xs j x e = rw (let z : 0 + j ≡ j = omega arith in z) e
at_drop (suc n) [] j x e = absurd (cc e)
at_drop (suc n) (y ∷ xs) j x e = rw (let k : suc n + j ≡ suc (n + j) = omega arith in k) (at_drop n xs j x e)

pub at_dropped : {A : Type 0} (n : ℕ) (xs : List A) (i : ℕ) (x : A) → n ≤ i → slice_get xs i ≡ Some x → slice_get (drop n xs) (i - n) ≡ Some x
at_dropped zero xs i x l e = rw (let z : i - 0 ≡ i = omega arith in z) e
at_dropped (suc n) [] i x l e = absurd (cc e)
at_dropped (suc n) (y ∷ xs) zero x l e = absurd (omega (arith, l))
at_dropped (suc n) (y ∷ xs) (suc i) x l e = rw (let k : suc i - suc n ≡ i - n = omega arith in k) (at_dropped n xs i x (omega (arith, l)) e)

pub at_set_same : {A : Type 0} (xs : List A) (i : ℕ) (y : A) → i < length xs → slice_get (set xs i y) i ≡ Some y
at_set_same [] i y l = absurd (omega (arith, l))
at_set_same (x ∷ xs) zero y l = refl
at_set_same (x ∷ xs) (suc i) y l = at_set_same xs i y (omega (arith, l))

pub at_set_other : {A : Type 0} (xs : List A) (i j : ℕ) (y x : A) → j ≢ i → slice_get xs j ≡ Some x → slice_get (set xs i y) j ≡ Some x
at_set_other [] i j y x n e = absurd (cc e)
at_set_other (z ∷ xs) zero zero y x n e = absurd (n refl)
at_set_other (z ∷ xs) zero (suc j) y x n e = e
at_set_other (z ∷ xs) (suc i) zero y x n e = e
at_set_other (z ∷ xs) (suc i) (suc j) y x n e = at_set_other xs i j y x (λ k. n (ap suc k)) e

pub at_set : {A : Type 0} (xs : List A) (i j : ℕ) (y x : A) → slice_get (set xs i y) j ≡ Some x → ((j ≡ i) × (x ≡ y)) ⊎ (slice_get xs j ≡ Some x)
at_set [] i j y x e = absurd (cc e)
at_set (z ∷ xs) zero zero y x e = inl (refl, cc)
at_set (z ∷ xs) zero (suc j) y x e = inr e
at_set (z ∷ xs) (suc i) zero y x e = inr e
at_set (z ∷ xs) (suc i) (suc j) y x e = elim (at_set xs i j y x e) [ inl a ↦ inl (ap suc a.0, a.1) | inr b ↦ inr b ]

-- two marks of one template are one
pub not_both : {A : Type 0} (xs : List A) (u v : ℕ) (x y : A) → (Some x ≡ Some y → ⊥) → slice_get xs u ≡ Some x → slice_get xs v ≡ Some y → u ≢ v
not_both xs u v x y differ a b = λ same. differ (sym a ∙ ap (slice_get xs) same ∙ b)

-- ---- reaching

pub reaches_on : (rows : List (Vec ℕ Global)) (a b c : ℕ) → Reaches rows a b → Reaches rows b c → Reaches rows a c
reaches_on rows a b c p (one k _ r) = further k b _ p r
reaches_on rows a b c p (further k d _ q r) = further k d _ (reaches_on rows a b d p q) r

pub joins_on : (rows : List (Vec ℕ Global)) (a b c : ℕ) → Joins rows a b → Joins rows b c → Joins rows a c
joins_on rows a b c (inl e) q = subst (λ x. Joins rows x c) (sym e) q
joins_on rows a b c (inr p) (inl e) = inr (subst (Reaches rows a) e p)
joins_on rows a b c (inr p) (inr q) = inr (reaches_on rows a b c p q)

pub joins_reference : (rows : List (Vec ℕ Global)) (a b k c : ℕ) → Joins rows a b → IsReference rows b k c → Reaches rows a c
joins_reference rows a b k c (inl e) r = one k c (subst (λ x. IsReference rows x k c) (sym e) r)
joins_reference rows a b k c (inr p) r = further k b c p r

pub reaches_joins : (rows : List (Vec ℕ Global)) (a b c : ℕ) → Reaches rows a b → Joins rows b c → Reaches rows a c
reaches_joins rows a b c p (inl e) = subst (Reaches rows a) e p
reaches_joins rows a b c p (inr q) = reaches_on rows a b c p q

-- what is done leads only to what is done
pub done_onwards : (rows : List (Vec ℕ Global)) (marks : List Mark) (u v : ℕ) → ((v k w : ℕ) → IsDone marks v → IsReference rows v k w → IsDone marks w) → ((k w : ℕ) → IsReference rows u k w → IsDone marks w) → Reaches rows u v → IsDone marks v
done_onwards rows marks u v closed_so out (one k _ r) = out k _ r
done_onwards rows marks u v closed_so out (further k b _ p r) = closed_so b k _ (done_onwards rows marks u b closed_so out p) r

-- ---- one reference more is followed

-- the reference is taken from the last on the path
pub advanced : (rows : List (Vec ℕ Global)) (s : State) (x y : Visit) → y.node ≡ x.node → y.place ≡ x.place → y.next ≡ x.next + 1 → Stands rows (visiting s x) None → Stands rows (visiting s y) (Some x)
advanced rows s x y node place next h = record {
  marks_len = h.marks_len;
  opened_marked = h.opened_marked;
  marked_opened = h.marked_opened;
  joins = h.joins;
  explored = λ i k u w at ref. explored_so i k u w (h.explored i k u w at ref);
  visits = λ p z at. visits_so p z (at_push s.path y p z at);
  rising = λ p q a b at_a at_b less. rising_so p q a b (at_push s.path y p a at_a) (at_push s.path y q b at_b) less;
  starts_visited = λ p b at. visited_so p b (h.starts_visited p b at);
  starts_rising = h.starts_rising;
  first_starts = h.first_starts;
  done_closed = h.done_closed;
  judged = h.judged;
  placed = h.placed;
  behind = h.behind;
  ordered = h.ordered;
  once = h.once;
} where
  to_come_or_now : (i k : ℕ) → ToCome (s.path ++ x ∷ []) i k → IsNow (Some x) i k ⊎ ToCome (s.path ++ y ∷ []) i k
  to_come_or_now i k (p, z, at, there, le) = elim (at_push s.path x p z at) [
    | inl a ↦ inr (p, z, at_old s.path (y ∷ []) p z a, there, le)
    | inr b ↦ last_one (ap (λ v. v.place) (sym b.1) ∙ there) (subst (λ v. v.next ≤ k) b.1 le)
  ]
    where
      last_one : x.place ≡ i → x.next ≤ k → IsNow (Some x) i k ⊎ ToCome (s.path ++ y ∷ []) i k
      last_one there_x le_x = elim (cases_eq x.next k) [
        | inl e ↦ inl (there_x, e)
        | inr n ↦ inr (length s.path, y, at_last s.path y, place ∙ there_x, omega (arith, le_x, n, next))
      ]

  explored_so : (i k u w : ℕ) → (⊥ ⊎ ToCome (s.path ++ x ∷ []) i k) ⊎ IsFollowed s.marks s.starts i w → (IsNow (Some x) i k ⊎ ToCome (s.path ++ y ∷ []) i k) ⊎ IsFollowed s.marks s.starts i w
  explored_so i k u w (inl (inl never)) = absurd never
  explored_so i k u w (inl (inr c)) = inl (to_come_or_now i k c)
  explored_so i k u w (inr f) = inr f

  visits_so : (p : ℕ) (z : Visit) → (slice_get s.path p ≡ Some z) ⊎ ((p ≡ length s.path) × (z ≡ y)) → slice_get s.opened z.place ≡ Some z.node
  visits_so p z (inl a) = h.visits p z (at_old s.path (x ∷ []) p z a)
  visits_so p z (inr b) =
      let at_x : slice_get s.opened x.place ≡ Some x.node = h.visits (length s.path) x (at_last s.path x) in
      ap (λ v. slice_get s.opened v.place) b.1 ∙ ap (slice_get s.opened) place ∙ at_x ∙ ap Some (sym node) ∙ ap (λ v. Some v.node) (sym b.1)

  rising_so : (p q : ℕ) (a b : Visit) → (slice_get s.path p ≡ Some a) ⊎ ((p ≡ length s.path) × (a ≡ y)) → (slice_get s.path q ≡ Some b) ⊎ ((q ≡ length s.path) × (b ≡ y)) → p < q → a.place < b.place
  rising_so p q a b (inl e) (inl f) less = h.rising p q a b (at_old s.path (x ∷ []) p a e) (at_old s.path (x ∷ []) q b f) less
  rising_so p q a b (inl e) (inr f) less =
      let below : a.place < x.place = h.rising p (length s.path) a x (at_old s.path (x ∷ []) p a e) (at_last s.path x) (subst (λ n. p < n) f.0 less) in
      subst (λ n. a.place < n) (sym place ∙ ap (λ v. v.place) (sym f.1)) below
  rising_so p q a b (inr e) (inl f) less = let inside : q < length s.path = slice_get_within s.path q b f in absurd (omega (arith, e.0, inside, less))
  rising_so p q a b (inr e) (inr f) less = absurd (omega (arith, e.0, f.0, less))

  visited_so : (p b : ℕ) → ((q : ℕ) × (z : Visit) × (slice_get (s.path ++ x ∷ []) q ≡ Some z) × (z.place ≡ b)) → (q : ℕ) × (z : Visit) × (slice_get (s.path ++ y ∷ []) q ≡ Some z) × (z.place ≡ b)
  visited_so p b (q, z, at, there) = elim (at_push s.path x q z at) [
    | inl a ↦ (q, z, at_old s.path (y ∷ []) q z a, there)
    | inr l ↦ (length s.path, y, at_last s.path y, place ∙ ap (λ v. v.place) (sym l.1) ∙ there)
  ]

-- it led where it may
pub resolved : (rows : List (Vec ℕ Global)) (s : State) (x : Visit) → ((u w : ℕ) → slice_get s.opened x.place ≡ Some u → IsReference rows u x.next w → IsFollowed s.marks s.starts x.place w) → Stands rows s (Some x) → Stands rows s None
resolved rows s x followed h = record {
  marks_len = h.marks_len;
  opened_marked = h.opened_marked;
  marked_opened = h.marked_opened;
  joins = h.joins;
  explored = λ i k u w at ref. explored_so i k u w at ref (h.explored i k u w at ref);
  visits = h.visits;
  rising = h.rising;
  starts_visited = h.starts_visited;
  starts_rising = h.starts_rising;
  first_starts = h.first_starts;
  done_closed = h.done_closed;
  judged = h.judged;
  placed = h.placed;
  behind = h.behind;
  ordered = h.ordered;
  once = h.once;
} where
  explored_so : (i k u w : ℕ) → slice_get s.opened i ≡ Some u → IsReference rows u k w → (IsNow (Some x) i k ⊎ ToCome s.path i k) ⊎ IsFollowed s.marks s.starts i w → (⊥ ⊎ ToCome s.path i k) ⊎ IsFollowed s.marks s.starts i w
  explored_so i k u w at ref (inl (inl n)) =
      let at_x : slice_get s.opened x.place ≡ Some u = ap (slice_get s.opened) n.0 ∙ at in
      let ref_x : IsReference rows u x.next w = subst (λ m. IsReference rows u m w) (sym n.1) ref in
      inr (subst (λ m. IsFollowed s.marks s.starts m w) n.0 (followed u w at_x ref_x))
  explored_so i k u w at ref (inl (inr c)) = inl (inr c)
  explored_so i k u w at ref (inr f) = inr f

-- ---- one more is opened

pub opened_one : (rows : List (Vec ℕ Global)) (s : State) (v : ℕ) (now : Option Visit) → slice_get s.marks v ≡ Some Unseen → ((i u : ℕ) → slice_get s.opened i ≡ Some u → Joins rows u v) → Stands rows s now → Stands rows (entered v s) now
opened_one rows s v now new parent h = record {
  marks_len = length-set s.marks v (Open (length s.opened)) ∙ h.marks_len;
  opened_marked = λ i u at. marked_so i u (at_push s.opened v i u at);
  marked_opened = λ i u at. opened_so i u (at_set s.marks v u (Open (length s.opened)) (Open i) at);
  joins = λ i j u w at_i at_j none. joins_so i j u w (at_push s.opened v i u at_i) (at_push s.opened v j w at_j) none;
  explored = λ i k u w at ref. explored_so i k u w ref (at_push s.opened v i u at);
  visits = λ p x at. visits_so p x (at_push s.path mine p x at);
  rising = λ p q x y at_x at_y less. rising_so p q x y (at_push s.path mine p x at_x) (at_push s.path mine q y at_y) less;
  starts_visited = λ p b at. visited_so p b (at_push s.starts (length s.opened) p b at);
  starts_rising = λ p q b c at_b at_c less. starts_so p q b c (at_push s.starts (length s.opened) p b at_b) (at_push s.starts (length s.opened) q c at_c) less;
  first_starts = λ some. first_so (cases_eq (length s.opened) 0);
  done_closed = λ u k w done ref. kept w (h.done_closed u k w (done_before u done) ref);
  judged = λ u. (λ at. (h.judged u).0 (still_done u true at), λ at. (h.judged u).1 (still_done u false at));
  placed = λ u done. h.placed u (done_before u done);
  behind = h.behind;
  ordered = λ p u at. kept u (h.ordered p u at);
  once = h.once;
} where
  mine : Visit
  mine = record { node = v; place = length s.opened; next = 0 }

  v_within : v < length s.marks
  v_within = slice_get_within s.marks v Unseen new

  not_v : (u i : ℕ) → slice_get s.marks u ≡ Some (Open i) → u ≢ v
  not_v u i at = not_both s.marks u v (Open i) Unseen (λ e. absurd (cc e)) at new

  kept_open : (u i : ℕ) → slice_get s.marks u ≡ Some (Open i) → slice_get (set s.marks v (Open (length s.opened))) u ≡ Some (Open i)
  kept_open u i at = at_set_other s.marks v u (Open (length s.opened)) (Open i) (not_v u i at) at

  kept : (w : ℕ) → IsDone s.marks w → IsDone (set s.marks v (Open (length s.opened))) w
  kept w (b, at) = (b, at_set_other s.marks v w (Open (length s.opened)) (Done b) (not_both s.marks w v (Done b) Unseen (λ e. absurd (cc e)) at new) at)

  still_done : (u : ℕ) (b : Bool) → slice_get (set s.marks v (Open (length s.opened))) u ≡ Some (Done b) → slice_get s.marks u ≡ Some (Done b)
  still_done u b at = elim (at_set s.marks v u (Open (length s.opened)) (Done b) at) [ inl e ↦ absurd (cc e.1) | inr a ↦ a ]

  done_before : (u : ℕ) → IsDone (set s.marks v (Open (length s.opened))) u → IsDone s.marks u
  done_before u (b, at) = (b, still_done u b at)

  marked_so : (i u : ℕ) → (slice_get s.opened i ≡ Some u) ⊎ ((i ≡ length s.opened) × (u ≡ v)) → slice_get (set s.marks v (Open (length s.opened))) u ≡ Some (Open i)
  marked_so i u (inl a) = kept_open u i (h.opened_marked i u a)
  marked_so i u (inr b) = ap (slice_get (set s.marks v (Open (length s.opened)))) b.1 ∙ at_set_same s.marks v (Open (length s.opened)) v_within ∙ ap (λ n. Some (Open n)) (sym b.0)

  opened_so : (i u : ℕ) → ((u ≡ v) × (Open i ≡ Open (length s.opened))) ⊎ (slice_get s.marks u ≡ Some (Open i)) → slice_get (s.opened ++ v ∷ []) i ≡ Some u
  opened_so i u (inl b) =
      let here : i ≡ length s.opened = cc (b.1) in
      ap (slice_get (s.opened ++ v ∷ [])) here ∙ at_last s.opened v ∙ ap Some (sym b.0)
  opened_so i u (inr a) = at_old s.opened (v ∷ []) i u (h.marked_opened i u a)

  joins_so : (i j u w : ℕ) → (slice_get s.opened i ≡ Some u) ⊎ ((i ≡ length s.opened) × (u ≡ v)) → (slice_get s.opened j ≡ Some w) ⊎ ((j ≡ length s.opened) × (w ≡ v)) → NoneStarts (s.starts ++ length s.opened ∷ []) j i → Joins rows u w
  joins_so i j u w (inl a) (inl b) none = h.joins i j u w a b (λ p c at. none p c (at_old s.starts (length s.opened ∷ []) p c at))
  joins_so i j u w (inl a) (inr b) none = subst (Joins rows u) (sym b.1) (parent i u a)
  joins_so i j u w (inr a) (inl b) none =
      let inside : j < length s.opened = slice_get_within s.opened j w b in
      elim (none (length s.starts) (length s.opened) (at_last s.starts (length s.opened))) [
        | inl le ↦ absurd (omega (arith, le, inside))
        | inr gt ↦ absurd (omega (arith, gt, a.0))
      ]
  joins_so i j u w (inr a) (inr b) none = inl (a.1 ∙ sym b.1)

  to_come_so : (i k : ℕ) → ToCome s.path i k → ToCome (s.path ++ mine ∷ []) i k
  to_come_so i k (p, x, at, there, le) = (p, x, at_old s.path (mine ∷ []) p x at, there, le)

  followed_so : (i w : ℕ) → i < length s.opened → IsFollowed s.marks s.starts i w → IsFollowed (set s.marks v (Open (length s.opened))) (s.starts ++ length s.opened ∷ []) i w
  followed_so i w inside (inl done) = inl (kept w done)
  followed_so i w inside (inr (j, at, above)) = inr (j, kept_open w j at, λ p b at_b le. above_so p b (at_push s.starts (length s.opened) p b at_b) le)
    where
      above_so : (p b : ℕ) → (slice_get s.starts p ≡ Some b) ⊎ ((p ≡ length s.starts) × (b ≡ length s.opened)) → b ≤ i → b ≤ j
      above_so p b (inl a) le = above p b a le
      above_so p b (inr e) le = absurd (omega (arith, e.1, inside, le))

  explored_so : (i k u w : ℕ) → IsReference rows u k w → (slice_get s.opened i ≡ Some u) ⊎ ((i ≡ length s.opened) × (u ≡ v)) → (IsNow now i k ⊎ ToCome (s.path ++ mine ∷ []) i k) ⊎ IsFollowed (set s.marks v (Open (length s.opened))) (s.starts ++ length s.opened ∷ []) i w
  explored_so i k u w ref (inl a) = elim (h.explored i k u w a ref) [
    | inl c ↦ elim c [ inl n ↦ inl (inl n) | inr t ↦ inl (inr (to_come_so i k t)) ]
    | inr f ↦ inr (followed_so i w (slice_get_within s.opened i u a) f)
  ]
  explored_so i k u w ref (inr b) = inl (inr (length s.path, mine, at_last s.path mine, sym b.0, omega arith))

  visits_so : (p : ℕ) (x : Visit) → (slice_get s.path p ≡ Some x) ⊎ ((p ≡ length s.path) × (x ≡ mine)) → slice_get (s.opened ++ v ∷ []) x.place ≡ Some x.node
  visits_so p x (inl a) = at_old s.opened (v ∷ []) x.place x.node (h.visits p x a)
  visits_so p x (inr b) = subst (λ z. slice_get (s.opened ++ v ∷ []) z.place ≡ Some z.node) (sym b.1) (at_last s.opened v)

  visit_below : (p : ℕ) (x : Visit) → slice_get s.path p ≡ Some x → x.place < length s.opened
  visit_below p x at = slice_get_within s.opened x.place x.node (h.visits p x at)

  rising_so : (p q : ℕ) (x y : Visit) → (slice_get s.path p ≡ Some x) ⊎ ((p ≡ length s.path) × (x ≡ mine)) → (slice_get s.path q ≡ Some y) ⊎ ((q ≡ length s.path) × (y ≡ mine)) → p < q → x.place < y.place
  rising_so p q x y (inl e) (inl f) less = h.rising p q x y e f less
  rising_so p q x y (inl e) (inr f) less = subst (λ z. x.place < z.place) (sym f.1) (visit_below p x e)
  rising_so p q x y (inr e) (inl f) less = let inside : q < length s.path = slice_get_within s.path q y f in absurd (omega (arith, e.0, inside, less))
  rising_so p q x y (inr e) (inr f) less = absurd (omega (arith, e.0, f.0, less))

  visited_so : (p b : ℕ) → (slice_get s.starts p ≡ Some b) ⊎ ((p ≡ length s.starts) × (b ≡ length s.opened)) → (q : ℕ) × (x : Visit) × (slice_get (s.path ++ mine ∷ []) q ≡ Some x) × (x.place ≡ b)
  visited_so p b (inl a) = let r = h.starts_visited p b a in (r.0, r.1, at_old s.path (mine ∷ []) r.0 r.1 r.2, r.3)
  visited_so p b (inr e) = (length s.path, mine, at_last s.path mine, sym e.1)

  starts_so : (p q b c : ℕ) → (slice_get s.starts p ≡ Some b) ⊎ ((p ≡ length s.starts) × (b ≡ length s.opened)) → (slice_get s.starts q ≡ Some c) ⊎ ((q ≡ length s.starts) × (c ≡ length s.opened)) → p < q → b < c
  starts_so p q b c (inl e) (inl f) less = h.starts_rising p q b c e f less
  starts_so p q b c (inl e) (inr f) less =
      let r = h.starts_visited p b e in
      let below : r.1.place < length s.opened = visit_below r.0 r.1 r.2 in
      omega (arith, below, r.3, f.1)
  starts_so p q b c (inr e) (inl f) less = let inside : q < length s.starts = slice_get_within s.starts q c f in absurd (omega (arith, e.0, inside, less))
  starts_so p q b c (inr e) (inr f) less = absurd (omega (arith, e.0, f.0, less))

  first_so : (length s.opened ≡ 0) ⊎ (length s.opened ≢ 0) → (p : ℕ) × (slice_get (s.starts ++ length s.opened ∷ []) p ≡ Some 0)
  first_so (inl e) = (length s.starts, at_last s.starts (length s.opened) ∙ ap Some e)
  first_so (inr n) = let r = h.first_starts (omega (arith, n)) in (r.0, at_old s.starts (length s.opened ∷ []) r.0 0 r.1)

-- ---- groups are joined

-- a start behind j up to i, or none
none_or_one : (starts : List ℕ) (j i : ℕ) → NoneStarts starts j i ⊎ ((p : ℕ) × (b : ℕ) × (slice_get starts p ≡ Some b) × (j < b) × (b ≤ i))
none_or_one [] j i = inl (λ p b at. absurd (cc at))
none_or_one (c ∷ starts) j i = elim (none_or_one starts j i) [
  | inl none ↦ elim (cases_lt j c) [
    | inl behind_j ↦ elim (cases_lt i c) [ inl past ↦ inl (with_first none (inr past)) | inr up_to ↦ inr (0, c, refl, behind_j, up_to) ]
    | inr le ↦ inl (with_first none (inl le))
  ]
  | inr r ↦ inr (suc r.0, r.1, r.2, r.3, r.4)
]
  where
    with_first : NoneStarts starts j i → (c ≤ j) ⊎ (i < c) → NoneStarts (c ∷ starts) j i
    with_first none own zero b at = let e : c ≡ b = cc (at) in elim own [ inl le ↦ inl (omega (arith, e, le)) | inr gt ↦ inr (omega (arith, e, gt)) ]
    with_first none own (suc p) b at = none p b at

-- the starts above a place that a reference of the last on the path leads to are dropped
pub lowered : (rows : List (Vec ℕ Global)) (s t : State) (now : Option Visit) (i0 u0 k0 q w0 : ℕ) →
    t.marks ≡ s.marks → t.opened ≡ s.opened → t.path ≡ s.path → t.order ≡ s.order →
    ((p b : ℕ) → slice_get t.starts p ≡ Some b → (slice_get s.starts p ≡ Some b) × (b ≤ q)) →
    ((p b : ℕ) → slice_get s.starts p ≡ Some b → (slice_get t.starts p ≡ Some b) ⊎ (q < b)) →
    slice_get s.opened i0 ≡ Some u0 → IsReference rows u0 k0 w0 → slice_get s.marks w0 ≡ Some (Open q) →
    ((p b : ℕ) → slice_get s.starts p ≡ Some b → b ≤ i0) →
    Stands rows s now → Stands rows t now
lowered rows s t now i0 u0 k0 q w0 marks opened path order rest gone at_i0 ref0 at_w0 below h = record {
  marks_len = ap length marks ∙ h.marks_len;
  opened_marked = λ i v at. ap (λ m. slice_get m v) marks ∙ h.opened_marked i v (sym (ap (λ o. slice_get o i) opened) ∙ at);
  marked_opened = λ i v at. ap (λ o. slice_get o i) opened ∙ h.marked_opened i v (sym (ap (λ m. slice_get m v) marks) ∙ at);
  joins = λ i j u v at_u at_v none. joins_so i j u v (sym (ap (λ o. slice_get o i) opened) ∙ at_u) (sym (ap (λ o. slice_get o j) opened) ∙ at_v) none (none_or_one s.starts j i);
  explored = λ i k u w at ref. explored_so i k w (h.explored i k u w (sym (ap (λ o. slice_get o i) opened) ∙ at) ref);
  visits = λ p x at. ap (λ o. slice_get o x.place) opened ∙ h.visits p x (sym (ap (λ o. slice_get o p) path) ∙ at);
  rising = λ p r x y at_x at_y less. h.rising p r x y (sym (ap (λ o. slice_get o p) path) ∙ at_x) (sym (ap (λ o. slice_get o r) path) ∙ at_y) less;
  starts_visited = λ p b at. let r = h.starts_visited p b (rest p b at).0 in (r.0, r.1, ap (λ o. slice_get o r.0) path ∙ r.2, r.3);
  starts_rising = λ p r b c at_b at_c less. h.starts_rising p r b c (rest p b at_b).0 (rest r c at_c).0 less;
  first_starts = λ some. first_so (h.first_starts (subst (λ o. 0 < length o) opened some));
  done_closed = λ v k w done ref. done_now w (h.done_closed v k w (done_then v done) ref);
  judged = λ v. (λ at. (h.judged v).0 (sym (ap (λ m. slice_get m v) marks) ∙ at), λ at. (h.judged v).1 (sym (ap (λ m. slice_get m v) marks) ∙ at));
  placed = λ v done. let r = h.placed v (done_then v done) in (r.0, ap (λ o. slice_get o r.0) order ∙ r.1);
  behind = λ p v k w at ref. elim (h.behind p v k w (sym (ap (λ o. slice_get o p) order) ∙ at) ref) [ inl cycle ↦ inl cycle | inr r ↦ inr (r.0, r.1, ap (λ o. slice_get o r.0) order ∙ r.2) ];
  ordered = λ p v at. done_now v (h.ordered p v (sym (ap (λ o. slice_get o p) order) ∙ at));
  once = λ p r v at_p at_r. h.once p r v (sym (ap (λ o. slice_get o p) order) ∙ at_p) (sym (ap (λ o. slice_get o r) order) ∙ at_r);
} where
  done_now : (v : ℕ) → IsDone s.marks v → IsDone t.marks v
  done_now v (b, at) = (b, ap (λ m. slice_get m v) marks ∙ at)

  done_then : (v : ℕ) → IsDone t.marks v → IsDone s.marks v
  done_then v (b, at) = (b, sym (ap (λ m. slice_get m v) marks) ∙ at)

  joins_so : (i j u v : ℕ) → slice_get s.opened i ≡ Some u → slice_get s.opened j ≡ Some v → NoneStarts t.starts j i → NoneStarts s.starts j i ⊎ ((p : ℕ) × (b : ℕ) × (slice_get s.starts p ≡ Some b) × (j < b) × (b ≤ i)) → Joins rows u v
  joins_so i j u v at_u at_v none (inl before) = h.joins i j u v at_u at_v before
  joins_so i j u v at_u at_v none (inr (p, b, at_b, behind_j, up_to)) = elim (gone p b at_b) [
    | inl stays ↦ elim (none p b stays) [ inl le ↦ absurd (omega (arith, le, behind_j)) | inr gt ↦ absurd (omega (arith, gt, up_to)) ]
    | inr above ↦ inr (round above)
  ]
    where
      up : Joins rows u u0
      up = h.joins i i0 u u0 at_u at_i0 (λ r c at. inl (below r c at))

      none_from_q : q < b → NoneStarts s.starts j q
      none_from_q above r c at = elim (gone r c at) [
        | inl stays ↦ elim (none r c stays) [ inl le ↦ inl le | inr gt ↦ inr (omega (arith, gt, up_to, above)) ]
        | inr past ↦ inr past
      ]

      round : q < b → Reaches rows u v
      round above = reaches_joins rows u w0 v (joins_reference rows u u0 k0 w0 up ref0) (h.joins q j w0 v (h.marked_opened q w0 at_w0) at_v (none_from_q above))

  explored_so : (i k w : ℕ) → (IsNow now i k ⊎ ToCome s.path i k) ⊎ IsFollowed s.marks s.starts i w → (IsNow now i k ⊎ ToCome t.path i k) ⊎ IsFollowed t.marks t.starts i w
  explored_so i k w (inl (inl n)) = inl (inl n)
  explored_so i k w (inl (inr (p, x, at, there, le))) = inl (inr (p, x, ap (λ o. slice_get o p) path ∙ at, there, le))
  explored_so i k w (inr (inl done)) = inr (inl (done_now w done))
  explored_so i k w (inr (inr (j, at, above))) = inr (inr (j, ap (λ m. slice_get m w) marks ∙ at, λ p b at_b le. above p b (rest p b at_b).0 le))

  first_so : ((p : ℕ) × (slice_get s.starts p ≡ Some 0)) → (p : ℕ) × (slice_get t.starts p ≡ Some 0)
  first_so (p, at) = elim (gone p 0 at) [ inl a ↦ (p, a) | inr never ↦ absurd (omega (arith, never)) ]

-- ---- one is left

-- whose references were all followed
abbrev pub IsThrough : List (Vec ℕ Global) → Visit → Type 0
IsThrough rows x = (k w : ℕ) → IsReference rows x.node k w → k < x.next

-- what is open at the place of the last on the path and above has no reference to come
pub nothing_to_come : (rows : List (Vec ℕ Global)) (s : State) (x : Visit) → IsThrough rows x → Stands rows (visiting s x) None → (i k u w : ℕ) → x.place ≤ i → slice_get s.opened i ≡ Some u → IsReference rows u k w → ¬ (ToCome (s.path ++ x ∷ []) i k)
nothing_to_come rows s x through h i k u w le at ref (p, y, at_y, there, next) = elim (at_push s.path x p y at_y) [
  | inl a ↦
      let inside : p < length s.path = slice_get_within s.path p y a in
      let less : y.place < x.place = h.rising p (length s.path) y x at_y (at_last s.path x) inside in
      absurd (omega (arith, less, there, le))
  | inr b ↦
      let place : x.place ≡ i = ap (λ z. z.place) (sym b.1) ∙ there in
      let at_x : slice_get s.opened x.place ≡ Some x.node = h.visits (length s.path) x (at_last s.path x) in
      let same : u ≡ x.node = cc (sym at ∙ ap (slice_get s.opened) (sym place) ∙ at_x) in
      let past : k < x.next = through k w (subst (λ z. IsReference rows z k w) same ref) in
      let still : x.next ≤ k = subst (λ z. z.next ≤ k) b.1 next in
      absurd (omega (arith, past, still))
]

-- not the first of a group
pub left : (rows : List (Vec ℕ Global)) (s : State) (x : Visit) → IsThrough rows x → ((p b : ℕ) → slice_get s.starts p ≡ Some b → b ≢ x.place) → Stands rows (visiting s x) None → Stands rows s None
left rows s x through no_start h = record {
  marks_len = h.marks_len;
  opened_marked = h.opened_marked;
  marked_opened = h.marked_opened;
  joins = h.joins;
  explored = λ i k u w at ref. explored_so i k u w at ref (h.explored i k u w at ref);
  visits = λ p z at. h.visits p z (at_old s.path (x ∷ []) p z at);
  rising = λ p q a b at_a at_b less. h.rising p q a b (at_old s.path (x ∷ []) p a at_a) (at_old s.path (x ∷ []) q b at_b) less;
  starts_visited = λ p b at. visited_so p b at (h.starts_visited p b at);
  starts_rising = h.starts_rising;
  first_starts = h.first_starts;
  done_closed = h.done_closed;
  judged = h.judged;
  placed = h.placed;
  behind = h.behind;
  ordered = h.ordered;
  once = h.once;
} where
  explored_so : (i k u w : ℕ) → slice_get s.opened i ≡ Some u → IsReference rows u k w → (⊥ ⊎ ToCome (s.path ++ x ∷ []) i k) ⊎ IsFollowed s.marks s.starts i w → (⊥ ⊎ ToCome s.path i k) ⊎ IsFollowed s.marks s.starts i w
  explored_so i k u w at ref (inl (inl never)) = absurd never
  explored_so i k u w at ref (inl (inr (p, y, at_y, there, next))) = elim (at_push s.path x p y at_y) [
    | inl a ↦ inl (inr (p, y, a, there, next))
    | inr b ↦
        let place : x.place ≤ i = let e : x.place ≡ i = ap (λ z. z.place) (sym b.1) ∙ there in omega (arith, e) in
        absurd (nothing_to_come rows s x through h i k u w place at ref (p, y, at_y, there, next))
  ]
  explored_so i k u w at ref (inr f) = inr f

  visited_so : (p b : ℕ) → slice_get s.starts p ≡ Some b → ((q : ℕ) × (z : Visit) × (slice_get (s.path ++ x ∷ []) q ≡ Some z) × (z.place ≡ b)) → (q : ℕ) × (z : Visit) × (slice_get s.path q ≡ Some z) × (z.place ≡ b)
  visited_so p b at (q, z, at_z, there) = elim (at_push s.path x q z at_z) [
    | inl a ↦ (q, z, a, there)
    | inr l ↦ absurd (no_start p b at (sym there ∙ ap (λ v. v.place) l.1))
  ]
