-- A set that is built from templates that no check fails.
use Rattle.fast_load.proofs.Common.{◌≡◌, ◌≤◌, ◌<◌, ◌+◌, ℕ, zero, suc, List, [], ◌∷◌, ◌++◌, length, map, take, drop, option_map, Option, Some, None, ◌⊎◌, inl, inr, refl, sym, ap, ap₂, subst, ◌∙◌, arith, slice_get, slice_index_or, AllPairs, Contains, IsSome, AllByRecursion, AllZip, slice_get_within, slice_get-get_or, slice_get-map, length-map, take_all, drop_all, append-nil, Key, FlatTemplate, Template, WrittenInstruction, WrittenInstructions, written_field, written_parts, written_group, written_sequence, written_reference, no_written, then_written, WrittenTemplate, written_template_of, listed, Instructions, Resolved, resolved_of, size_of, depth_of, keys_of, numbered, with_keys, AreFlatLists, Resolves, AreResolved, HaveTypedParts, IsNumbered, Differ, AreSound, HasSlots, identifier_key, keys_of_all, size_of_all, Check, few_templates, names_well_made, name_new, id_new, operator_allowed, constant_has_value, default_has_value, value_spelled, reference_known, off_cycles, nests_little, sum_small, IsInstructionAt, IsAccepted, size_up_to, Fails, phase_of, Passes, EachReference, EachReferenceOne, IsBehind, IsBuildOrder, references_in, references_in_one, AreFlattened, settled, AreSettled, at_append}
use Rattle.fast_load.proofs.LinkOrder.{named_there, listed_to}
use Rattle.fast_load.proofs.SettledSound.{typed_settled, size_settled, depth_settled, in_order_settled}
use Rattle.fast_load.proofs.TypedLists.{template_typed}
use Rattle.fast_load.proofs.WrittenTexts.{template_has_texts}
use Rattle.fast_load.proofs.BareLists.{AreBare, template_bare}
use Rattle.fast_load.proofs.PhaseOrder.{PassesBefore, and_this}

-- ---- no check fails

below_seven : (c : Check) → phase_of c < 7
below_seven few_templates = omega arith
below_seven (names_well_made t i) = omega arith
below_seven (name_new t) = omega arith
below_seven (id_new t) = omega arith
below_seven (operator_allowed t i q) = omega arith
below_seven (constant_has_value t i q) = omega arith
below_seven (default_has_value t i q) = omega arith
below_seven (value_spelled t i q) = omega arith
below_seven (reference_known t i) = omega arith
below_seven (off_cycles t) = omega arith
below_seven (nests_little t) = omega arith
below_seven (sum_small t) = omega arith

pub accepted : (ts : List WrittenTemplate) → PassesBefore ts 5 → Passes ts 5 → Passes ts 6 → IsAccepted ts
accepted ts before cycles limits c = and_this ts 6 (and_this ts 5 before cycles) limits (phase_of c) (below_seven c) c refl

-- ---- along references

mutual
  each_one_at : (P : List ℕ → Type 0) (i : WrittenInstruction) → EachReferenceOne P i → (j : ℕ) (name : List ℕ) → slice_get (references_in_one i) j ≡ Some name → P name
  each_one_at P (written_field n kind presence operation) each j name at = absurd (cc at)
  each_one_at P (written_parts n presence exponent mantissa) each j name at = absurd (cc at)
  each_one_at P (written_group n presence around members) each j name at = each_at P members each j name at
  each_one_at P (written_sequence n presence around length_name len members) each j name at = each_at P members each j name at
  each_one_at P (written_reference n) each zero name at = let same : n ≡ name = cc (at) in subst P same each
  each_one_at P (written_reference n) each (suc j) name at = absurd (cc at)

  each_at : (P : List ℕ → Type 0) (is : WrittenInstructions) → EachReference P is → (j : ℕ) (name : List ℕ) → slice_get (references_in is) j ≡ Some name → P name
  each_at P no_written each j name at = absurd (cc at)
  each_at P (then_written i is) each j name at = elim (at_append (references_in_one i) (references_in is) j name at) [
    | inl a ↦ each_one_at P i each.0 j name a
    | inr m ↦ each_at P is each.1 m.0 name m.2
  ]

-- what goes from the lists of references to the list of a template holds of each template's
module _ (ts : List WrittenTemplate) (order : List ℕ) (o : IsBuildOrder ts order) (stands : List ℕ → Instructions) (P : Instructions → Type 0) (step : (a : ℕ) (w : WrittenTemplate) → slice_get ts a ≡ Some w → ((i : ℕ) (name : List ℕ) → slice_get (listed w.members) i ≡ Some (written_reference name) → P (stands name)) → P (stands w.name)) where
  along : (n p a : ℕ) (w : WrittenTemplate) → p < n → slice_get order p ≡ Some a → slice_get ts a ≡ Some w → P (stands w.name)
  along zero p a w less at_p at_a = absurd (omega (arith, less))
  along (suc n) p a w less at_p at_a = step a w at_a (λ i name at_i. behind (along n) (each_at (IsBehind ts order p) w.members (o.behind p a w at_p at_a) (listed_to w.members i name at_i).0 name (listed_to w.members i name at_i).1))
    where
      behind : {name : List ℕ} → ((q b : ℕ) (v : WrittenTemplate) → q < n → slice_get order q ≡ Some b → slice_get ts b ≡ Some v → P (stands v.name)) → IsBehind ts order p name → P (stands name)
      behind {name} before (b, q, placed, under, at_q) =
          let t = named_there ts name b placed in
          subst (λ m. P (stands m)) t.2 (before q b t.0 (omega (arith, under, less)) at_q t.1)

  along_all : (a : ℕ) (w : WrittenTemplate) → slice_get ts a ≡ Some w → P (stands w.name)
  along_all a w at = let p = o.complete a (slice_get_within ts a w at) in along (suc p.0) p.0 a w (omega arith) p.1 at

-- ---- lists side by side

zip_at : {A B : Type 0} (R : A → B → Type 0) (xs : List A) (ys : List B) (i : ℕ) (y : B) → AllZip R xs ys → slice_get ys i ≡ Some y → (x : A) × (slice_get xs i ≡ Some x) × R x y
zip_at R [] [] i y all at = absurd (cc at)
zip_at R [] (z ∷ ys) i y all at = absurd all
zip_at R (x ∷ xs) [] i y all at = absurd all
zip_at R (x ∷ xs) (z ∷ ys) zero y all at = let same : z ≡ y = cc (at) in (x, refl, subst (R x) same all.0)
zip_at R (x ∷ xs) (z ∷ ys) (suc i) y all at = zip_at R xs ys i y all.1 at

zip_from : {A B : Type 0} (R : A → B → Type 0) (xs : List A) (ys : List B) → length ys ≡ length xs → ((i : ℕ) (x : A) (y : B) → slice_get xs i ≡ Some x → slice_get ys i ≡ Some y → R x y) → AllZip R xs ys
zip_from R [] [] len each = tt
zip_from R [] (y ∷ ys) len each = absurd (omega (arith, len))
zip_from R (x ∷ xs) [] len each = absurd (omega (arith, len))
zip_from R (x ∷ xs) (y ∷ ys) len each = (each 0 x y refl refl, zip_from R xs ys (omega (arith, len)) (λ i v z at_v at_z. each (suc i) v z at_v at_z))

zip_map : {A B : Type 0} (R S : A → B → Type 0) (f : B → B) (xs : List A) (ys : List B) → ((x : A) (y : B) → R x y → S x (f y)) → AllZip R xs ys → AllZip S xs (map f ys)
zip_map R S f [] [] so all = tt
zip_map R S f [] (y ∷ ys) so all = absurd all
zip_map R S f (x ∷ xs) [] so all = absurd all
zip_map R S f (x ∷ xs) (y ∷ ys) so all = (so x y all.0, zip_map R S f xs ys so all.1)

all_from : {A B : Type 0} (R : A → B → Type 0) (P : B → Type 0) (xs : List A) (ys : List B) → ((i : ℕ) (x : A) (y : B) → slice_get xs i ≡ Some x → R x y → P y) → AllZip R xs ys → AllByRecursion P ys
all_from R P [] [] so all = tt
all_from R P [] (y ∷ ys) so all = absurd all
all_from R P (x ∷ xs) [] so all = absurd all
all_from R P (x ∷ xs) (y ∷ ys) so all = (so 0 x y refl all.0, all_from R P xs ys (λ i v z at r. so (suc i) v z at r) all.1)

zip_len : {A B : Type 0} (R : A → B → Type 0) (xs : List A) (ys : List B) → AllZip R xs ys → length ys ≡ length xs
zip_len R [] [] all = refl
zip_len R [] (y ∷ ys) all = absurd all
zip_len R (x ∷ xs) [] all = absurd all
zip_len R (x ∷ xs) (y ∷ ys) all = ap suc (zip_len R xs ys all.1)

-- ---- flat templates, resolved

-- a template as written and one with its list
pub record IsFlat (stands : List ℕ → Instructions) (w : WrittenTemplate) (r : Resolved) : Type 0 where
  pub same_id : r.id ≡ w.id
  pub same_name : r.name ≡ w.name
  pub members_are : r.members ≡ stands w.name

flat_at : (ts : List WrittenTemplate) (flats : List FlatTemplate) (stands : List ℕ → Instructions) → AreFlatLists ts stands → AreFlattened ts flats → (i : ℕ) (w : WrittenTemplate) (o : Option FlatTemplate) → slice_get flats i ≡ o → (r : Resolved) → slice_get ts i ≡ Some w → option_map resolved_of o ≡ Some r → IsFlat stands w r
flat_at ts flats stands are f i w None at r at_w e = absurd (cc e)
flat_at ts flats stands are f i w (Some t) at r at_w e =
    let same : resolved_of t ≡ r = cc (e) in
    let heads = f.headings i w t at_w at in
    subst (IsFlat stands w) same (record { same_id = ap (λ h. h.id) heads; same_name = ap (λ h. h.name) heads; members_are = f.lists stands are i w t at_w at })

pub flat_zip : (ts : List WrittenTemplate) (flats : List FlatTemplate) (stands : List ℕ → Instructions) → AreFlatLists ts stands → AreFlattened ts flats → AllZip (IsFlat stands) ts (map resolved_of flats)
flat_zip ts flats stands are f = zip_from (IsFlat stands) ts (map resolved_of flats) (length-map flats resolved_of ∙ f.len) (λ i w r at_w at_r. flat_at ts flats stands are f i w (slice_get flats i) refl r at_w (sym (slice_get-map resolved_of flats i) ∙ at_r))

sizes_are : (stands : List ℕ → Instructions) (ws : List WrittenTemplate) (rs : List Resolved) → AllZip (IsFlat stands) ws rs → size_of_all rs ≡ size_up_to stands ws
sizes_are stands [] [] all = refl
sizes_are stands [] (r ∷ rs) all = absurd all
sizes_are stands (w ∷ ws) [] all = absurd all
sizes_are stands (w ∷ ws) (r ∷ rs) all = ap₂ (λ m n. m + n) (ap size_of all.0.members_are) (sizes_are stands ws rs all.1)

each_small : (rs : List Resolved) (n : ℕ) → size_of_all rs ≤ n → AllByRecursion (λ r. size_of r.members ≤ n) rs
each_small [] n le = tt
each_small (r ∷ rs) n le = (omega (arith, le), each_small rs n (omega (arith, le)))

last_is : (ts : List WrittenTemplate) → (length ts ≡ 0) ⊎ ((w : WrittenTemplate) × (k : ℕ) × (length ts ≡ suc k) × (slice_get ts k ≡ Some w))
last_is [] = inl refl
last_is (t ∷ ts) = elim (last_is ts) [ inl e ↦ inr (t, 0, ap suc e, refl) | inr r ↦ inr (r.0, suc r.1, ap suc r.2, r.3) ]

-- the sum of all is small
all_small : (ts : List WrittenTemplate) (stands : List ℕ → Instructions) → AreFlatLists ts stands → Passes ts 6 → size_up_to stands ts ≤ 65535
all_small ts stands are limits = elim (last_is ts) [
  | inl none ↦ none_small ts none
  | inr r ↦ some_small r.0 r.1 r.2 r.3 (Rattle.std.proofs.lemmas.Bool.cases_lt 65535 (size_up_to stands ts))
] where
  none_small : (ws : List WrittenTemplate) → length ws ≡ 0 → size_up_to stands ws ≤ 65535
  none_small [] e = omega arith
  none_small (w ∷ ws) e = absurd (omega (arith, e))

  some_small : (w : WrittenTemplate) (k : ℕ) → length ts ≡ suc k → slice_get ts k ≡ Some w → (65535 < size_up_to stands ts) ⊎ (size_up_to stands ts ≤ 65535) → size_up_to stands ts ≤ 65535
  some_small w k len at (inr le) = le
  some_small w k len at (inl many) = absurd (limits (sum_small (suc k)) refl (stands, w, are, at, subst (λ l. 65535 < size_up_to stands l) (sym (take_all (suc k) ts (omega (arith, len)))) many))

bare_all : (rs : List Resolved) → AllByRecursion (λ r. AreBare (keys_of r.members)) rs → AreBare (keys_of_all rs)
bare_all [] all = tt
bare_all (r ∷ rs) all = both (keys_of r.members) (keys_of_all rs) all.0 (bare_all rs all.1) where
  both : (ks ls : List Key) → AreBare ks → AreBare ls → AreBare (ks ++ ls)
  both [] ls a b = b
  both (k ∷ ks) ls a b = (a.0, both ks ls a.1 b)

bare_at : (ks : List Key) → AreBare ks → (n : ℕ) (k d : Key) → n < length ks → slice_index_or ks n d ≡ k → k.slot ≡ 0
bare_at [] all n k d less at = absurd (omega (arith, less))
bare_at (l ∷ ks) all zero k d less at = ap (λ m. m.slot) (sym at) ∙ all.0
bare_at (l ∷ ks) all (suc n) k d less at = bare_at ks all.1 n k d (omega (arith, less)) at

-- what settling asks for
pub flats_small : (ts : List WrittenTemplate) (flats : List FlatTemplate) (stands : List ℕ → Instructions) → AreFlatLists ts stands → Passes ts 6 → AreFlattened ts flats → AllByRecursion (λ r. size_of r.members ≤ 65535) (map resolved_of flats)
flats_small ts flats stands are limits f =
    let all = all_small ts stands are limits in
    let same = sizes_are stands ts (map resolved_of flats) (flat_zip ts flats stands are f) in
    each_small (map resolved_of flats) 65535 (omega (arith, all, same))

pub flats_bare : (ts : List WrittenTemplate) (order : List ℕ) (flats : List FlatTemplate) (stands : List ℕ → Instructions) → IsBuildOrder ts order → AreFlatLists ts stands → AreFlattened ts flats → (k : Key) → Contains (keys_of_all (map resolved_of flats)) k → k.slot ≡ 0
flats_bare ts order flats stands o are f k (n, less, at) = bare_at (keys_of_all (map resolved_of flats)) (bare_all (map resolved_of flats) (all_from (IsFlat stands) (λ r. AreBare (keys_of r.members)) ts (map resolved_of flats) each (flat_zip ts flats stands are f))) n k k less at where
  each : (i : ℕ) (w : WrittenTemplate) (r : Resolved) → slice_get ts i ≡ Some w → IsFlat stands w r → AreBare (keys_of r.members)
  each i w r at_w is = subst (λ m. AreBare (keys_of m)) (sym is.members_are) (along_all ts order o stands (λ is. AreBare (keys_of is)) (λ a v at_v lead. template_bare ts stands a v are at_v lead) i w at_w)

-- ---- the set

pub resolved_zip : (ts : List WrittenTemplate) (flats : List FlatTemplate) (stands : List ℕ → Instructions) (slot : Key → ℕ) → AreFlatLists ts stands → AreFlattened ts flats → AllZip (Resolves stands slot) ts (map (settled slot) (map resolved_of flats))
resolved_zip ts flats stands slot are f = zip_map (IsFlat stands) (Resolves stands slot) (settled slot) ts (map resolved_of flats) (λ w r is. record { same_id = is.same_id; same_name = is.same_name; members_are = ap (λ m. numbered 1 (with_keys (λ k. record k { slot = slot k }) m)) is.members_are }) (flat_zip ts flats stands are f)

pub are_resolved : (ts : List WrittenTemplate) (flats : List FlatTemplate) (new : List Resolved) (stands : List ℕ → Instructions) → AreFlatLists ts stands → AreFlattened ts flats → AreSettled (map resolved_of flats) new → AreResolved ts new
are_resolved ts flats new stands are f s = (stands, s.0, are, subst (AllZip (Resolves stands s.0) ts) (sym s.1) (resolved_zip ts flats stands s.0 are f))

settled_sizes : (slot : Key → ℕ) (rs : List Resolved) → size_of_all (map (settled slot) rs) ≡ size_of_all rs
settled_sizes slot [] = refl
settled_sizes slot (r ∷ rs) = ap₂ (λ m n. m + n) (size_settled (λ k. record k { slot = slot k }) r.members) (settled_sizes slot rs)

source_of : (templates : List Template) (a : ℕ) (w : WrittenTemplate) (o : Option Template) → option_map written_template_of o ≡ Some w → (t : Template) × (written_template_of t ≡ w)
source_of templates a w None e = absurd (cc e)
source_of templates a w (Some t) e = (t, cc (e))

module _ (templates : List Template) (order : List ℕ) (flats : List FlatTemplate) (stands : List ℕ → Instructions) (slot : Key → ℕ) (o : IsBuildOrder (map written_template_of templates) order) (are : AreFlatLists (map written_template_of templates) stands) (f : AreFlattened (map written_template_of templates) flats) (few : length (map written_template_of templates) ≤ 65535) (differ : Passes (map written_template_of templates) 2) (operators : Passes (map written_template_of templates) 3) (limits : Passes (map written_template_of templates) 6) where
  abbrev ws : List WrittenTemplate
  ws = map written_template_of templates

  abbrev rs : List Resolved
  rs = map (settled slot) (map resolved_of flats)

  zip : AllZip (Resolves stands slot) ws rs
  zip = resolved_zip ws flats stands slot are f

  typed_step : (a : ℕ) (w : WrittenTemplate) → slice_get ws a ≡ Some w → ((i : ℕ) (name : List ℕ) → slice_get (listed w.members) i ≡ Some (written_reference name) → HaveTypedParts (stands name)) → HaveTypedParts (stands w.name)
  typed_step a w at lead =
      let t = source_of templates a w (slice_get templates a) (sym (slice_get-map written_template_of templates a) ∙ at) in
      template_typed ws stands a w are operators at (subst (λ v. AllByRecursion Rattle.fast_load.proofs.TypedLists.HasTexts (listed v.members)) t.1 (template_has_texts t.0)) (λ i name here. leads i name here)
    where
      leads : (i : ℕ) (name : List ℕ) → IsInstructionAt ws (a + 1) i (written_reference name) → HaveTypedParts (stands name)
      leads zero name (v, at_v, here) = absurd (cc here)
      leads (suc i) name (v, at_v, here) =
          let place : a + 1 ≡ suc a = omega arith in
          let at_suc : slice_get ws a ≡ Some v = sym (ap (Rattle.fast_load.specs.LoadChecks.from_one ws) place) ∙ at_v in
          let same : v ≡ w = cc (sym at_suc ∙ at) in
          lead i name (ap (λ x. slice_get (listed x.members) i) (sym same) ∙ here)

  typed : AllByRecursion (λ t. HaveTypedParts t.members) rs
  typed = all_from (Resolves stands slot) (λ t. HaveTypedParts t.members) ws rs (λ i w r at is. subst HaveTypedParts (sym is.members_are) (typed_settled (λ k. record k { slot = slot k }) (stands w.name) (along_all ws order o stands HaveTypedParts typed_step i w at))) zip

  in_order : AllByRecursion (λ t. IsNumbered t.members) rs
  in_order = all_from (Resolves stands slot) (λ t. IsNumbered t.members) ws rs (λ i w r at is. subst IsNumbered (sym is.members_are) (in_order_settled (λ k. record k { slot = slot k }) (stands w.name))) zip

  depth_at : (i : ℕ) (w : WrittenTemplate) → slice_get ws i ≡ Some w → depth_of (stands w.name) ≤ 8
  depth_at i w at = elim (Rattle.std.proofs.lemmas.Bool.cases_lt 8 (depth_of (stands w.name))) [
    | inl deep ↦ absurd (limits (nests_little (suc i)) refl (stands, w, are, at, deep))
    | inr le ↦ le
  ]

  shallow : AllByRecursion (λ t. depth_of t.members ≤ 8) rs
  shallow = all_from (Resolves stands slot) (λ t. depth_of t.members ≤ 8) ws rs (λ i w r at is. let k = depth_at i w at in let m = ap depth_of is.members_are in let n = depth_settled (λ k. record k { slot = slot k }) (stands w.name) in omega (arith, k, m, n)) zip

  small : size_of_all rs ≤ 65535
  small =
      let all = all_small ws stands are limits in
      let same = sizes_are stands ws (map resolved_of flats) (flat_zip ws flats stands are f) in
      let kept = settled_sizes slot (map resolved_of flats) in
      omega (arith, all, same, kept)

  distinct : AllPairs Differ rs
  distinct i j d less inside =
      let at_r = slice_get-get_or rs i d (omega (arith, less, inside)) in
      let at_s = slice_get-get_or rs j d inside in
      let v = zip_at (Resolves stands slot) ws rs i _ zip at_r in
      let w = zip_at (Resolves stands slot) ws rs j _ zip at_s in (
        λ same. differ (name_new (suc j)) refl (suc i, v.0, w.0, omega (arith, less), v.1, w.1, sym v.2.same_name ∙ same ∙ w.2.same_name),
        λ id own_r own_s. differ (id_new (suc j)) refl (suc i, v.0, w.0, omega (arith, less), v.1, w.1, sym v.2.same_id ∙ own_r ∙ sym own_s ∙ w.2.same_id, is_some w.0.id id (sym w.2.same_id ∙ own_s)),
      )
    where
      is_some : (o : Option ℕ) (id : ℕ) → o ≡ Some id → IsSome o
      is_some o id e = subst IsSome (sym e) refl

  pub are_sound : (slots : ℕ) → HasSlots (identifier_key ∷ keys_of_all rs) slots → AreSound rs slots
  are_sound slots slotted = record {
    few = let k = zip_len (Resolves stands slot) ws rs zip in omega (arith, k, few);
    distinct = distinct;
    typed = typed;
    in_order = in_order;
    shallow = shallow;
    small = small;
    slotted = slotted;
  }

-- ---- what settling writes back

pub settled_len : (old new : List FlatTemplate) → AreSettled (map resolved_of old) (map resolved_of new) → length new ≡ length old
settled_len old new s = sym (length-map new resolved_of) ∙ ap length s.1 ∙ length-map (map resolved_of old) (settled s.0) ∙ length-map old resolved_of

pub written_back : (n : ℕ) (old new : List FlatTemplate) → n ≡ length old → length new ≡ length old → take n (new ++ drop (length new) old) ≡ new
written_back n old new is len =
    ap (λ l. take n (new ++ l)) (drop_all (length new) old (omega (arith, len))) ∙ ap (take n) (append-nil new) ∙ take_all n new (omega (arith, is, len))
