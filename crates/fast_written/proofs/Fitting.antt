-- Whether an object fits its row: by its members, of which each key stands once, or by the keys of JSON and what is found under
-- those of the row.
use Rattle.std.proofs.Common.{◌≡◌, ℕ, List, [], ◌∷◌, Bool, true, false, cond, not, ◌&&◌, ◌||◌, nat_eq, is_some, Option, Some, None, option_map, Ordering, Less, Equal, Greater, is_eq, refl, sym, ap, ap₂, subst, ◌∙◌, true≢false}
use Rattle.std.proofs.lemmas.Cmp.{nat_list_cmp_total, tied_itself}
use Rattle.std.proofs.lemmas.Map.Text.{is_eq-slice_cmp}
use Rattle.std.proofs.lemmas.Slice.Eq.{bytes_eq-Decides}
use Rattle.std.specs.Cmp.Lexicographic.{pointwise, slice_cmp}
use Rattle.std.specs.List.{list_all, list_any}
use Rattle.std.specs.Option.{option_map_or, option_or}
use Rattle.std.specs.Ordering.{match_ordering, nat_cmp, ordering_reverse}
use Rattle.std.specs.Prelude.{⊤}
use Rattle.std.specs.Str.{bytes_eq}
use Rattle.json.specs.Json as json
use Rattle.json.specs.Find as find
use Rattle.serde_json.specs.Data.{Data, object, Members, no_members, member, put}
use Rattle.serde_json.specs.Find.{get, get_member}
use Rattle.fast_written.specs.JsonData.{data_of, members_of, knows, all_known, meets, all_met}
use Rattle.fast_written.specs.Profile.{all_allowed, allows, fits, has_needed, is_needed, is_of, row_of, word_text}
use Rattle.fast_written.specs.declared.profile.Need.{Need}
use Rattle.fast_written.specs.declared.profile.Row.{Row}
use Rattle.fast_written.specs.declared.profile.Shape.{Shape}
use Rattle.fast_written.specs.declared.profile.Word.{Word}
use Rattle.fast_written.proofs.DataLaws.{found_in, get_is}

-- ---- truth

both : (a b : Bool) → (a && b) ≡ true → (a ≡ true) × (b ≡ true)
both true b e = (refl, e)
both false b e = absurd (true≢false (sym e))

join : (a b : Bool) → a ≡ true → b ≡ true → (a && b) ≡ true
join a b e f = ap₂ (λ x y. x && y) e f

same_truth : (a b : Bool) → (a ≡ true → b ≡ true) → (b ≡ true → a ≡ true) → a ≡ b
same_truth true b f g = sym (f refl)
same_truth false true f g = g refl
same_truth false false f g = refl

-- ---- the members of data are in the order of their keys, so each key stands once

abbrev Above : List ℕ → Members → Type 0
Above k no_members = ⊤
Above k (member l e ms) = (slice_cmp nat_cmp k l ≡ Less) × Above k ms

abbrev InOrder : Members → Type 0
InOrder no_members = ⊤
InOrder (member k d ms) = Above k ms × InOrder ms

above_by : (o : Ordering) (l k m : List ℕ) (d e : Data) (ms rest : Members) → slice_cmp nat_cmp l k ≡ Less → Above l (member m e ms)
    → Above l rest
    → Above l (match_ordering o (member k d (member m e ms)) (member m d ms) (member m e rest))
above_by Less l k m d e ms rest less a r = (less, a)
above_by Equal l k m d e ms rest less a r = a
above_by Greater l k m d e ms rest less a r = (a.0, r)

above_put : (l k : List ℕ) (d : Data) (ms : Members) → slice_cmp nat_cmp l k ≡ Less → Above l ms → Above l (put k d ms)
above_put l k d no_members less a = (less, tt)
above_put l k d (member m e ms) less a = above_by (slice_cmp nat_cmp k m) l k m d e ms (put k d ms) less a (above_put l k d ms less a.1)

lower : (k m : List ℕ) (ms : Members) → slice_cmp nat_cmp k m ≡ Less → Above m ms → Above k ms
lower k m no_members less a = tt
lower k m (member l e ms) less a = (nat_list_cmp_total.trans k m l less a.0, lower k m ms less a.1)

order_by : (o : Ordering) (k m : List ℕ) (d e : Data) (ms rest : Members) → slice_cmp nat_cmp k m ≡ o → InOrder (member m e ms)
    → (slice_cmp nat_cmp m k ≡ Less → Above m rest) → InOrder rest
    → InOrder (match_ordering o (member k d (member m e ms)) (member m d ms) (member m e rest))
order_by Less k m d e ms rest is s a r = ((is, lower k m ms is s.0), s)
order_by Equal k m d e ms rest is s a r = s
order_by Greater k m d e ms rest is s a r = (a (nat_list_cmp_total.antisymm m k ∙ ap ordering_reverse is), r)

order_put : (k : List ℕ) (d : Data) (ms : Members) → InOrder ms → InOrder (put k d ms)
order_put k d no_members s = (tt, tt)
order_put k d (member m e ms) s =
    order_by (slice_cmp nat_cmp k m) k m d e ms (put k d ms) refl s (λ less. above_put m k d ms less s.0) (order_put k d ms s.1)

order_of : (ms : json.Members) (found : Members) → InOrder found → InOrder (members_of ms found)
order_of json.no_members found s = s
order_of (json.member k j ms) found s = order_of ms (put k (data_of j) found) (order_put k (data_of j) found s)

absent : (k : List ℕ) (ms : Members) → Above k ms → get_member k ms ≡ None
absent k no_members a = refl
absent k (member l e ms) a = ap (λ o. match_ordering o (get_member k ms) (Some e) (get_member k ms)) a.0 ∙ absent k ms a.1

alike : (k l : List ℕ) → slice_cmp nat_cmp k l ≡ Equal → k ≡ l
alike k l is = (bytes_eq-Decides k l).0 (sym (is_eq-slice_cmp k l) ∙ ap is_eq is)

-- ---- each member is allowed, and so is what is found under each key

abbrev value_or : Data → Option Data → Data
value_or d None = d
value_or d (Some e) = e

no_value : (d : Data) → None ≡ Some d → ⊥
no_value d e = absurd (true≢false (sym (ap is_some e)))

module _ (r : Row) where
  allowed_by : (o : Ordering) (k l : List ℕ) (d e : Data) (ms : Members) → slice_cmp nat_cmp k l ≡ o → allows r l e ≡ true
      → (get_member k ms ≡ Some d → allows r k d ≡ true)
      → match_ordering o (get_member k ms) (Some e) (get_member k ms) ≡ Some d → allows r k d ≡ true
  allowed_by Less k l d e ms is here later found = later found
  allowed_by Equal k l d e ms is here later found =
      subst (λ x. allows r x d ≡ true) (sym (alike k l is)) (subst (λ x. allows r l x ≡ true) (ap (value_or e) found) here)
  allowed_by Greater k l d e ms is here later found = later found

  allowed_found : (k : List ℕ) (d : Data) (ms : Members) → all_allowed r ms ≡ true → get_member k ms ≡ Some d → allows r k d ≡ true
  allowed_found k d no_members all found = absurd (no_value d found)
  allowed_found k d (member l e ms) all found =
      let parts = both (allows r l e) (all_allowed r ms) all in
      allowed_by (slice_cmp nat_cmp k l) k l d e ms refl parts.0 (allowed_found k d ms parts.1) found

  still_by : (o : Ordering) (k l : List ℕ) (d e : Data) (ms : Members) → slice_cmp nat_cmp k l ≡ o → Above l ms → get_member k ms ≡ Some d
      → match_ordering o (get_member k ms) (Some e) (get_member k ms) ≡ Some d
  still_by Less k l d e ms is a found = found
  still_by Equal k l d e ms is a found = absurd (no_value d (sym (absent l ms a) ∙ ap (λ x. get_member x ms) (sym (alike k l is)) ∙ found))
  still_by Greater k l d e ms is a found = found

  all_from_found : (ms : Members) → InOrder ms → ((k : List ℕ) (d : Data) → get_member k ms ≡ Some d → allows r k d ≡ true)
      → all_allowed r ms ≡ true
  all_from_found no_members s f = refl
  all_from_found (member l e ms) s f =
      join (allows r l e) (all_allowed r ms)
      (f l e (ap (λ o. match_ordering o (get_member l ms) (Some e) (get_member l ms)) (tied_itself nat_list_cmp_total l)))
      (all_from_found ms s.1 (λ k d found. f k d (still_by (slice_cmp nat_cmp k l) k l d e ms refl s.0 found)))

  -- ---- the keys

  weaker : (key : List ℕ) (d : Data) (rules : List (Word × Shape × Need))
      → list_any (λ (rule : Word × Shape × Need). pointwise nat_eq (word_text rule.0) key && is_of rule.1 d) rules ≡ true
      → list_any (λ (rule : Word × Shape × Need). pointwise nat_eq (word_text rule.0) key) rules ≡ true
  weaker key d [] e = e
  weaker key d (rule ∷ rules) e = weaker_by (pointwise nat_eq (word_text rule.0) key) (is_of rule.1 d) _ _ (weaker key d rules) e
    where
      weaker_by : (a b x y : Bool) → (x ≡ true → y ≡ true) → ((a && b) || x) ≡ true → (a || y) ≡ true
      weaker_by true b x y f h = refl
      weaker_by false b x y f h = f h

  known_by : (o : Option json.Json) (b : Bool) (k l : List ℕ) (j : json.Json) → bytes_eq l k ≡ b → knows r l ≡ true
      → (is_some o ≡ true → knows r k ≡ true) → is_some (find.later_or o (cond b (Some j) None)) ≡ true → knows r k ≡ true
  known_by (Some x) b k l j is here later found = later refl
  known_by None true k l j is here later found = subst (λ x. knows r x ≡ true) ((bytes_eq-Decides l k).0 is) here
  known_by None false k l j is here later found = absurd (true≢false (sym found))

  known_found : (k : List ℕ) (ms : json.Members) → all_known r ms ≡ true → is_some (find.get_member k ms) ≡ true → knows r k ≡ true
  known_found k json.no_members all found = absurd (true≢false (sym found))
  known_found k (json.member l j ms) all found =
      let parts = both (knows r l) (all_known r ms) all in
      known_by (find.get_member k ms) (bytes_eq l k) k l j refl parts.0 (known_found k ms parts.1) found

  here_by : (o : Option json.Json) (j : json.Json) → is_some (find.later_or o (Some j)) ≡ true
  here_by None j = refl
  here_by (Some x) j = refl

  later_by : (o p : Option json.Json) → is_some o ≡ true → is_some (find.later_or o p) ≡ true
  later_by None p e = absurd (true≢false (sym e))
  later_by (Some x) p e = refl

  known_from_found : (ms : json.Members) → ((k : List ℕ) → is_some (find.get_member k ms) ≡ true → knows r k ≡ true) → all_known r ms ≡ true
  known_from_found json.no_members f = refl
  known_from_found (json.member l j ms) f =
      join (knows r l) (all_known r ms)
      (f l
      (ap (λ b. is_some (find.later_or (find.get_member l ms) (cond b (Some j) None))) ((bytes_eq-Decides l l).1 refl)
      ∙ here_by (find.get_member l ms) j))
      (known_from_found ms (λ k found. f k (later_by (find.get_member k ms) _ found)))

  -- ---- what is found under the keys of the row

  met_by : (w : Word) (spared : Bool) (d : Data) (o : Option Data) → get (word_text w) d ≡ o
      → ((x : Data) → get (word_text w) d ≡ Some x → allows r (word_text w) x ≡ true) → (spared || is_some o) ≡ true
      → option_map_or (allows r (word_text w)) o spared ≡ true
  met_by w true d None is f h = refl
  met_by w false d None is f h = h
  met_by w spared d (Some x) is f h = f x is

  met_from_found : (d : Data) (rules : List (Word × Shape × Need)) → ((k : List ℕ) (x : Data) → get k d ≡ Some x → allows r k x ≡ true)
      → list_all (λ (rule : Word × Shape × Need). not (is_needed rule.2) || is_some (get (word_text rule.0) d)) rules ≡ true
      → list_all (λ (rule : Word × Shape × Need). meets r rule.0 rule.2 d) rules ≡ true
  met_from_found d [] f h = refl
  met_from_found d (rule ∷ rules) f h =
      let parts = both (not (is_needed rule.2) || is_some (get (word_text rule.0) d)) _ h in
      join (meets r rule.0 rule.2 d) _
      (met_by rule.0 (not (is_needed rule.2)) d (get (word_text rule.0) d) refl (f (word_text rule.0)) parts.0)
      (met_from_found d rules f parts.1)

  needed_by : (f : Data → Bool) (o : Option Data) (spared : Bool) → option_map_or f o spared ≡ true → (spared || is_some o) ≡ true
  needed_by f None true h = refl
  needed_by f None false h = h
  needed_by f (Some x) true h = refl
  needed_by f (Some x) false h = refl

  needed_from_met : (d : Data) (rules : List (Word × Shape × Need))
      → list_all (λ (rule : Word × Shape × Need). meets r rule.0 rule.2 d) rules ≡ true
      → list_all (λ (rule : Word × Shape × Need). not (is_needed rule.2) || is_some (get (word_text rule.0) d)) rules ≡ true
  needed_from_met d [] h = refl
  needed_from_met d (rule ∷ rules) h =
      let parts = both (meets r rule.0 rule.2 d) _ h in
      join (not (is_needed rule.2) || is_some (get (word_text rule.0) d)) _
      (needed_by (allows r (word_text rule.0)) (get (word_text rule.0) d) (not (is_needed rule.2)) parts.0)
      (needed_from_met d rules parts.1)

  allowed_at : (w : Word) (n : Need) (key : List ℕ) (d x : Data) → word_text w ≡ key → meets r w n d ≡ true → get key d ≡ Some x
      → allows r key x ≡ true
  allowed_at w n key d x is met found =
      let under : get (word_text w) d ≡ Some x = ap (λ k. get k d) is ∙ found in
      let allowed : allows r (word_text w) x ≡ true =
      sym (ap (λ o. option_map_or (allows r (word_text w)) o (not (is_needed n))) under) ∙ met in
      subst (λ k. allows r k x ≡ true) is allowed

  allowed_or : (b more : Bool) (w : Word) (n : Need) (key : List ℕ) (d x : Data) → bytes_eq (word_text w) key ≡ b → meets r w n d ≡ true
      → get key d ≡ Some x → (more ≡ true → allows r key x ≡ true) → (b || more) ≡ true → allows r key x ≡ true
  allowed_or true more w n key d x is met found later h = allowed_at w n key d x ((bytes_eq-Decides (word_text w) key).0 is) met found
  allowed_or false more w n key d x is met found later h = later h

  allowed_from_met : (key : List ℕ) (d x : Data) (rules : List (Word × Shape × Need))
      → list_any (λ (rule : Word × Shape × Need). pointwise nat_eq (word_text rule.0) key) rules ≡ true
      → list_all (λ (rule : Word × Shape × Need). meets r rule.0 rule.2 d) rules ≡ true → get key d ≡ Some x → allows r key x ≡ true
  allowed_from_met key d x [] known met found = absurd (true≢false (sym known))
  allowed_from_met key d x (rule ∷ rules) known met found =
      let parts = both (meets r rule.0 rule.2 d) _ met in
      allowed_or (pointwise nat_eq (word_text rule.0) key) _ rule.0 rule.2 key d x refl parts.0 found
      (λ more. allowed_from_met key d x rules more parts.1 found)
      known

  -- ---- the same

  some_of : (o : Option json.Json) → is_some o ≡ true → (x : Data) × (option_map data_of o ≡ Some x)
  some_of None e = absurd (true≢false (sym e))
  some_of (Some j) e = (data_of j, refl)

  some_back : (o : Option json.Json) (x : Data) → option_map data_of o ≡ Some x → is_some o ≡ true
  some_back None x e = absurd (no_value x e)
  some_back (Some j) x e = refl

  pub fits_is : (ms : json.Members) → (all_known r ms && all_met r (data_of (json.object ms))) ≡ fits r (data_of (json.object ms))
  fits_is ms =
      let d = data_of (json.object ms) in
      let found = members_of ms no_members in
      same_truth (all_known r ms && all_met r d) (all_allowed r found && has_needed r d)
      (λ h.
      let parts = both (all_known r ms) (all_met r d) h in
      let known = λ (k : List ℕ) (x : Data) (under : get_member k found ≡ Some x).
      known_found k ms parts.0 (some_back (find.get_member k ms) x (sym (get_is k (json.object ms)) ∙ under)) in
      join (all_allowed r found) (has_needed r d)
      (all_from_found found (order_of ms no_members tt) (λ k x under. allowed_from_met k d x (row_of r) (known k x under) parts.1 under))
      (needed_from_met d (row_of r) parts.1))
      (λ h.
      let parts = both (all_allowed r found) (has_needed r d) h in
      let allowed = λ (k : List ℕ) (x : Data) (under : get_member k found ≡ Some x).
      allowed_found k x found parts.0 under in
      join (all_known r ms) (all_met r d)
      (known_from_found ms
      (λ k under.
      let x = some_of (find.get_member k ms) under in
      weaker k x.0 (row_of r) (allowed k x.0 (get_is k (json.object ms) ∙ x.1))))
      (met_from_found d (row_of r) allowed parts.1))
