-- Maps that lead to the first template of a name or of an identifier.
use Rattle.fast_load.proofs.Common.{◌≡◌, ◌<◌, ◌+◌, ◌==◌, map, take, drop, get_or, string_bytes, length-take-le, ℕ, suc, List, [], ◌∷◌, ◌++◌, length, cond, if◌then◌else◌, nat_eq, Option, Some, None, option_map, is_some, Bool, true, false, refl, sym, ap, subst, ◌∙◌, arith, true≢false, option_or, nat_cmp, unsigned_ties, unsigned_Decides, pointwise, slice_cmp, texts_ties, same_text, BTreeMap, Updates, get, take_more, drop_more, map-append, length-map, Template, LoadFault, DuplicateName, DuplicateId, after_template, WrittenTemplate, written_template_of, has_id, place_where, place_named, place_of_id, repeats_id, duplicate_of, first_duplicate, has_entry, EntersId, NamesLead, IdsLead}

shifted : (o : Option ℕ) (b : Bool) (n : ℕ) → option_map suc (option_or o (if b then Some n else None)) ≡ option_or (option_map suc o) (if b then Some (suc n) else None)
shifted None true n = refl
shifted None false n = refl
shifted (Some m) b n = refl

further : (b c : Bool) (o : Option ℕ) (n : ℕ) → (if b then Some 0 else option_map suc (option_or o (if c then Some n else None))) ≡ option_or (if b then Some 0 else option_map suc o) (if c then Some (suc n) else None)
further true c o n = refl
further false c o n = shifted o c n

-- one template more
pub place_where-push : (test : WrittenTemplate → Bool) (ts : List WrittenTemplate) (w : WrittenTemplate) → place_where test (ts ++ w ∷ []) ≡ option_or (place_where test ts) (if test w then Some (length ts) else None)
place_where-push test [] w = alone (test w) where
  alone : (b : Bool) → (if b then Some 0 else option_map suc None) ≡ option_or None (if b then Some 0 else None)
  alone true = refl
  alone false = refl
place_where-push test (t ∷ ts) w = ap (λ o. if test t then Some 0 else option_map suc o) (place_where-push test ts w) ∙ further (test t) (test w) (place_where test ts) (length ts)

none_or : (o : Option ℕ) → o ≡ option_or o None
none_or None = refl
none_or (Some n) = refl

entered : (b : Bool) (o : Option ℕ) (n : ℕ) → (b ≡ true → o ≡ None) → cond b (Some n) o ≡ option_or o (if b then Some n else None)
entered true o n none = sym (ap (λ p. option_or p (Some n)) (none refl))
entered false o n none = none_or o

pub names_enter : (old new : BTreeMap (List ℕ) ℕ) (before : List WrittenTemplate) (w : WrittenTemplate) (place : ℕ) → NamesLead old before → place ≡ length before → place_named before w.name ≡ None
    → Updates (slice_cmp nat_cmp) old new w.name (Some place) → NamesLead new (before ++ w ∷ [])
names_enter old new before w place lead places none updates name =
    updates.0 name
    ∙ (λ i. cond (sym (texts_ties w.name name) i) (Some (places i)) (lead name i))
    ∙ entered (pointwise nat_eq w.name name) (place_named before name) (length before) (λ e. sym (ap (place_named before) (same_text w.name name (sym e))) ∙ none)
    ∙ sym (place_where-push (λ v. pointwise nat_eq v.name name) before w)

pub ids_enter : (old new : BTreeMap ℕ ℕ) (before : List WrittenTemplate) (w : WrittenTemplate) (id place : ℕ) → w.id ≡ Some id → IdsLead old before → place ≡ length before → place_of_id before id ≡ None
    → Updates nat_cmp old new id (Some place) → IdsLead new (before ++ w ∷ [])
ids_enter old new before w id place own lead places none updates q =
    updates.0 q
    ∙ (λ i. cond (sym (unsigned_ties id q) i) (Some (places i)) (lead q i))
    ∙ entered (id == q) (place_of_id before q) (length before) (λ e. sym (ap (place_of_id before) ((unsigned_Decides id q).0 e)) ∙ none)
    ∙ sym (place_where-push (λ v. has_id q v.id) before w ∙ ap (λ o. option_or (place_of_id before q) (if has_id q o then Some (length before) else None)) own)

pub ids_stay : (old : BTreeMap ℕ ℕ) (before : List WrittenTemplate) (w : WrittenTemplate) → w.id ≡ None → IdsLead old before → IdsLead old (before ++ w ∷ [])
ids_stay old before w own lead q =
    lead q
    ∙ none_or (place_of_id before q)
    ∙ sym (place_where-push (λ v. has_id q v.id) before w ∙ ap (λ o. option_or (place_of_id before q) (if has_id q o then Some (length before) else None)) own)

-- ---- one template after the other

not_some : {A : Type 0} (o : Option A) → false ≡ is_some o → o ≡ None
not_some None e = refl
not_some (Some x) e = absurd (true≢false (sym e))

ids_after : (old new : BTreeMap ℕ ℕ) (before : List WrittenTemplate) (w : WrittenTemplate) (o : Option ℕ) (place : ℕ) → w.id ≡ o → IdsLead old before → place ≡ length before → false ≡ has_entry old o → EntersId old new o place → IdsLead new (before ++ w ∷ [])
ids_after old new before w None place own lead places none enters = subst (λ m. IdsLead m (before ++ w ∷ [])) (sym enters) (ids_stay old before w own lead)
ids_after old new before w (Some id) place own lead places none enters = ids_enter old new before w id place own lead places (sym (lead id) ∙ not_some (get nat_cmp old id) none) enters

repeats_none : (ids : BTreeMap ℕ ℕ) (before : List WrittenTemplate) (o : Option ℕ) → IdsLead ids before → false ≡ has_entry ids o → false ≡ repeats_id before o
repeats_none ids before None lead none = refl
repeats_none ids before (Some id) lead none = none ∙ ap is_some (lead id)

-- the same, as the program goes on by one
pub record IndexedUpTo (names : BTreeMap (List ℕ) ℕ) (ids : BTreeMap ℕ ℕ) (ts : List Template) (i : ℕ) (answer : Option LoadFault) : Type 0 where
  pub names_lead : NamesLead names (map written_template_of (take i ts))
  pub ids_lead : IdsLead ids (map written_template_of (take i ts))
  pub answers : first_duplicate (map written_template_of (take i ts)) (map written_template_of (drop i ts)) (i + 1) ≡ answer

pub indexed_more : (names more : BTreeMap (List ℕ) ℕ) (ids others : BTreeMap ℕ ℕ) (ts : List Template) (i place : ℕ) (t : Template) (answer : Option LoadFault) → i < length ts → get_or ts i t ≡ t → place ≡ i
    → IndexedUpTo names ids ts i answer
    → false ≡ is_some (get (slice_cmp nat_cmp) names (string_bytes t.name)) → Updates (slice_cmp nat_cmp) names more (string_bytes t.name) (Some place)
    → false ≡ has_entry ids t.id → EntersId ids others t.id place → IndexedUpTo more others ts (i + 1) answer
indexed_more names more ids others ts i place t answer less at places so no_name updates no_id enters =
    let before : List WrittenTemplate = map written_template_of (take i ts) in
    let w : WrittenTemplate = written_template_of t in
    let taken : map written_template_of (take (i + 1) ts) ≡ before ++ w ∷ [] =
    ap (map written_template_of) (take_more ts i t less ∙ ap (λ x. take i ts ++ x ∷ []) at) ∙ map-append written_template_of (take i ts) (t ∷ []) in
    let left : map written_template_of (drop i ts) ≡ w ∷ map written_template_of (drop (i + 1) ts) =
    ap (map written_template_of) (drop_more ts i t less ∙ ap (λ x. x ∷ drop (i + 1) ts) at) in
    let lengths : length before ≡ i = length-map (take i ts) written_template_of ∙ length-take-le i ts (omega (arith, less)) in
    let placed : place ≡ length before = places ∙ sym lengths in
    let none : place_named before w.name ≡ None = sym (so.names_lead w.name) ∙ not_some _ no_name in
    let unrepeated : duplicate_of before w ≡ None =
    (λ j. if is_some (none j) then Some DuplicateName else if sym (repeats_none ids before w.id so.ids_lead no_id) j then Some DuplicateId else None) in
    record {
      names_lead = subst (NamesLead more) (sym taken) (names_enter names more before w place so.names_lead placed none updates);
      ids_lead = subst (IdsLead others) (sym taken) (ids_after ids others before w w.id place refl so.ids_lead placed no_id enters);
      answers =
          ap (λ l. first_duplicate l (map written_template_of (drop (i + 1) ts)) (i + 1 + 1)) taken
          ∙ sym (ap (λ o. after_template o (i + 1) (first_duplicate (before ++ w ∷ []) (map written_template_of (drop (i + 1) ts)) (i + 1 + 1))) unrepeated)
          ∙ ap (λ l. first_duplicate before l (i + 1)) (sym left)
          ∙ so.answers;
    }
