-- The phase of references, from what is judged of each instruction.
use Rattle.fast_load.proofs.Common.{◌≡◌, ◌≢◌, ◌≤◌, ◌<◌, ◌+◌, ℕ, zero, suc, List, [], ◌∷◌, length, min, if◌then◌else◌, nat_eq, Option, Some, None, is_some, Bool, true, false, ◌⊎◌, inl, inr, refl, sym, ap, subst, ◌∙◌, arith, true≢false, slice_get, option_map_or, pointwise, nat_list_eq_equiv, same_text, LoadCause, D8, LoadFault, WrittenInstruction, written_field, written_parts, written_group, written_sequence, written_reference, WrittenTemplate, Check, few_templates, names_well_made, name_new, id_new, operator_allowed, constant_has_value, default_has_value, value_spelled, reference_known, off_cycles, nests_little, sum_small, IsTemplateAt, Fails, Before, first_at_fault, place_named, reference_cause, phase_of, Passes, IsFirstOf}
use Rattle.fast_load.proofs.WalkLaws.{CauseIn, IsFirstPlace, first_place, no_place}
use Rattle.fast_load.proofs.DuplicatePhase.{Found, found, placed}
use Rattle.fast_load.proofs.NamePhase.{earlier_or_here}

none_some : {A : Type 0} (x : A) → None ≡ Some x → ⊥
none_some x e = cc e

module _ (ts : List WrittenTemplate) (known : List ℕ → Bool) (knows : (name : List ℕ) → known name ≡ is_some (place_named ts name)) where
  abbrev pub nothing_of : WrittenTemplate → Option LoadCause
  nothing_of w = None

  -- a reference with a cause names no template
  Unknown : WrittenInstruction → Type 0
  Unknown x = (name : List ℕ) × (x ≡ written_reference name) × (known name ≡ false)

  unknown_by : (b : Bool) (c : LoadCause) → (if b then None else Some D8) ≡ Some c → (b ≡ false) × (D8 ≡ c)
  unknown_by true c e = absurd (cc e)
  unknown_by false c e = (refl, ap (λ o. option_map_or (λ x. x) o D8) e)

  unknown : (x : WrittenInstruction) (c : LoadCause) → reference_cause known x ≡ Some c → Unknown x × (D8 ≡ c)
  unfolding Unknown
  unknown (written_field name kind presence operation) c e = absurd (cc e)
  unknown (written_parts name presence exponent mantissa) c e = absurd (cc e)
  unknown (written_group name presence around members) c e = absurd (cc e)
  unknown (written_sequence name presence around length_name length members) c e = absurd (cc e)
  unknown (written_reference name) c e = let gone = unknown_by (known name) c e in ((name, refl, gone.0), gone.1)

  some_false : (o : Option ℕ) (n : ℕ) → is_some o ≡ false → o ≡ Some n → ⊥
  some_false o n gone is = true≢false (sym (ap is_some is) ∙ gone)

  no_template : (name : List ℕ) → known name ≡ false → (u : ℕ) (w : WrittenTemplate) → IsTemplateAt ts u w → w.name ≢ name
  no_template name gone zero w at same = absurd (cc at)
  no_template name gone (suc j) w at same =
      let found_name = placed (λ x. pointwise nat_eq x.name name) ts j w at (ap (pointwise nat_eq w.name) (sym same) ∙ nat_list_eq_equiv.refl w.name) in
      some_false (place_named ts name) found_name.0 (sym (knows name) ∙ gone) found_name.1

  to_check : (p i : ℕ) (c : LoadCause) → CauseIn nothing_of (reference_cause known) ts p (suc i) c → Fails ts (reference_known (suc p) (suc i)) × (D8 ≡ c)
  unfolding Unknown
  to_check p i c (w, x, w_there, x_there, e) =
      let gone = unknown x c e in
      ((gone.0.0, (w, w_there, x_there ∙ ap Some gone.0.1), no_template gone.0.0 gone.0.2), gone.1)

  is_unknown : (name : List ℕ) (o : Option ℕ) → place_named ts name ≡ o → ((u : ℕ) (w : WrittenTemplate) → IsTemplateAt ts u w → w.name ≢ name) → o ≡ None
  unfolding Found
  is_unknown name None is none = refl
  is_unknown name (Some j) is none =
      let f = found (λ x. pointwise nat_eq x.name name) ts j is in
      absurd (none (suc j) f.0 f.1 (same_text f.0.name name (sym f.2)))

  from_check : (p i : ℕ) → Fails ts (reference_known (suc p) (suc i)) → CauseIn nothing_of (reference_cause known) ts p (suc i) D8
  from_check p i (name, at, none) =
      (at.0, written_reference name, at.1, at.2, ap (λ b. if b then None else Some D8) (knows name ∙ ap is_some (is_unknown name (place_named ts name) refl none)))

  no_zero : (i : ℕ) → ¬ (Fails ts (reference_known zero i))
  no_zero i (name, at, none) = absurd (cc at.1)

  no_first : (p : ℕ) → ¬ (Fails ts (reference_known (suc p) zero))
  no_first p (name, at, none) = absurd (cc at.2)

  no_own : (p : ℕ) (c : LoadCause) → ¬ (CauseIn nothing_of (reference_cause known) ts p zero c)
  no_own p c (w, there, e) = none_some c e

  within_list : (ws : List WrittenTemplate) (p : ℕ) (w : WrittenTemplate) → slice_get ws p ≡ Some w → p < length ws
  within_list [] p w e = absurd (cc e)
  within_list (t ∷ ws) zero w e = omega arith
  within_list (t ∷ ws) (suc p) w e = let less : p < length ws = within_list ws p w e in omega (arith, less)

  before_place : (fault : LoadFault) (f : IsFirstPlace nothing_of (reference_cause known) ts 1 fault) (n : ℕ) → f.number ≡ suc n → (q j : ℕ) → (suc q < suc f.place) ⊎ ((suc q ≡ suc f.place) × (suc j < suc n)) → ¬ (Fails ts (reference_known (suc q) (suc j)))
  before_place fault f n numbered q j (inl less) fails = f.earlier q (suc j) D8 (omega (arith, less)) (from_check q j fails)
  before_place fault f n numbered q j (inr both) fails =
      let here : q ≡ f.place = omega (arith, both.0) in
      f.before (suc j) D8 (subst (λ m. suc j < m) (sym numbered) both.1) (subst (λ p. CauseIn nothing_of (reference_cause known) ts p (suc j) D8) here (from_check q j fails))

  first_reference : (fault : LoadFault) (f : IsFirstPlace nothing_of (reference_cause known) ts 1 fault) (n : ℕ) → f.number ≡ suc n → (other : Check) → phase_of other ≡ 4 → Before other (reference_known (suc f.place) (suc n)) → ¬ (Fails ts other)
  first_reference fault f n numbered few_templates is before = absurd (cc is)
  first_reference fault f n numbered (names_well_made t i) is before = absurd (cc is)
  first_reference fault f n numbered (name_new t) is before = absurd (cc is)
  first_reference fault f n numbered (id_new t) is before = absurd (cc is)
  first_reference fault f n numbered (operator_allowed t i q) is before = absurd (cc is)
  first_reference fault f n numbered (constant_has_value t i q) is before = absurd (cc is)
  first_reference fault f n numbered (default_has_value t i q) is before = absurd (cc is)
  first_reference fault f n numbered (value_spelled t i q) is before = absurd (cc is)
  first_reference fault f n numbered (reference_known zero i) is before = no_zero i
  first_reference fault f n numbered (reference_known (suc q) zero) is before = no_first q
  first_reference fault f n numbered (reference_known (suc q) (suc j)) is before = before_place fault f n numbered q j (earlier_or_here (suc q) (suc j) (suc f.place) (suc n) _ refl before)
  first_reference fault f n numbered (off_cycles t) is before = absurd (cc is)
  first_reference fault f n numbered (nests_little t) is before = absurd (cc is)
  first_reference fault f n numbered (sum_small t) is before = absurd (cc is)

  first_at : (fault : LoadFault) → length ts ≤ 65535 → (f : IsFirstPlace nothing_of (reference_cause known) ts 1 fault) (k : ℕ) → f.number ≡ k → CauseIn nothing_of (reference_cause known) ts f.place k f.cause → IsFirstOf ts 4 fault
  first_at fault few f zero numbered here = absurd (no_own f.place f.cause here)
  first_at fault few f (suc n) numbered here =
      let failed = to_check f.place n f.cause here in
      let less : f.place < length ts = within_list ts f.place here.0 here.2 in
      let places : 1 + f.place ≡ min (suc f.place) 4294967295 = omega (arith, less, few) in
      record {
        check = reference_known (suc f.place) (suc n);
        of_phase = refl;
        fails = failed.0;
        first = first_reference fault f n numbered;
        answered = f.answered ∙ (λ i. record { cause = sym failed.1 i; template = places i; instruction = min (numbered i) 4294967295 });
      }

  pub references_fault : (fault : LoadFault) → length ts ≤ 65535 → first_at_fault nothing_of (reference_cause known) ts 1 ≡ Some fault → IsFirstOf ts 4 fault
  references_fault fault few e =
      let f : IsFirstPlace nothing_of (reference_cause known) ts 1 fault = first_place nothing_of (reference_cause known) ts 1 fault e in
      first_at fault few f f.number refl f.here

  pub references_pass : first_at_fault nothing_of (reference_cause known) ts 1 ≡ None → Passes ts 4
  references_pass none few_templates is = absurd (cc is)
  references_pass none (names_well_made t i) is = absurd (cc is)
  references_pass none (name_new t) is = absurd (cc is)
  references_pass none (id_new t) is = absurd (cc is)
  references_pass none (operator_allowed t i q) is = absurd (cc is)
  references_pass none (constant_has_value t i q) is = absurd (cc is)
  references_pass none (default_has_value t i q) is = absurd (cc is)
  references_pass none (value_spelled t i q) is = absurd (cc is)
  references_pass none (reference_known zero i) is = no_zero i
  references_pass none (reference_known (suc q) zero) is = no_first q
  references_pass none (reference_known (suc q) (suc j)) is = λ fails. no_place nothing_of (reference_cause known) ts 1 none q (suc j) D8 (from_check q j fails)
  references_pass none (off_cycles t) is = absurd (cc is)
  references_pass none (nests_little t) is = absurd (cc is)
  references_pass none (sum_small t) is = absurd (cc is)
