-- The phase of names, from what is judged of each template and instruction.
use Rattle.fast_load.proofs.Common.{◌≡◌, ◌≤◌, ◌<◌, ◌+◌, ℕ, zero, suc, List, [], ◌∷◌, length, min, if◌then◌else◌, Option, Some, None, Bool, true, false, ◌⊎◌, inl, inr, refl, sym, ap, subst, ◌∙◌, arith, slice_get, option_map_or, list_all, nat_cmp, ordering_then, ranked, Ordering, Less, Equal, Greater, slice_cmp, LoadCause, S1, LoadFault, WrittenInstruction, WrittenTemplate, Check, few_templates, names_well_made, name_new, id_new, operator_allowed, constant_has_value, default_has_value, value_spelled, reference_known, off_cycles, nests_little, sum_small, names_of, names_in, Fails, Before, is_name, first_at_fault, phase_of, Passes, IsFirstOf}
use Rattle.fast_load.proofs.WalkLaws.{CauseIn, IsFirstPlace, first_place, no_place}

abbrev pub name_cause : List (List ℕ) → Option LoadCause
name_cause names = if list_all is_name names then None else Some S1

abbrev pub of_template : WrittenTemplate → Option LoadCause
of_template w = name_cause (names_of w)

abbrev pub of_instruction : WrittenInstruction → Option LoadCause
of_instruction i = name_cause (names_in i)

bad : (b : Bool) (c : LoadCause) → (if b then None else Some S1) ≡ Some c → b ≡ false
bad true c e = absurd (cc e)
bad false c e = refl

only_S1 : (b : Bool) (c : LoadCause) → (if b then None else Some S1) ≡ Some c → S1 ≡ c
only_S1 true c e = absurd (cc e)
only_S1 false c e = ap (λ o. option_map_or (λ x. x) o S1) e

-- a cause at a place is a failed check there, and the other way round
to_check : (ts : List WrittenTemplate) (p k : ℕ) (c : LoadCause) → CauseIn of_template of_instruction ts p k c → Fails ts (names_well_made (suc p) k)
to_check ts p zero c found = (names_of found.0, (found.0, found.1, refl), bad (list_all is_name (names_of found.0)) c found.2)
to_check ts p (suc i) c found = (names_in found.1, (found.1, (found.0, found.2, found.3), refl), bad (list_all is_name (names_in found.1)) c found.4)

from_check : (ts : List WrittenTemplate) (p k : ℕ) → Fails ts (names_well_made (suc p) k) → CauseIn of_template of_instruction ts p k S1
from_check ts p zero (names, at, not) = (at.0, at.1, ap (λ b. if b then None else Some S1) (ap (list_all is_name) (sym at.2) ∙ not))
from_check ts p (suc i) (names, at, not) = (at.1.0, at.0, at.1.1, at.1.2, ap (λ b. if b then None else Some S1) (ap (list_all is_name) (sym at.2) ∙ not))

no_zero : (ts : List WrittenTemplate) (k : ℕ) → ¬ (Fails ts (names_well_made zero k))
no_zero ts zero (names, at, not) = absurd (cc at.1)
no_zero ts (suc i) (names, at, not) = absurd (cc at.1.1)

cause_is : (ts : List WrittenTemplate) (p k : ℕ) (c : LoadCause) → CauseIn of_template of_instruction ts p k c → S1 ≡ c
cause_is ts p zero c found = only_S1 (list_all is_name (names_of found.0)) c found.2
cause_is ts p (suc i) c found = only_S1 (list_all is_name (names_in found.1)) c found.4

-- ---- the order of places

then_less : (o : Ordering) → ordering_then o Equal ≡ Less → o ≡ Less
then_less Less e = refl
then_less Equal e = e
then_less Greater e = e

pub earlier_or_here : (a b c d : ℕ) (o : Ordering) → nat_cmp a c ≡ o → slice_cmp nat_cmp (a ∷ b ∷ []) (c ∷ d ∷ []) ≡ Less → (a < c) ⊎ ((a ≡ c) × (b < d))
earlier_or_here a b c d Less is less = inl (ranked a c Less (sym is))
earlier_or_here a b c d Equal is less =
    let behind : ordering_then (nat_cmp b d) Equal ≡ Less = sym (ap (λ r. ordering_then r (ordering_then (nat_cmp b d) Equal)) is) ∙ less in
    inr (ranked a c Equal (sym is), ranked b d Less (sym (then_less (nat_cmp b d) behind)))
earlier_or_here a b c d Greater is less =
    absurd (cc (sym (ap (λ r. ordering_then r (ordering_then (nat_cmp b d) Equal)) is) ∙ less))

within_list : (ts : List WrittenTemplate) (p : ℕ) (w : WrittenTemplate) → slice_get ts p ≡ Some w → p < length ts
within_list [] p w e = absurd (cc e)
within_list (t ∷ ts) zero w e = omega arith
within_list (t ∷ ts) (suc p) w e = let less : p < length ts = within_list ts p w e in omega (arith, less)

template_there : (ts : List WrittenTemplate) (p k : ℕ) (c : LoadCause) → CauseIn of_template of_instruction ts p k c → p < length ts
template_there ts p zero c found = within_list ts p found.0 found.1
template_there ts p (suc i) c found = within_list ts p found.0 found.2

-- ---- the phase

pub names_pass : (ts : List WrittenTemplate) → first_at_fault of_template of_instruction ts 1 ≡ None → Passes ts 1
names_pass ts none few_templates is = absurd (cc is)
names_pass ts none (names_well_made zero k) is = no_zero ts k
names_pass ts none (names_well_made (suc p) k) is = λ fails. no_place of_template of_instruction ts 1 none p k S1 (from_check ts p k fails)
names_pass ts none (name_new t) is = absurd (cc is)
names_pass ts none (id_new t) is = absurd (cc is)
names_pass ts none (operator_allowed t i part) is = absurd (cc is)
names_pass ts none (constant_has_value t i part) is = absurd (cc is)
names_pass ts none (default_has_value t i part) is = absurd (cc is)
names_pass ts none (value_spelled t i part) is = absurd (cc is)
names_pass ts none (reference_known t i) is = absurd (cc is)
names_pass ts none (off_cycles t) is = absurd (cc is)
names_pass ts none (nests_little t) is = absurd (cc is)
names_pass ts none (sum_small t) is = absurd (cc is)

before_place : (ts : List WrittenTemplate) (fault : LoadFault) (f : IsFirstPlace of_template of_instruction ts 1 fault) (q i : ℕ) → (suc q < suc f.place) ⊎ ((suc q ≡ suc f.place) × (i < f.number)) → ¬ (Fails ts (names_well_made (suc q) i))
before_place ts fault f q i (inl less) fails = f.earlier q i S1 (omega (arith, less)) (from_check ts q i fails)
before_place ts fault f q i (inr both) fails =
    let here : q ≡ f.place = omega (arith, both.0) in
    f.before i S1 both.1 (subst (λ p. CauseIn of_template of_instruction ts p i S1) here (from_check ts q i fails))

first_name : (ts : List WrittenTemplate) (fault : LoadFault) (f : IsFirstPlace of_template of_instruction ts 1 fault) (other : Check) → phase_of other ≡ 1 → Before other (names_well_made (suc f.place) f.number) → ¬ (Fails ts other)
first_name ts fault f few_templates is before = absurd (cc is)
first_name ts fault f (names_well_made zero i) is before = no_zero ts i
first_name ts fault f (names_well_made (suc q) i) is before = before_place ts fault f q i (earlier_or_here (suc q) i (suc f.place) f.number _ refl before)
first_name ts fault f (name_new t) is before = absurd (cc is)
first_name ts fault f (id_new t) is before = absurd (cc is)
first_name ts fault f (operator_allowed t i part) is before = absurd (cc is)
first_name ts fault f (constant_has_value t i part) is before = absurd (cc is)
first_name ts fault f (default_has_value t i part) is before = absurd (cc is)
first_name ts fault f (value_spelled t i part) is before = absurd (cc is)
first_name ts fault f (reference_known t i) is before = absurd (cc is)
first_name ts fault f (off_cycles t) is before = absurd (cc is)
first_name ts fault f (nests_little t) is before = absurd (cc is)
first_name ts fault f (sum_small t) is before = absurd (cc is)

pub names_fault : (ts : List WrittenTemplate) (fault : LoadFault) → length ts ≤ 65535 → first_at_fault of_template of_instruction ts 1 ≡ Some fault → IsFirstOf ts 1 fault
names_fault ts fault few e =
    let f : IsFirstPlace of_template of_instruction ts 1 fault = first_place of_template of_instruction ts 1 fault e in
    let there : f.place < length ts = template_there ts f.place f.number f.cause f.here in
    let causes : f.cause ≡ S1 = sym (cause_is ts f.place f.number f.cause f.here) in
    let places : 1 + f.place ≡ min (suc f.place) 4294967295 = omega (arith, there, few) in
    record {
      check = names_well_made (suc f.place) f.number;
      of_phase = refl;
      fails = to_check ts f.place f.number f.cause f.here;
      first = first_name ts fault f;
      answered = f.answered ∙ (λ i. record { cause = causes i; template = places i; instruction = min f.number 4294967295 });
    }
