-- The first fault of a load, from the first phase that has one.
use Rattle.fast_load.proofs.Common.{◌≡◌, ◌≤◌, ◌<◌, ℕ, suc, List, [], ◌∷◌, length, ◌⊎◌, inl, inr, refl, sym, subst, ◌∙◌, arith, nat_cmp, ordering_then, ranked, Ordering, Less, Equal, Greater, slice_cmp, LoadFault, TooMany, WrittenTemplate, Check, few_templates, names_well_made, name_new, id_new, operator_allowed, constant_has_value, default_has_value, value_spelled, reference_known, off_cycles, nests_little, sum_small, Fails, Before, turn_of, IsFirstFault, phase_of, Passes, IsFirstOf}

-- what stands behind the phase in a check's turn
abbrev rest_of : Check → List ℕ
rest_of few_templates = []
rest_of (names_well_made t i) = t ∷ i ∷ []
rest_of (name_new t) = t ∷ 0 ∷ []
rest_of (id_new t) = t ∷ 1 ∷ []
rest_of (operator_allowed t i part) = t ∷ i ∷ part ∷ 0 ∷ []
rest_of (constant_has_value t i part) = t ∷ i ∷ part ∷ 1 ∷ []
rest_of (default_has_value t i part) = t ∷ i ∷ part ∷ 2 ∷ []
rest_of (value_spelled t i part) = t ∷ i ∷ part ∷ 3 ∷ []
rest_of (reference_known t i) = t ∷ i ∷ []
rest_of (off_cycles t) = t ∷ []
rest_of (nests_little t) = t ∷ 0 ∷ []
rest_of (sum_small t) = t ∷ 1 ∷ []

turn_is : (c : Check) → turn_of c ≡ phase_of c ∷ rest_of c
turn_is few_templates = refl
turn_is (names_well_made t i) = refl
turn_is (name_new t) = refl
turn_is (id_new t) = refl
turn_is (operator_allowed t i part) = refl
turn_is (constant_has_value t i part) = refl
turn_is (default_has_value t i part) = refl
turn_is (value_spelled t i part) = refl
turn_is (reference_known t i) = refl
turn_is (off_cycles t) = refl
turn_is (nests_little t) = refl
turn_is (sum_small t) = refl

head_by : (a c : ℕ) (xs ys : List ℕ) (o : Ordering) → nat_cmp a c ≡ o → ordering_then o (slice_cmp nat_cmp xs ys) ≡ Less → (a < c) ⊎ (a ≡ c)
head_by a c xs ys Less is e = inl (ranked a c Less (sym is))
head_by a c xs ys Equal is e = inr (ranked a c Equal (sym is))
head_by a c xs ys Greater is e = absurd (cc e)

-- a check before another is of an earlier phase or of the same
phases : (a b : Check) → Before a b → (phase_of a < phase_of b) ⊎ (phase_of a ≡ phase_of b)
phases a b e = head_by (phase_of a) (phase_of b) (rest_of a) (rest_of b) _ refl (sym (λ i. slice_cmp nat_cmp (turn_is a i) (turn_is b i)) ∙ e)

-- no check of a phase before this one fails
abbrev pub PassesBefore : List WrittenTemplate → ℕ → Type 0
PassesBefore ts phase = (p : ℕ) → p < phase → Passes ts p

pub first_fault : (ts : List WrittenTemplate) (phase : ℕ) (fault : LoadFault) → PassesBefore ts phase → IsFirstOf ts phase fault → IsFirstFault ts fault
first_fault ts phase fault passes f = record {
  check = f.check;
  fails = f.fails;
  first = λ other before. none_before other before (phases other f.check before);
  answered = f.answered;
} where
  none_before : (other : Check) → Before other f.check → (phase_of other < phase_of f.check) ⊎ (phase_of other ≡ phase_of f.check) → ¬ (Fails ts other)
  none_before other before (inl less) = passes (phase_of other) (subst (λ n. phase_of other < n) f.of_phase less) other refl
  none_before other before (inr same) = f.first other (same ∙ f.of_phase) before

pub none_before_first : (ts : List WrittenTemplate) → PassesBefore ts 0
none_before_first ts p less = absurd (omega (arith, less))

pub and_this : (ts : List WrittenTemplate) (phase : ℕ) → PassesBefore ts phase → Passes ts phase → PassesBefore ts (suc phase)
and_this ts phase before this p less = by_order (nat_cmp p phase) refl where
  by_order : (o : Ordering) → nat_cmp p phase ≡ o → Passes ts p
  by_order Less is = before p (ranked p phase Less (sym is))
  by_order Equal is = subst (Passes ts) (sym (ranked p phase Equal (sym is))) this
  by_order Greater is = let past : phase < p = ranked p phase Greater (sym is) in absurd (omega (arith, past, less))

few_pass : (ts : List WrittenTemplate) → length ts ≤ 65535 → (c : Check) → phase_of c ≡ 0 → ¬ (Fails ts c)
few_pass ts few few_templates is fails = absurd (omega (arith, few, fails))
few_pass ts few (names_well_made t i) is fails = absurd (cc is)
few_pass ts few (name_new t) is fails = absurd (cc is)
few_pass ts few (id_new t) is fails = absurd (cc is)
few_pass ts few (operator_allowed t i part) is fails = absurd (cc is)
few_pass ts few (constant_has_value t i part) is fails = absurd (cc is)
few_pass ts few (default_has_value t i part) is fails = absurd (cc is)
few_pass ts few (value_spelled t i part) is fails = absurd (cc is)
few_pass ts few (reference_known t i) is fails = absurd (cc is)
few_pass ts few (off_cycles t) is fails = absurd (cc is)
few_pass ts few (nests_little t) is fails = absurd (cc is)
few_pass ts few (sum_small t) is fails = absurd (cc is)

pub templates_pass : (ts : List WrittenTemplate) → length ts ≤ 65535 → Passes ts 0
templates_pass ts few = few_pass ts few

none_first : (other : Check) → Before other few_templates → (phase_of other < 0) ⊎ (phase_of other ≡ 0) → ⊥
none_first other before (inl less) = absurd (omega (arith, less))
none_first few_templates before (inr same) = absurd (cc before)
none_first (names_well_made t i) before (inr same) = absurd (cc same)
none_first (name_new t) before (inr same) = absurd (cc same)
none_first (id_new t) before (inr same) = absurd (cc same)
none_first (operator_allowed t i part) before (inr same) = absurd (cc same)
none_first (constant_has_value t i part) before (inr same) = absurd (cc same)
none_first (default_has_value t i part) before (inr same) = absurd (cc same)
none_first (value_spelled t i part) before (inr same) = absurd (cc same)
none_first (reference_known t i) before (inr same) = absurd (cc same)
none_first (off_cycles t) before (inr same) = absurd (cc same)
none_first (nests_little t) before (inr same) = absurd (cc same)
none_first (sum_small t) before (inr same) = absurd (cc same)

pub templates_fault : (ts : List WrittenTemplate) → 65535 < length ts → IsFirstFault ts (record { cause = TooMany; template = 0; instruction = 0 })
templates_fault ts many = record {
  check = few_templates;
  fails = many;
  first = λ other before fails. none_first other before (phases other few_templates before);
  answered = refl;
}

-- up to the phase of references
pub all_pass : (ts : List WrittenTemplate) → length ts ≤ 65535 → Passes ts 1 → Passes ts 2 → Passes ts 3 → Passes ts 4 → PassesBefore ts 5
all_pass ts few names duplicates operators references =
    and_this ts 4 (and_this ts 3 (and_this ts 2 (and_this ts 1 (and_this ts 0 (none_before_first ts) (templates_pass ts few)) names) duplicates) operators) references

pub either : (ts : List WrittenTemplate) (phase : ℕ) (fault memory : LoadFault) → PassesBefore ts phase → IsFirstOf ts phase fault ⊎ (fault ≡ memory) → IsFirstFault ts fault ⊎ (fault ≡ memory)
either ts phase fault memory passes (inl first) = inl (first_fault ts phase fault passes first)
either ts phase fault memory passes (inr is) = inr is
