-- The phase of operators and initial values, from what is judged of each instruction.
use Rattle.fast_load.proofs.Common.{◌≡◌, ◌≤◌, ◌<◌, ◌+◌, ℕ, zero, suc, List, [], ◌∷◌, length, min, if◌then◌else◌, Option, Some, None, Bool, true, false, ◌⊎◌, inl, inr, refl, sym, ap, subst, ◌∙◌, lit≤, arith, slice_get, option_map_or, option_or, nat_cmp, ordering_then, ranked, Ordering, Less, Equal, Greater, slice_cmp, Operator, Presence, Mandatory, Optional, Scalar, LoadCause, LoadFault, WrittenInstruction, WrittenTemplate, WrittenPart, parts_of, listed, applies, value_of_text, missing_value, value_cause, initial_cause, part_cause, parts_cause, Check, few_templates, names_well_made, name_new, id_new, operator_allowed, constant_has_value, default_has_value, value_spelled, reference_known, off_cycles, nests_little, sum_small, IsPartAt, Fails, Before, turn_of, fault_of, first_at_fault, phase_of, Passes, IsFirstOf}
use Rattle.fast_load.proofs.WalkLaws.{CauseIn, IsFirstPlace, first_place, no_place}

-- the check of a part that a cause is of
abbrev check_of : LoadCause → ℕ → ℕ → ℕ → Check
check_of LoadCause.S2 t i q = operator_allowed t i q
check_of LoadCause.S4 t i q = constant_has_value t i q
check_of LoadCause.S5 t i q = default_has_value t i q
check_of c t i q = value_spelled t i q

-- what fails in a part, by its check
PartFails : LoadCause → WrittenPart → Type 0
PartFails LoadCause.S2 p = applies p.operation.operator p.kind ≡ false
PartFails LoadCause.S4 p = (p.operation.operator ≡ Operator.Constant) × (p.operation.initial ≡ None)
PartFails LoadCause.S5 p = (p.operation.operator ≡ Operator.Default) × (p.presence ≡ Mandatory) × (p.operation.initial ≡ None)
PartFails LoadCause.S3 p = (text : List ℕ) × (p.operation.initial ≡ Some text) × (value_of_text p.part p.kind text ≡ None)
PartFails c p = ⊥

along_cause : (d c : LoadCause) (p : WrittenPart) → PartFails d p → Some d ≡ Some c → PartFails c p
along_cause d c p fails e = let same : d ≡ c = ap (λ o. option_map_or (λ x. x) o d) e in subst (λ x. PartFails x p) same fails

missing_so : (p : WrittenPart) (o : Operator) (r : Presence) (c : LoadCause) → p.operation.operator ≡ o → p.presence ≡ r → p.operation.initial ≡ None → missing_value o r ≡ Some c → PartFails c p
unfolding PartFails
missing_so p Operator.Plain r c is at none e = absurd (cc e)
missing_so p Operator.Constant r c is at none e = along_cause LoadCause.S4 c p (is, none) e
missing_so p Operator.Default Mandatory c is at none e = along_cause LoadCause.S5 c p (is, at, none) e
missing_so p Operator.Default Optional c is at none e = absurd (cc e)
missing_so p Operator.Copy r c is at none e = absurd (cc e)
missing_so p Operator.Increment r c is at none e = absurd (cc e)
missing_so p Operator.Delta r c is at none e = absurd (cc e)
missing_so p Operator.Tail r c is at none e = absurd (cc e)

spelled_so : (p : WrittenPart) (text : List ℕ) (v : Option Scalar) (c : LoadCause) → p.operation.initial ≡ Some text → value_of_text p.part p.kind text ≡ v → value_cause v ≡ Some c → PartFails c p
unfolding PartFails
spelled_so p text None c some is e = along_cause LoadCause.S3 c p (text, some, is) e
spelled_so p text (Some value) c some is e = absurd (cc e)

part_by : (p : WrittenPart) (b : Bool) (o : Option (List ℕ)) (c : LoadCause) → applies p.operation.operator p.kind ≡ b → p.operation.initial ≡ o → (if b then initial_cause p o else Some LoadCause.S2) ≡ Some c → PartFails c p
unfolding PartFails
part_by p false o c not is e = along_cause LoadCause.S2 c p not e
part_by p true None c not is e = missing_so p p.operation.operator p.presence c refl refl is e
part_by p true (Some text) c not is e = spelled_so p text (value_of_text p.part p.kind text) c is refl e

-- what a cause is of fails
part_so : (p : WrittenPart) (c : LoadCause) → part_cause p ≡ Some c → PartFails c p
part_so p c e = part_by p (applies p.operation.operator p.kind) p.operation.initial c refl refl e

-- the rank of a cause's check among those of one part
abbrev rank_of : LoadCause → ℕ
rank_of LoadCause.S2 = 0
rank_of LoadCause.S4 = 1
rank_of LoadCause.S5 = 2
rank_of c = 3

-- a part in which a check fails has a cause, of that check or of one before it
CauseUpTo : ℕ → WrittenPart → Type 0
CauseUpTo n p = (c : LoadCause) × (part_cause p ≡ Some c) × (rank_of c ≤ n)

caused : (p : WrittenPart) (b : Bool) (o : Option LoadCause) (c : LoadCause) (n : ℕ) → applies p.operation.operator p.kind ≡ b → initial_cause p p.operation.initial ≡ Some c → rank_of c ≤ n → CauseUpTo n p
unfolding CauseUpTo
caused p false o c n is e low = (LoadCause.S2, ap (λ b. if b then initial_cause p p.operation.initial else Some LoadCause.S2) is, omega arith)
caused p true o c n is e low = (c, ap (λ b. if b then initial_cause p p.operation.initial else Some LoadCause.S2) is ∙ e, low)

fails_so : (d : LoadCause) (p : WrittenPart) → PartFails d p → CauseUpTo (rank_of d) p
unfolding PartFails CauseUpTo
fails_so LoadCause.S2 p fails = (LoadCause.S2, ap (λ b. if b then initial_cause p p.operation.initial else Some LoadCause.S2) fails, lit≤ tt)
fails_so LoadCause.S4 p fails = caused p (applies p.operation.operator p.kind) None LoadCause.S4 1 refl (ap (initial_cause p) fails.1 ∙ ap (λ o. missing_value o p.presence) fails.0) (lit≤ tt)
fails_so LoadCause.S5 p fails = caused p (applies p.operation.operator p.kind) None LoadCause.S5 2 refl (ap (initial_cause p) fails.2 ∙ (λ i. missing_value (fails.0 i) (fails.1 i))) (lit≤ tt)
fails_so LoadCause.S3 p fails = caused p (applies p.operation.operator p.kind) None LoadCause.S3 3 refl (ap (initial_cause p) fails.1 ∙ ap value_cause fails.2) (lit≤ tt)
fails_so LoadCause.S1 p fails = absurd fails
fails_so LoadCause.D8 p fails = absurd fails
fails_so LoadCause.DuplicateName p fails = absurd fails
fails_so LoadCause.DuplicateId p fails = absurd fails
fails_so LoadCause.Cycle p fails = absurd fails
fails_so LoadCause.TooDeep p fails = absurd fails
fails_so LoadCause.TooMany p fails = absurd fails
fails_so LoadCause.Memory p fails = absurd fails

-- ---- the first part with a cause

record IsFirstPart (ps : List WrittenPart) (c : LoadCause) : Type 0 where
  place : ℕ
  one : WrittenPart
  there : slice_get ps place ≡ Some one
  caused_by : part_cause one ≡ Some c
  before : (q : ℕ) (p : WrittenPart) → q < place → slice_get ps q ≡ Some p → part_cause p ≡ None

before-suc : (x : WrittenPart) (xs : List WrittenPart) (n : ℕ) → part_cause x ≡ None → ((q : ℕ) (p : WrittenPart) → q < n → slice_get xs q ≡ Some p → part_cause p ≡ None) → (q : ℕ) (p : WrittenPart) → q < suc n → slice_get (x ∷ xs) q ≡ Some p → part_cause p ≡ None
before-suc x xs n is others zero p less there = let same : x ≡ p = ap (λ o. option_map_or (λ v. v) o x) there in subst (λ v. part_cause v ≡ None) same is
before-suc x xs n is others (suc q) p less there = others q p (omega (arith, less)) there

first_by : (x : WrittenPart) (xs : List WrittenPart) (c : LoadCause) (o : Option LoadCause) → part_cause x ≡ o → option_or o (parts_cause xs) ≡ Some c → (parts_cause xs ≡ Some c → IsFirstPart xs c) → IsFirstPart (x ∷ xs) c
first_by x xs c None is e go =
    let later : IsFirstPart xs c = go e in
    record { place = suc later.place; one = later.one; there = later.there; caused_by = later.caused_by; before = before-suc x xs later.place is later.before }
first_by x xs c (Some d) is e go = record { place = 0; one = x; there = refl; caused_by = is ∙ e; before = λ q p less there. absurd (omega (arith, less)) }

first_part : (ps : List WrittenPart) (c : LoadCause) → parts_cause ps ≡ Some c → IsFirstPart ps c
first_part [] c e = absurd (cc e)
first_part (x ∷ xs) c e = first_by x xs c (part_cause x) refl e (first_part xs c)

-- a list of parts of which one has a cause has one
some_or : (o : Option LoadCause) (c : LoadCause) (r : Option LoadCause) → r ≡ Some c → (d : LoadCause) × (option_or o r ≡ Some d)
some_or None c r e = (c, e)
some_or (Some d) c r e = (d, refl)

some_cause : (ps : List WrittenPart) (q : ℕ) (p : WrittenPart) (c : LoadCause) → slice_get ps q ≡ Some p → part_cause p ≡ Some c → (d : LoadCause) × (parts_cause ps ≡ Some d)
some_cause [] q p c there e = absurd (cc there)
some_cause (x ∷ xs) zero p c there e = let same : x ≡ p = ap (λ o. option_map_or (λ v. v) o x) there in (c, ap (λ o. option_or o (parts_cause xs)) (ap part_cause same ∙ e))
some_cause (x ∷ xs) (suc q) p c there e = let later = some_cause xs q p c there e in some_or (part_cause x) later.0 (parts_cause xs) later.1

-- ---- checks and their turns

abbrev pub nothing_of : WrittenTemplate → Option LoadCause
nothing_of w = None

abbrev pub of_parts : WrittenInstruction → Option LoadCause
of_parts i = parts_cause (parts_of i)

turn_is : (c : LoadCause) (t i q : ℕ) → turn_of (check_of c t i q) ≡ 3 ∷ t ∷ i ∷ q ∷ rank_of c ∷ []
turn_is LoadCause.S1 t i q = refl
turn_is LoadCause.S2 t i q = refl
turn_is LoadCause.S3 t i q = refl
turn_is LoadCause.S4 t i q = refl
turn_is LoadCause.S5 t i q = refl
turn_is LoadCause.D8 t i q = refl
turn_is LoadCause.DuplicateName t i q = refl
turn_is LoadCause.DuplicateId t i q = refl
turn_is LoadCause.Cycle t i q = refl
turn_is LoadCause.TooDeep t i q = refl
turn_is LoadCause.TooMany t i q = refl
turn_is LoadCause.Memory t i q = refl

phase_is : (c : LoadCause) (t i q : ℕ) → phase_of (check_of c t i q) ≡ 3
phase_is LoadCause.S1 t i q = refl
phase_is LoadCause.S2 t i q = refl
phase_is LoadCause.S3 t i q = refl
phase_is LoadCause.S4 t i q = refl
phase_is LoadCause.S5 t i q = refl
phase_is LoadCause.D8 t i q = refl
phase_is LoadCause.DuplicateName t i q = refl
phase_is LoadCause.DuplicateId t i q = refl
phase_is LoadCause.Cycle t i q = refl
phase_is LoadCause.TooDeep t i q = refl
phase_is LoadCause.TooMany t i q = refl
phase_is LoadCause.Memory t i q = refl

answer_is : (c : LoadCause) (t i q : ℕ) (p : WrittenPart) → PartFails c p → fault_of (check_of c t i q) ≡ record { cause = c; template = min t 4294967295; instruction = min i 4294967295 }
unfolding PartFails
answer_is LoadCause.S2 t i q p fails = refl
answer_is LoadCause.S3 t i q p fails = refl
answer_is LoadCause.S4 t i q p fails = refl
answer_is LoadCause.S5 t i q p fails = refl
answer_is LoadCause.S1 t i q p fails = absurd fails
answer_is LoadCause.D8 t i q p fails = absurd fails
answer_is LoadCause.DuplicateName t i q p fails = absurd fails
answer_is LoadCause.DuplicateId t i q p fails = absurd fails
answer_is LoadCause.Cycle t i q p fails = absurd fails
answer_is LoadCause.TooDeep t i q p fails = absurd fails
answer_is LoadCause.TooMany t i q p fails = absurd fails
answer_is LoadCause.Memory t i q p fails = absurd fails

fails_check : (ts : List WrittenTemplate) (c : LoadCause) (t i q : ℕ) (p : WrittenPart) → IsPartAt ts t i q p → PartFails c p → Fails ts (check_of c t i q)
unfolding PartFails
fails_check ts LoadCause.S2 t i q p at fails = (p, at, fails)
fails_check ts LoadCause.S3 t i q p at fails = (p, fails.0, at, fails.1, fails.2)
fails_check ts LoadCause.S4 t i q p at fails = (p, at, fails.0, fails.1)
fails_check ts LoadCause.S5 t i q p at fails = (p, at, fails.0, fails.1, fails.2)
fails_check ts LoadCause.S1 t i q p at fails = absurd fails
fails_check ts LoadCause.D8 t i q p at fails = absurd fails
fails_check ts LoadCause.DuplicateName t i q p at fails = absurd fails
fails_check ts LoadCause.DuplicateId t i q p at fails = absurd fails
fails_check ts LoadCause.Cycle t i q p at fails = absurd fails
fails_check ts LoadCause.TooDeep t i q p at fails = absurd fails
fails_check ts LoadCause.TooMany t i q p at fails = absurd fails
fails_check ts LoadCause.Memory t i q p at fails = absurd fails

-- one number after the other
lex_by : (a c : ℕ) (xs ys : List ℕ) (o : Ordering) → nat_cmp a c ≡ o → ordering_then o (slice_cmp nat_cmp xs ys) ≡ Less → (a < c) ⊎ ((a ≡ c) × (slice_cmp nat_cmp xs ys ≡ Less))
lex_by a c xs ys Less is e = inl (ranked a c Less (sym is))
lex_by a c xs ys Equal is e = inr (ranked a c Equal (sym is), e)
lex_by a c xs ys Greater is e = absurd (cc e)

lex_step : (a c : ℕ) (xs ys : List ℕ) → slice_cmp nat_cmp (a ∷ xs) (c ∷ ys) ≡ Less → (a < c) ⊎ ((a ≡ c) × (slice_cmp nat_cmp xs ys ≡ Less))
lex_step a c xs ys e = lex_by a c xs ys (nat_cmp a c) refl e

none_some : {A : Type 0} (x : A) → None ≡ Some x → ⊥
none_some x e = cc e

same_some : {A : Type 0} (x y : A) → Some x ≡ Some y → x ≡ y
same_some x y e = ap (λ o. option_map_or (λ v. v) o x) e

-- ---- nothing of the phase fails before the first cause

module _ (ts : List WrittenTemplate) (fault : LoadFault) (f : IsFirstPlace nothing_of of_parts ts 1 fault) (n : ℕ) (numbered : f.number ≡ suc n)
    (w : WrittenTemplate) (x : WrittenInstruction) (w_there : slice_get ts f.place ≡ Some w) (x_there : slice_get (listed w.members) n ≡ Some x) (g : IsFirstPart (parts_of x) f.cause) where
  same_rank : (p : WrittenPart) (d : LoadCause) → p ≡ g.one → CauseUpTo (rank_of d) p → (rank_of d < rank_of f.cause) ⊎ ((rank_of d ≡ rank_of f.cause) × (slice_cmp nat_cmp [] [] ≡ Less)) → ⊥
  unfolding CauseUpTo
  same_rank p d same (c, e, low) (inl less) =
      let causes : c ≡ f.cause = same_some c f.cause (sym e ∙ ap part_cause same ∙ g.caused_by) in
      let ranks : rank_of c ≡ rank_of f.cause = ap rank_of causes in
      absurd (omega (arith, low, less, ranks))
  same_rank p d same up (inr none) = absurd (cc none.1)

  same_part : (q : ℕ) (p : WrittenPart) (d : LoadCause) → slice_get (parts_of x) q ≡ Some p → CauseUpTo (rank_of d) p → (q < g.place) ⊎ ((q ≡ g.place) × (slice_cmp nat_cmp (rank_of d ∷ []) (rank_of f.cause ∷ []) ≡ Less)) → ⊥
  unfolding CauseUpTo
  same_part q p d there (c, e, low) (inl less) = none_some c (sym (g.before q p less there) ∙ e)
  same_part q p d there up (inr both) =
      let same : p ≡ g.one = same_some p g.one (sym there ∙ ap (slice_get (parts_of x)) both.0 ∙ g.there) in
      same_rank p d same up (lex_step (rank_of d) (rank_of f.cause) [] [] both.1)

  same_instruction : (v : WrittenTemplate) (y : WrittenInstruction) (j q : ℕ) (p : WrittenPart) (d c : LoadCause) → slice_get ts f.place ≡ Some v → slice_get (listed v.members) j ≡ Some y → slice_get (parts_of y) q ≡ Some p → parts_cause (parts_of y) ≡ Some c → CauseUpTo (rank_of d) p
      → (suc j < suc n) ⊎ ((suc j ≡ suc n) × (slice_cmp nat_cmp (q ∷ rank_of d ∷ []) (g.place ∷ rank_of f.cause ∷ []) ≡ Less)) → ⊥
  same_instruction v y j q p d c v_there y_there p_there e up (inl less) = f.before (suc j) c (subst (λ m. suc j < m) (sym numbered) less) (v, y, v_there, y_there, e)
  same_instruction v y j q p d c v_there y_there p_there e up (inr both) =
      let places : j ≡ n = omega (arith, both.0) in
      let templates : v ≡ w = same_some v w (sym v_there ∙ w_there) in
      let instructions : y ≡ x = same_some y x (sym y_there ∙ (λ i. slice_get (listed (templates i).members) (places i)) ∙ x_there) in
      same_part q p d (ap (λ z. slice_get (parts_of z) q) (sym instructions) ∙ p_there) up (lex_step q g.place (rank_of d ∷ []) (rank_of f.cause ∷ []) both.1)

  same_template : (v : WrittenTemplate) (y : WrittenInstruction) (u j q : ℕ) (p : WrittenPart) (d c : LoadCause) → slice_get ts u ≡ Some v → slice_get (listed v.members) j ≡ Some y → slice_get (parts_of y) q ≡ Some p → parts_cause (parts_of y) ≡ Some c → CauseUpTo (rank_of d) p
      → (suc u < suc f.place) ⊎ ((suc u ≡ suc f.place) × (slice_cmp nat_cmp (suc j ∷ q ∷ rank_of d ∷ []) (suc n ∷ g.place ∷ rank_of f.cause ∷ []) ≡ Less)) → ⊥
  same_template v y u j q p d c v_there y_there p_there e up (inl less) = f.earlier u (suc j) c (omega (arith, less)) (v, y, v_there, y_there, e)
  same_template v y u j q p d c v_there y_there p_there e up (inr both) =
      let places : u ≡ f.place = omega (arith, both.0) in
      same_instruction v y j q p d c (ap (slice_get ts) (sym places) ∙ v_there) y_there p_there e up (lex_step (suc j) (suc n) (q ∷ rank_of d ∷ []) (g.place ∷ rank_of f.cause ∷ []) both.1)

  found_before : (t i q : ℕ) (p : WrittenPart) (d : LoadCause) → IsPartAt ts t i q p → CauseUpTo (rank_of d) p → slice_cmp nat_cmp (t ∷ i ∷ q ∷ rank_of d ∷ []) (suc f.place ∷ suc n ∷ g.place ∷ rank_of f.cause ∷ []) ≡ Less → ⊥
  unfolding CauseUpTo
  found_before zero i q p d at up less = absurd (cc at.1.1)
  found_before (suc u) zero q p d at up less = absurd (cc at.1.2)
  found_before (suc u) (suc j) q p d at up less =
      let some = some_cause (parts_of at.0) q p up.0 at.2 up.1 in
      same_template at.1.0 at.0 u j q p d some.0 at.1.1 at.1.2 at.2 some.1 up (lex_step (suc u) (suc f.place) (suc j ∷ q ∷ rank_of d ∷ []) (suc n ∷ g.place ∷ rank_of f.cause ∷ []) less)

  turned : (turn : List ℕ) → slice_cmp nat_cmp (3 ∷ turn) (turn_of (check_of f.cause (suc f.place) (suc n) g.place)) ≡ Less → slice_cmp nat_cmp turn (suc f.place ∷ suc n ∷ g.place ∷ rank_of f.cause ∷ []) ≡ Less
  turned turn e = sym (ap (slice_cmp nat_cmp (3 ∷ turn)) (turn_is f.cause (suc f.place) (suc n) g.place)) ∙ e

  nothing_before : (other : Check) → phase_of other ≡ 3 → Before other (check_of f.cause (suc f.place) (suc n) g.place) → ¬ (Fails ts other)
  unfolding PartFails
  nothing_before few_templates is before = absurd (cc is)
  nothing_before (names_well_made t i) is before = absurd (cc is)
  nothing_before (name_new t) is before = absurd (cc is)
  nothing_before (id_new t) is before = absurd (cc is)
  nothing_before (operator_allowed t i q) is before = λ fails. found_before t i q fails.0 LoadCause.S2 fails.1 (fails_so LoadCause.S2 fails.0 fails.2) (turned (t ∷ i ∷ q ∷ 0 ∷ []) before)
  nothing_before (constant_has_value t i q) is before = λ fails. found_before t i q fails.0 LoadCause.S4 fails.1 (fails_so LoadCause.S4 fails.0 (fails.2, fails.3)) (turned (t ∷ i ∷ q ∷ 1 ∷ []) before)
  nothing_before (default_has_value t i q) is before = λ fails. found_before t i q fails.0 LoadCause.S5 fails.1 (fails_so LoadCause.S5 fails.0 (fails.2, fails.3, fails.4)) (turned (t ∷ i ∷ q ∷ 2 ∷ []) before)
  nothing_before (value_spelled t i q) is before = λ fails. found_before t i q fails.0 LoadCause.S3 fails.2 (fails_so LoadCause.S3 fails.0 (fails.1, fails.3, fails.4)) (turned (t ∷ i ∷ q ∷ 3 ∷ []) before)
  nothing_before (reference_known t i) is before = absurd (cc is)
  nothing_before (off_cycles t) is before = absurd (cc is)
  nothing_before (nests_little t) is before = absurd (cc is)
  nothing_before (sum_small t) is before = absurd (cc is)

-- ---- the phase

within_list : (ts : List WrittenTemplate) (p : ℕ) (w : WrittenTemplate) → slice_get ts p ≡ Some w → p < length ts
within_list [] p w e = absurd (cc e)
within_list (t ∷ ts) zero w e = omega arith
within_list (t ∷ ts) (suc p) w e = let less : p < length ts = within_list ts p w e in omega (arith, less)

first_at : (ts : List WrittenTemplate) (fault : LoadFault) → length ts ≤ 65535 → (f : IsFirstPlace nothing_of of_parts ts 1 fault) (k : ℕ) → f.number ≡ k → CauseIn nothing_of of_parts ts f.place k f.cause → IsFirstOf ts 3 fault
first_at ts fault few f zero numbered (w, there, none) = absurd (none_some f.cause none)
first_at ts fault few f (suc n) numbered (w, x, w_there, x_there, e) =
    let g : IsFirstPart (parts_of x) f.cause = first_part (parts_of x) f.cause e in
    let less : f.place < length ts = within_list ts f.place w w_there in
    let fails : PartFails f.cause g.one = part_so g.one f.cause g.caused_by in
    let places : 1 + f.place ≡ min (suc f.place) 4294967295 = omega (arith, less, few) in
    record {
      check = check_of f.cause (suc f.place) (suc n) g.place;
      of_phase = phase_is f.cause (suc f.place) (suc n) g.place;
      fails = fails_check ts f.cause (suc f.place) (suc n) g.place g.one (x, (w, w_there, x_there), g.there) fails;
      first = nothing_before ts fault f n numbered w x w_there x_there g;
      answered =
          f.answered
          ∙ (λ i. record { cause = f.cause; template = places i; instruction = min (numbered i) 4294967295 })
          ∙ sym (answer_is f.cause (suc f.place) (suc n) g.place g.one fails);
    }

pub operators_fault : (ts : List WrittenTemplate) (fault : LoadFault) → length ts ≤ 65535 → first_at_fault nothing_of of_parts ts 1 ≡ Some fault → IsFirstOf ts 3 fault
operators_fault ts fault few e =
    let f : IsFirstPlace nothing_of of_parts ts 1 fault = first_place nothing_of of_parts ts 1 fault e in
    first_at ts fault few f f.number refl f.here

no_part : (ts : List WrittenTemplate) → first_at_fault nothing_of of_parts ts 1 ≡ None → (t i q : ℕ) (p : WrittenPart) (n : ℕ) → IsPartAt ts t i q p → CauseUpTo n p → ⊥
unfolding CauseUpTo
no_part ts none zero i q p n at up = absurd (cc at.1.1)
no_part ts none (suc u) zero q p n at up = absurd (cc at.1.2)
no_part ts none (suc u) (suc j) q p n at up =
    let some = some_cause (parts_of at.0) q p up.0 at.2 up.1 in
    no_place nothing_of of_parts ts 1 none u (suc j) some.0 (at.1.0, at.0, at.1.1, at.1.2, some.1)

pub operators_pass : (ts : List WrittenTemplate) → first_at_fault nothing_of of_parts ts 1 ≡ None → Passes ts 3
unfolding PartFails
operators_pass ts none few_templates is = absurd (cc is)
operators_pass ts none (names_well_made t i) is = absurd (cc is)
operators_pass ts none (name_new t) is = absurd (cc is)
operators_pass ts none (id_new t) is = absurd (cc is)
operators_pass ts none (operator_allowed t i q) is = λ fails. no_part ts none t i q fails.0 0 fails.1 (fails_so LoadCause.S2 fails.0 fails.2)
operators_pass ts none (constant_has_value t i q) is = λ fails. no_part ts none t i q fails.0 1 fails.1 (fails_so LoadCause.S4 fails.0 (fails.2, fails.3))
operators_pass ts none (default_has_value t i q) is = λ fails. no_part ts none t i q fails.0 2 fails.1 (fails_so LoadCause.S5 fails.0 (fails.2, fails.3, fails.4))
operators_pass ts none (value_spelled t i q) is = λ fails. no_part ts none t i q fails.0 3 fails.2 (fails_so LoadCause.S3 fails.0 (fails.1, fails.3, fails.4))
operators_pass ts none (reference_known t i) is = absurd (cc is)
operators_pass ts none (off_cycles t) is = absurd (cc is)
operators_pass ts none (nests_little t) is = absurd (cc is)
operators_pass ts none (sum_small t) is = absurd (cc is)
