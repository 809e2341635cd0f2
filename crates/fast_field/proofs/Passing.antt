-- What fields that bit 0 gives rest on, and numbers as values.
use Rattle.fast_field.proofs.Common.{◌≡◌, Bool, true, false, [], Result, Ok, refl, sym, ap, subst, ◌∙◌, ℤ, pos, ◌+ℤ◌, int_lt, if◌then◌else◌, Option, Some, None, IsTrue, Level, Usual, operator_needs_bit, is_of, kind_of, least_of, greatest_of, of_integer, Kind, Operator, Part, Presence, Mandatory, Optional, FieldPart, Scalar, Entry, Empty, Assigned, FieldFault, Absent, Present, repeated, predicted, next, next_of, written_entry, uncut, FormOf, FormBy, IsWithin, within_part, assigned_of, IsNumber, number_within, IsFieldNumber, next_number, IsNumberOf, HasNumber, Repeats, Predicts, IsBitOf, HasDefault, Passes, IsPassed, integer_of, increased}
use Rattle.fast_field.proofs.BaseSteps.{is_of-kind}
use Rattle.fast_field.proofs.BestForms.{bit_zero_is_best}
use Rattle.fast_field.proofs.FieldForms.{field_forms}
use Rattle.fast_field.proofs.StandingForms.{number_of}
use Rattle.fast_field.proofs.ValuesWithin.{IsOfType, number_within as within_type}

-- ---- numbers as values

pub of_type : (k : Kind) (z : ℤ) → IsNumber k z → IsOfType k (of_integer k z)
of_type k z h = within_type k z h.integer h.range

pub of_kind : (k : Kind) (z : ℤ) → IsNumber k z → IsTrue (is_of k (of_integer k z))
of_kind k z h = (of_type k z h).0

pub number_back : (k : Kind) (z : ℤ) → IsNumber k z → integer_of (of_integer k z) ≡ z
number_back k z h = number_of k z h.integer h.range

within_as : (p : Part) (v : Scalar) (z : ℤ) → integer_of v ≡ z → IsTrue (number_within p z) → IsTrue (within_part p v)
within_as Part.Exponent v z e h = rw e h
within_as Part.Length v z e h = rw e h
within_as p v z e h = refl

pub within_number : (k : Kind) (p : Part) (z : ℤ) → IsFieldNumber k p z → IsTrue (within_part p (of_integer k z))
within_number k p z h = within_as p (of_integer k z) z (number_back k z h.number) h.within

pub kind_is : (k : Kind) (v : Scalar) (z : ℤ) → IsNumberOf k v z → is_of k v ≡ true
kind_is k v z h = rw h.value (of_kind k z h.number)

pub number_is : (k : Kind) (v : Scalar) (z : ℤ) → IsNumberOf k v z → integer_of v ≡ z
number_is k v z h = ap integer_of h.value ∙ number_back k z h.number

moved_in : (f : ℤ → Scalar) (t : Bool) (y z : ℤ) → (if t then f y else f z) ≡ f (if t then y else z)
moved_in f true y z = refl
moved_in f false y z = refl

pub increased_is : (k : Kind) (v : Scalar) (z : ℤ) → IsNumberOf k v z → increased v ≡ of_integer k (next_number k z)
increased_is k v z h =
    let e : kind_of v ≡ k = is_of-kind k v (kind_is k v z h) in
    let n : integer_of v ≡ z = number_is k v z h in
    rw (e, n) (moved_in (of_integer k) (int_lt z (greatest_of k)) (z +ℤ pos 1) (least_of k))

-- ---- bit 0

-- an operator that predicts has a bit, and writes what it predicted
record Predicting (o : Operator) : Type 0 where
  bit : (p : Presence) → operator_needs_bit o p ≡ false → false ≡ true
  default : o ≡ Operator.Default → ⊥
  row : (i : FieldPart) (e : Entry) (v : Option Scalar) → predicted i e ≡ Ok v → FormOf Usual o i e false uncut [] v
  entry : (e : Entry) (v : Option Scalar) → written_entry v ≡ next_of o e v

predicting : (o : Operator) → Predicts o → Predicting o
predicting Operator.Copy h = record { bit = λ p e. absurd cc; default = λ e. cc; row = λ i e v p. (refl, refl, p); entry = λ e v. refl }
predicting Operator.Increment h = record { bit = λ p e. absurd cc; default = λ e. cc; row = λ i e v p. (refl, refl, p); entry = λ e v. refl }
predicting Operator.Tail h = record { bit = λ p e. absurd cc; default = λ e. cc; row = λ i e v p. (refl, refl, p); entry = λ e v. refl }
predicting o h = absurd h

-- bit 0 takes no bytes, so no level judges it
bit_zero_row_at : (level : Level) (o : Operator) (i : FieldPart) (e : Entry) (v : Option Scalar) → FormOf Usual o i e false uncut [] v → FormOf level o i e false uncut [] v
bit_zero_row_at level Operator.Plain i e v h = h
bit_zero_row_at level o i e v h = h

passes : (i : FieldPart) (old new : Entry) (v : Option Scalar) → IsBitOf i false → HasDefault i → FormBy Usual i old false uncut [] v → new ≡ next i old v → Passes i old new v
passes i old new v bit default form entry = record {
  read = λ level bytes. (field_forms level i old false bit default).again [] v bytes (uncut, record { row = bit_zero_row_at level i.operator i old v form.row; within = form.within });
  entry = entry;
  best = bit_zero_is_best i old v form;
}

predicted_passes : (i : FieldPart) (old : Entry) (v : Option Scalar) → Predicts i.operator → predicted i old ≡ Ok v → IsWithin i.part v → Passes i old (written_entry v) v
predicted_passes i old v h p within =
    let o = predicting i.operator h in
    passes i old (written_entry v) v (o.bit i.presence) (λ is m. absurd (o.default is)) (record { row = o.row i old v p; within = within }) (o.entry old v)

repeats_predicts : (o : Operator) → Repeats o → Predicts o
repeats_predicts Operator.Copy h = tt
repeats_predicts Operator.Tail h = tt
repeats_predicts o h = absurd h

repeats : (o : Operator) (v : Scalar) → Repeats o → repeated o v ≡ v
repeats Operator.Copy v h = refl
repeats Operator.Tail v h = refl
repeats o v h = absurd h

abbrev known : Option Scalar → Result (Option Scalar) FieldFault
known v = Ok v

assigned_predicted : (i : FieldPart) (v w : Scalar) → is_of i.kind v ≡ true → repeated i.operator v ≡ w → predicted i (Assigned v) ≡ Ok (Some w)
assigned_predicted i v w is e = rw is (ap (λ (x : Scalar). known (Some x)) e)

pub kept_passes : (i : FieldPart) (v : Scalar) → Repeats i.operator → is_of i.kind v ≡ true → IsTrue (within_part i.part v) → IsPassed i (Assigned v) (Assigned v) Present
kept_passes i v h is within = (v, is, predicted_passes i (Assigned v) (Some v) (repeats_predicts i.operator h) (assigned_predicted i v v is (repeats i.operator v h)) within)

entry_given : (i : FieldPart) (e : Entry) (z : ℤ) → i.operator ≡ Operator.Increment → HasNumber i.kind e z → IsFieldNumber i.kind i.part (next_number i.kind z)
    → Passes i e (Assigned (of_integer i.kind (next_number i.kind z))) (Some (of_integer i.kind (next_number i.kind z)))
entry_given i (Assigned v) z o h n =
    let w = of_integer i.kind (next_number i.kind z) in
    let e : repeated i.operator v ≡ w = rw o (increased_is i.kind v z h) in
    predicted_passes i (Assigned v) (Some w) (rw o tt) (assigned_predicted i v w (kind_is i.kind v z h) e) (within_number i.kind i.part (next_number i.kind z) n)
entry_given i e z o h n = absurd h

pub next_passes : (k : Kind) (i : FieldPart) (e : Entry) (z : ℤ) → k ≡ i.kind → i.operator ≡ Operator.Increment → HasNumber k e z → IsFieldNumber k i.part (next_number k z) → IsPassed i e (Assigned (of_integer k (next_number k z))) Present
next_passes k i e z same o =
    subst (λ (k : Kind). HasNumber k e z → IsFieldNumber k i.part (next_number k z) → IsPassed i e (Assigned (of_integer k (next_number k z))) Present) (sym same)
    (λ h n. (of_integer i.kind (next_number i.kind z), of_kind i.kind (next_number i.kind z) n.number, entry_given i e z o h n))

pub empty_passes : (i : FieldPart) → Predicts i.operator → i.presence ≡ Optional → IsPassed i Empty Empty Absent
empty_passes i h optional = predicted_passes i Empty None h (rw optional refl) tt

-- an operator that leaves the entry
left_given : (o : Operator) (i : FieldPart) (e : Entry) (v : Option Scalar) → i.operator ≡ o → (operator_needs_bit o i.presence ≡ false → false ≡ true) → HasDefault i → FormOf Usual o i e false uncut [] v → IsWithin i.part v → e ≡ next_of o e v
    → Passes i e e v
left_given o i e v is bit default row within entry = passes i e e v (rw is bit) default (record { row = subst (λ (x : Operator). FormOf Usual x i e false uncut [] v) (sym is) row; within = within }) (rw is entry)

pub initial_passes : (i : FieldPart) (e : Entry) (v : Scalar) → i.operator ≡ Operator.Default → i.initial ≡ Some v → is_of i.kind v ≡ true → IsTrue (within_part i.part v) → IsPassed i e e Present
initial_passes i e v o initial is within = (v, is, left_given Operator.Default i e (Some v) o (λ h. absurd cc) (λ d m. rw initial refl) (refl, refl, initial) within refl)

optional_default : (i : FieldPart) → i.presence ≡ Optional → HasDefault i
optional_default i optional d m = absurd (let no : Mandatory ≡ Optional = sym m ∙ optional in cc)

pub no_initial_passes : (i : FieldPart) (e : Entry) → i.operator ≡ Operator.Default → i.initial ≡ None → i.presence ≡ Optional → IsPassed i e e Absent
no_initial_passes i e o initial optional = left_given Operator.Default i e None o (λ h. absurd cc) (optional_default i optional) (refl, refl, (initial, optional)) tt refl

pub constant_passes : (i : FieldPart) (e : Entry) → i.operator ≡ Operator.Constant → i.presence ≡ Optional → IsPassed i e e Absent
constant_passes i e o optional = left_given Operator.Constant i e None o (rw optional (λ h. absurd cc)) (optional_default i optional) (refl, refl, optional, refl) tt refl

-- ---- where what bit 0 gave is found

passed_row : (i : FieldPart) (old new : Entry) (v : Scalar) (o : Operator) → i.operator ≡ o → (p : Passes i old new (Some v)) → FormOf Usual o i old false p.best.cut [] (Some v)
passed_row i old new v o is p = subst (λ (o : Operator). FormOf Usual o i old false p.best.cut [] (Some v)) is p.best.form.row

pub initial_found : (i : FieldPart) (old new : Entry) → i.operator ≡ Operator.Default → IsPassed i old new Present → Passes i old new i.initial
initial_found i old new o h = subst (λ (v : Option Scalar). Passes i old new v) (sym (passed_row i old new h.0 Operator.Default o h.2).2) h.2

assigned_found : (i : FieldPart) (old new : Entry) (v : Scalar) → new ≡ Assigned v → Passes i old new (Some v) → Passes i old new (assigned_of new)
assigned_found i old new v e p = let same : assigned_of new ≡ Some v = rw e refl in subst (λ (v : Option Scalar). Passes i old new v) (sym same) p

kept_by : (o : Operator) (i : FieldPart) (old new : Entry) (v : Scalar) → i.operator ≡ o → (o ≡ Operator.Default → ⊥) → Passes i old new (Some v) → Passes i old new (assigned_of new)
kept_by Operator.Plain i old new v o other p = absurd (passed_row i old new v Operator.Plain o p)
kept_by Operator.Constant i old new v o other p = let none = (passed_row i old new v Operator.Constant o p).3 in absurd cc
kept_by Operator.Default i old new v o other p = absurd (other refl)
kept_by Operator.Delta i old new v o other p = absurd (passed_row i old new v Operator.Delta o p)
kept_by o i old new v is other p = assigned_found i old new v (p.entry ∙ rw is refl) p

pub kept_found : (i : FieldPart) (old new : Entry) → (i.operator ≡ Operator.Default → ⊥) → IsPassed i old new Present → Passes i old new (assigned_of new)
kept_found i old new other h = kept_by i.operator i old new h.0 refl other h.2
