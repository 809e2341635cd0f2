-- The forms of each operator are read, and nothing else is.
use Rattle.fast_field.proofs.Common.{◌≡◌, ℕ, Bool, true, false, List, [], ◌++◌, Result, Ok, Err, refl, sym, ap, subst, Option, Some, None, IsSome, Level, IsBytes, IsReader, ◌>>=◌, ok_is, reader_of, reader_as, reader_checked, one_form, no_form, operator_needs_bit, Operator, Part, Presence, Mandatory, Optional, FieldPart, Scalar, Entry, FieldFault, predicted, Spelled, Cut, uncut, IsBitOf, HasDefault, FormOf, Form, IsWithin, within_part, InitialOrAbsent, whole_at, predicted_at, row_at, part_checked, field_at, IsFieldFault}
use Rattle.fast_field.proofs.SpelledForms.{spelled_forms, if_ok, if_holds}
use Rattle.fast_field.proofs.BaseForms.{deltas, tails}

abbrev done : {A : Type 0} → A → Result A FieldFault
done x = Ok x

abbrev pub Row : (level : Level) → Operator → FieldPart → Entry → Bool → List ℕ → Option Scalar → Type 0
Row level o i e bit b v = (cut : Cut) × FormOf level o i e bit cut b v

-- ---- the rows

whole_row : (level : Level) → (i : FieldPart) → IsReader FieldFault.NeedMore (whole_at level i) (λ b v. (cut : Cut) × ((cut ≡ uncut) × Spelled level i.kind i.presence b v))
unfolding whole_at
whole_row level i =
    reader_as FieldFault.NeedMore (whole_at level i) (Spelled level i.kind i.presence) (λ b v. (cut : Cut) × ((cut ≡ uncut) × Spelled level i.kind i.presence b v)) (λ b v h. (uncut, (refl, h))) (λ b v h. h.1.1)
    (spelled_forms level i.part i.kind i.presence)

-- a value that takes no bytes
given : (m : Result (Option Scalar) FieldFault) (Is : Cut → List ℕ → Option Scalar → Type 0) → ((v : Option Scalar) → m ≡ Ok v → Is uncut [] v) → ((cut : Cut) (b : List ℕ) (v : Option Scalar) → Is cut b v → (b ≡ []) × (m ≡ Ok v))
    → IsReader FieldFault.NeedMore (λ bytes. m >>= λ v. Ok (v, bytes)) (λ b v. (cut : Cut) × Is cut b v)
given m Is to from =
    reader_as FieldFault.NeedMore (λ bytes. m >>= λ v. Ok (v, bytes)) (λ b v. (b ≡ []) × (m ≡ Ok v)) (λ b v. (cut : Cut) × Is cut b v)
    (λ b v h. (uncut, rw h.0 (to v h.1)))
    (λ b v h. from h.0 b v h.1)
    (reader_of FieldFault.NeedMore m)

predicted_row : (i : FieldPart) (e : Entry) → IsReader FieldFault.NeedMore (predicted_at i e) (λ b v. (cut : Cut) × ((cut ≡ uncut) × (b ≡ []) × (predicted i e ≡ Ok v)))
unfolding predicted_at
predicted_row i e = given (predicted i e) (λ cut b v. (cut ≡ uncut) × (b ≡ []) × (predicted i e ≡ Ok v)) (λ v h. (refl, refl, h)) (λ cut b v h. (h.1, h.2))

made_so : (x v : Option Scalar) → done x ≡ Ok v → v ≡ x
made_so x v e = sym (ok_is {F = FieldFault} x v e)

so_made : (x v : Option Scalar) → v ≡ x → done x ≡ Ok v
so_made x v e = ap (λ (y : Option Scalar). done y) (sym e)

optional_constant : (p : Presence) → (operator_needs_bit Operator.Constant p ≡ false → false ≡ true) → p ≡ Optional
optional_constant Mandatory h = let e = h refl in absurd cc
optional_constant Optional h = refl

optional_default : (p : Presence) (o : Option Scalar) → (p ≡ Mandatory → IsSome o) → o ≡ None → p ≡ Optional
optional_default Mandatory None h e = let some = h refl in absurd cc
optional_default Mandatory (Some v) h e = absurd cc
optional_default Optional o h e = refl

initial_to : (i : FieldPart) (v : Option Scalar) → (i.presence ≡ Mandatory → IsSome i.initial) → i.initial ≡ v → InitialOrAbsent i v
initial_to i None has e = (e, optional_default i.presence i.initial has e)
initial_to i (Some v) has e = e

initial_from : (i : FieldPart) (v : Option Scalar) → InitialOrAbsent i v → i.initial ≡ v
initial_from i None h = h.0
initial_from i (Some v) h = h

pub row : (level : Level) → (o : Operator) (i : FieldPart) (e : Entry) (bit : Bool) → (operator_needs_bit o i.presence ≡ false → bit ≡ true) → (o ≡ Operator.Default → i.presence ≡ Mandatory → IsSome i.initial) → IsReader FieldFault.NeedMore (row_at level o i e bit) (Row level o i e bit)
unfolding row_at
row level Operator.Plain i e false h d = let b = h refl in absurd cc
row level Operator.Constant i e false h d = given (done None) (λ cut b v. FormOf level Operator.Constant i e false cut b v) (λ v w. (refl, refl, optional_constant i.presence h, made_so None v w)) (λ cut b v w. (w.1, so_made None v w.3))
row level Operator.Constant i e true h d = given (done i.initial) (λ cut b v. FormOf level Operator.Constant i e true cut b v) (λ v w. (refl, refl, made_so i.initial v w)) (λ cut b v w. (w.1, so_made i.initial v w.2))
row level Operator.Default i e false h d = given (done i.initial) (λ cut b v. FormOf level Operator.Default i e false cut b v) (λ v w. (refl, refl, initial_to i v (d refl) (sym (made_so i.initial v w)))) (λ cut b v w. (w.1, so_made i.initial v (sym (initial_from i v w.2))))
row level Operator.Delta i e false h d = let b = h refl in absurd cc
row level Operator.Delta i e true h d = deltas level i e
row level Operator.Tail i e true h d = tails level i e
row level o i e false h d = predicted_row i e
row level o i e true h d = whole_row level i

-- ---- the limits of parts

checked_ok : (pt : Part) (x y : Option Scalar) → part_checked pt x ≡ Ok y → (x ≡ y) × IsWithin pt x
unfolding part_checked
checked_ok pt None y e = (ok_is {F = FieldFault} None y e, tt)
checked_ok Part.Exponent (Some v) y e = let w = if_ok (within_part Part.Exponent v) (Some v) y FieldFault.R1 e in (w.1, w.0)
checked_ok Part.Length (Some v) y e = let w = if_ok (within_part Part.Length v) (Some v) y FieldFault.Limit e in (w.1, w.0)
checked_ok p (Some v) y e = (ok_is {F = FieldFault} (Some v) y e, refl)

pub checked_is : (pt : Part) (x : Option Scalar) → IsWithin pt x → part_checked pt x ≡ Ok x
unfolding part_checked
checked_is pt None h = refl
checked_is Part.Exponent (Some v) h = if_holds (within_part Part.Exponent v) (Some v) FieldFault.R1 h
checked_is Part.Length (Some v) h = if_holds (within_part Part.Length v) (Some v) FieldFault.Limit h
checked_is p (Some v) h = refl

pub field_forms : (level : Level) → (i : FieldPart) (e : Entry) (bit : Bool) → IsBitOf i bit → HasDefault i → IsReader FieldFault.NeedMore (field_at level i e bit) (Form level i e bit)
unfolding field_at
field_forms level i e bit h d =
    reader_as FieldFault.NeedMore (field_at level i e bit) (λ b y. (x : Option Scalar) × Row level i.operator i e bit b x × (part_checked i.part x ≡ Ok y)) (Form level i e bit)
    (λ b y h. let w = checked_ok i.part h.0 y h.2 in subst (λ (y : Option Scalar). Form level i e bit b y) w.0 (h.1.0, record { row = h.1.1; within = w.1 }))
    (λ b y h. (y, (h.0, h.1.row), checked_is i.part y h.1.within))
    (reader_checked FieldFault.NeedMore (row_at level i.operator i e bit) (part_checked i.part) (Row level i.operator i e bit) (row level i.operator i e bit h d))

-- ---- what follows

pub one_field_form : (level : Level) → (i : FieldPart) (e : Entry) (bit : Bool) → IsBitOf i bit → HasDefault i
    → (b c rest others : List ℕ) (v w : Option Scalar) → Form level i e bit b v → Form level i e bit c w → b ++ rest ≡ c ++ others → (v ≡ w) × (rest ≡ others)
one_field_form level i e bit h d b c rest others v w = one_form FieldFault.NeedMore (field_at level i e bit) (Form level i e bit) (field_forms level i e bit h d) b c rest others v w

pub fault_is_no_form : (level : Level) → (i : FieldPart) (e : Entry) (bit : Bool) → IsBitOf i bit → HasDefault i
    → (bytes b rest : List ℕ) (v : Option Scalar) (f : FieldFault) → IsFieldFault level i e bit bytes f → bytes ≡ b ++ rest → Form level i e bit b v → ⊥
fault_is_no_form level i e bit h d bytes b rest v f = no_form FieldFault.NeedMore (field_at level i e bit) (Form level i e bit) (field_forms level i e bit h d) bytes b rest v f

ok_or_fault : {A : Type 0} (r : Result A FieldFault) → ((x : A) → r ≡ Ok x → ⊥) → (f : FieldFault) × (r ≡ Err f)
ok_or_fault (Ok x) none = absurd (none x refl)
ok_or_fault (Err f) none = (f, refl)

-- a list that no form begins has a fault
pub no_form_is_fault : (level : Level) → (i : FieldPart) (e : Entry) (bit : Bool) → IsBitOf i bit → HasDefault i
    → (bytes : List ℕ) → IsBytes bytes → ((b rest : List ℕ) (v : Option Scalar) → bytes ≡ b ++ rest → Form level i e bit b v → ⊥) → (f : FieldFault) × IsFieldFault level i e bit bytes f
no_form_is_fault level i e bit h d bytes fits none =
    ok_or_fault (field_at level i e bit bytes)
    (λ x read. let t = (field_forms level i e bit h d).found bytes x.0 x.1 fits read in none t.front x.1 x.0 t.parts t.form)
