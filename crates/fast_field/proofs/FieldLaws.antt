-- How readers of fields are put together.
use Rattle.fast_field.proofs.Common.{◌≡◌, ℕ, Bool, true, false, List, [], ◌++◌, Result, Ok, Err, refl, sym, ap, subst, ◌∙◌, append-nil, Option, Some, None, ◌>>=◌, WireFault, Nullable, Null, Value, ok_is, reader_then, reader_of, reader_as, Scalar, FieldFault, field_fault, in_field, check, unless_null, as_value}
use Rattle.fast_wire.specs.Reader.{IsReader, Both}

pub in_field_ok : {A : Type 0} (r : Result A WireFault) (x : A) → in_field r ≡ Ok x → r ≡ Ok x
in_field_ok (Ok y) x e = cc
in_field_ok (Err w) x e = absurd cc

in_field_err : {A : Type 0} (r : Result A WireFault) (f : FieldFault) → in_field r ≡ Err f → (w : WireFault) × (r ≡ Err w) × (field_fault w ≡ f)
in_field_err (Ok y) f e = absurd cc
in_field_err (Err w) f e = (w, refl, cc)

abbrev pub made_by : {A B : Type 0} → (A → B) → A × List ℕ → Result (B × List ℕ) FieldFault
made_by f x = Ok (f x.0, x.1)

-- what a value was made of, where that is one thing alone
pub made_back : {A B : Type 0} (r : Result (A × List ℕ) FieldFault) (f : A → B) (x : A) (rest : List ℕ) → ((y : A) → f y ≡ f x → y ≡ x) → (r >>= made_by f) ≡ Ok (f x, rest) → r ≡ Ok (x, rest)
made_back (Ok (y, more)) f x rest one h =
    let both = ok_is {F = FieldFault} (f y, more) (f x, rest) h in
    let same : y ≡ x = one y (ap (λ p. p.0) both) in
    let tails : more ≡ rest = ap (λ p. p.1) both in
    cc
made_back (Err d) f x rest one h = absurd cc

-- a byte form in a field
pub reader_in_field : {A : Type 0} (r : List ℕ → Result (A × List ℕ) WireFault) (Form : List ℕ → A → Type 0) → IsReader WireFault.NeedMore r Form → IsReader FieldFault.NeedMore (λ bytes. in_field (r bytes)) Form
reader_in_field r Form is = record {
  found = λ bytes x rest fits e. is.found bytes x rest fits (in_field_ok (r bytes) (x, rest) e);
  again = λ b x rest h. rw (is.again b x rest h) refl;
  stays = λ bytes others f fits e other.
      let w = in_field_err (r bytes) f e in
      rw (is.stays bytes others w.0 fits w.1 (λ g. other (sym w.2 ∙ ap field_fault g))) (ap (λ (y : FieldFault). Err y) w.2);
}

-- a test before a reader
pub reader_check : {B : Type 0} (t : Bool) (d : FieldFault) (k : List ℕ → Result (B × List ℕ) FieldFault) (Form : List ℕ → B → Type 0) → IsReader FieldFault.NeedMore k Form
    → IsReader FieldFault.NeedMore (λ bytes. check t d >>= λ ok. k bytes) (λ b y. (t ≡ true) × Form b y)
reader_check true d k Form is = record {
  found = λ bytes y rest fits e. let t = is.found bytes y rest fits e in record { front = t.front; parts = t.parts; rest_bytes = t.rest_bytes; form = (refl, t.form) };
  again = λ b y rest h. is.again b y rest h.1;
  stays = λ bytes others f fits e other. is.stays bytes others f fits e other;
}
reader_check false d k Form is = record {
  found = λ bytes y rest fits e. absurd cc;
  again = λ b y rest h. let e = h.0 in absurd cc;
  stays = λ bytes others f fits e other. e;
}

-- behind NULL nothing stands
abbrev pub NullOr : {A : Type 0} → (A → List ℕ → Option Scalar → Type 0) → Nullable A → List ℕ → Option Scalar → Type 0
NullOr Form Null b y = (b ≡ []) × (y ≡ None)
NullOr Form (Value x) b y = Form x b y

abbrev done : {A : Type 0} → A → Result A FieldFault
done x = Ok x

none_reader : IsReader FieldFault.NeedMore (λ bytes. done (None, bytes)) (λ b (y : Option Scalar). (b ≡ []) × (y ≡ None))
none_reader =
    reader_as FieldFault.NeedMore (λ bytes. done (None, bytes)) (λ b (y : Option Scalar). (b ≡ []) × (done None ≡ Ok y)) (λ b y. (b ≡ []) × (y ≡ None))
    (λ b y h. (h.0, sym (ok_is {F = FieldFault} None y h.1)))
    (λ b y h. (h.0, ap (λ (z : Option Scalar). done z) (sym h.1)))
    (reader_of FieldFault.NeedMore (done None))

pub reader_null : {A : Type 0} (k : A → List ℕ → Result (Option Scalar × List ℕ) FieldFault) (Form : A → List ℕ → Option Scalar → Type 0) → ((x : A) → IsReader FieldFault.NeedMore (k x) (Form x))
    → (n : Nullable A) → IsReader FieldFault.NeedMore (λ rest. unless_null (n, rest) k) (NullOr Form n)
reader_null k Form is Null = none_reader
reader_null k Form is (Value x) = is x

-- a value that was made, and takes no bytes
abbrev pub IsMade : Result Scalar FieldFault → List ℕ → Option Scalar → Type 0
IsMade m b y = (b ≡ []) × ((v : Scalar) × (m ≡ Ok v) × (y ≡ Some v))

pub reader_value : (m : Result Scalar FieldFault) → IsReader FieldFault.NeedMore (as_value m) (IsMade m)
reader_value (Ok v) =
    reader_as FieldFault.NeedMore (λ bytes. done (Some v, bytes)) (λ b (y : Option Scalar). (b ≡ []) × (done (Some v) ≡ Ok y)) (IsMade (Ok v))
    (λ b y h. (h.0, (v, refl, sym (ok_is {F = FieldFault} (Some v) y h.1))))
    (λ b y h. let w = h.1 in let same : v ≡ w.0 = ok_is {F = FieldFault} v w.0 w.1 in (h.0, ap (λ (z : Scalar). done (Some z)) same ∙ ap (λ (z : Option Scalar). done z) (sym w.2)))
    (reader_of FieldFault.NeedMore (done (Some v)))
reader_value (Err d) = record {
  found = λ bytes y rest fits e. absurd cc;
  again = λ b y rest h. let w = h.1 in let e = w.1 in absurd cc;
  stays = λ bytes others f fits e other. e;
}

-- NULL, or a value that is made of what is spelled
abbrev pub Made : {A : Type 0} → (List ℕ → Nullable A → Type 0) → (A → Result Scalar FieldFault) → List ℕ → Option Scalar → Type 0
Made First make b None = First b Null
Made {A} First make b (Some v) = (x : A) × First b (Value x) × (make x ≡ Ok v)

pub whole : (b front back : List ℕ) → b ≡ front ++ back → back ≡ [] → front ≡ b
whole b front back parts none = sym (parts ∙ ap (λ (z : List ℕ). front ++ z) none ∙ append-nil front)

made_to : {A : Type 0} (First : List ℕ → Nullable A → Type 0) (make : A → Result Scalar FieldFault) (b front back : List ℕ) (x : Nullable A) (y : Option Scalar) → b ≡ front ++ back → First front x
    → NullOr (λ x. IsMade (make x)) x back y → Made First make b y
made_to First make b front back Null y parts first h = rw h.1 (subst (λ (z : List ℕ). First z Null) (whole b front back parts h.0) first)
made_to First make b front back (Value x) y parts first h = let w = h.1 in rw w.2 (x, subst (λ (z : List ℕ). First z (Value x)) (whole b front back parts h.0) first, w.1)

made_from : {A : Type 0} (First : List ℕ → Nullable A → Type 0) (make : A → Result Scalar FieldFault) (b : List ℕ) (y : Option Scalar) → Made First make b y → Both First (NullOr (λ x. IsMade (make x))) b y
made_from First make b None h = record { x = Null; front = b; back = []; parts = sym (append-nil b); first = h; second = (refl, refl) }
made_from First make b (Some v) h = record { x = Value h.0; front = b; back = []; parts = sym (append-nil b); first = h.1; second = (refl, (v, h.2, refl)) }

pub reader_made : {A : Type 0} (r : List ℕ → Result (Nullable A × List ℕ) FieldFault) (First : List ℕ → Nullable A → Type 0) (make : A → Result Scalar FieldFault) → IsReader FieldFault.NeedMore r First
    → IsReader FieldFault.NeedMore (λ bytes. r bytes >>= λ x. unless_null x (λ x. as_value (make x))) (Made First make)
reader_made r First make is =
    reader_as FieldFault.NeedMore (λ bytes. r bytes >>= λ x. unless_null x (λ x. as_value (make x))) (Both First (NullOr (λ x. IsMade (make x)))) (Made First make)
    (λ b y h. made_to First make b h.front h.back h.x y h.parts h.first h.second)
    (made_from First make)
    (reader_then FieldFault.NeedMore r (λ x rest. unless_null (x, rest) (λ x. as_value (make x))) First (NullOr (λ x. IsMade (make x))) is (reader_null (λ x. as_value (make x)) (λ x. IsMade (make x)) (λ x. reader_value (make x))))
