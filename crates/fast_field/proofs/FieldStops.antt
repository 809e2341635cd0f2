-- The first fault of a field is that at which reading it stops: by the checks in their order, and by the function.
use Rattle.std.proofs.Common.{◌≡◌, ◌⊎◌, inl, inr, ℕ, Bool, true, false, true≢false, List, [], ◌∷◌, ◌++◌, Option, Result, Ok, Err, if◌then◌else◌, refl, sym, ap, subst, ◌∙◌, arith}
use Rattle.fast_wire.specs.Reading.{EntityFault}
use Rattle.fast_wire.specs.Reader.{IsReader, IsBytes}
use Rattle.fast_wire.proofs.Readers.{at_first, at_second, bind_err}
use Rattle.fast_wire.proofs.FormReaders.{entities, entity_err, fault_given, ListFault}
use Rattle.fast_field.proofs.Common.{Level, Usual, Strict, ◌>>=◌, entity_at, judged, verdict, WireFault, Nullable, Null, Value, ok_is, Scalar, FieldFault, field_fault, unless_null, as_value, check}
use Rattle.fast_field.specs.FieldFaults.{Behind, BeginsOverlong, StopsAtLevel}

-- the reading function stops exactly at these faults
pub record IsRefuser {A : Type 0} (read : List ℕ → Result (A × List ℕ) FieldFault) (Stops : List ℕ → FieldFault → Type 0) : Type 0 where
  pub stops : (bytes : List ℕ) (f : FieldFault) → IsBytes bytes → read bytes ≡ Err f → Stops bytes f
  pub only : (bytes : List ℕ) (f : FieldFault) → IsBytes bytes → Stops bytes f → read bytes ≡ Err f

rest_fits : (front rest : List ℕ) → IsBytes (front ++ rest) → IsBytes rest
rest_fits [] rest h = h
rest_fits (b ∷ front) rest h = rest_fits front rest h.1

err_so : {A : Type 0} (f g : FieldFault) → ◌≡◌ {A = Result A FieldFault} (Err f) (Err g) → f ≡ g
err_so f g e = cc

-- ---- one reading behind another

pub refuser_then : {A B : Type 0} (r : List ℕ → Result (A × List ℕ) FieldFault) (k : A → List ℕ → Result (B × List ℕ) FieldFault) (First : List ℕ → A → Type 0) (Stops : List ℕ → FieldFault → Type 0) (Later : A → List ℕ → FieldFault → Type 0)
    → IsReader FieldFault.NeedMore r First → IsRefuser r Stops → ((x : A) → IsRefuser (k x) (Later x)) → IsRefuser (λ bytes. r bytes >>= λ x. k x.0 x.1) (λ bytes f. Stops bytes f ⊎ Behind First (λ x rest. Later x rest f) bytes)
refuser_then r k First Stops Later is one two = record {
  stops = λ bytes f fits e. elim (bind_err (r bytes) (λ x. k x.0 x.1) f e) [
    | at_first g ↦ inl (one.stops bytes f fits g)
    | at_second x g h ↦
        let t = is.found bytes x.0 x.1 fits g in
        inr (record { value = x.0; front = t.front; rest = x.1; parts = t.parts; form = t.form; next = (two x.0).stops x.1 f t.rest_bytes h })
  ];
  only = λ bytes f fits s. elim s [
    | inl g ↦ rw (one.only bytes f fits g) refl
    | inr b ↦
        let fit = rest_fits b.front b.rest (subst (λ (z : List ℕ). IsBytes z) b.parts fits) in
        rw (b.parts, is.again b.front b.value b.rest b.form) ((two b.value).only b.rest f fit b.next)
  ];
}

-- behind what is not NULL
module _ {A : Type 0} (r : List ℕ → Result (Nullable A × List ℕ) FieldFault) (k : A → List ℕ → Result (Option Scalar × List ℕ) FieldFault) (First : List ℕ → Nullable A → Type 0) (Stops : List ℕ → FieldFault → Type 0) (Later : A → List ℕ → FieldFault → Type 0)
    (is : IsReader FieldFault.NeedMore r First) (one : IsRefuser r Stops) (two : (x : A) → IsRefuser (k x) (Later x)) where
  behind_value : (bytes : List ℕ) (f : FieldFault) (x : Nullable A) (rest : List ℕ) → IsBytes bytes → r bytes ≡ Ok (x, rest) → unless_null (x, rest) k ≡ Err f → Behind (λ b x. First b (Value x)) (λ x rest. Later x rest f) bytes
  behind_value bytes f Null rest fits g h = absurd cc
  behind_value bytes f (Value x) rest fits g h =
      let t = is.found bytes (Value x) rest fits g in
      record { value = x; front = t.front; rest = rest; parts = t.parts; form = t.form; next = (two x).stops rest f t.rest_bytes h }

  pub refuser_value : IsRefuser (λ bytes. r bytes >>= λ x. unless_null x k) (λ bytes f. Stops bytes f ⊎ Behind (λ b x. First b (Value x)) (λ x rest. Later x rest f) bytes)
  refuser_value = record {
    stops = λ bytes f fits e. elim (bind_err (r bytes) (λ x. unless_null x k) f e) [
      | at_first g ↦ inl (one.stops bytes f fits g)
      | at_second x g h ↦ inr (behind_value bytes f x.0 x.1 fits g h)
    ];
    only = λ bytes f fits s. elim s [
      | inl g ↦ rw (one.only bytes f fits g) refl
      | inr b ↦
          let fit = rest_fits b.front b.rest (subst (λ (z : List ℕ). IsBytes z) b.parts fits) in
          rw (b.parts, is.again b.front (Value b.value) b.rest b.form) ((two b.value).only b.rest f fit b.next)
    ];
  }

-- a test, or a value that may not be there, before a reading
pub refuser_check : {B : Type 0} (t : Bool) (d : FieldFault) (k : List ℕ → Result (B × List ℕ) FieldFault) (Later : List ℕ → FieldFault → Type 0) → IsRefuser k Later
    → IsRefuser (λ rest. check t d >>= λ ok. k rest) (λ rest f. ((t ≡ false) × (f ≡ d)) ⊎ ((t ≡ true) × Later rest f))
refuser_check true d k Later is = record {
  stops = λ rest f fits e. inr (refl, is.stops rest f fits e);
  only = λ rest f fits s. elim s [ inl h ↦ let e = h.0 in absurd cc | inr h ↦ is.only rest f fits h.1 ];
}
refuser_check false d k Later is = record {
  stops = λ rest f fits e. inl (refl, let same : d ≡ f = cc in sym same);
  only = λ rest f fits s. elim s [ inl h ↦ rw h.1 refl | inr h ↦ let e = h.0 in absurd cc ];
}

pub refuser_after : {B C : Type 0} (m : Result B FieldFault) (k : B → List ℕ → Result (C × List ℕ) FieldFault) (Later : B → List ℕ → FieldFault → Type 0) → ((x : B) → IsRefuser (k x) (Later x))
    → IsRefuser (λ rest. m >>= λ x. k x rest) (λ rest f. (m ≡ Err f) ⊎ ((x : B) × (m ≡ Ok x) × Later x rest f))
refuser_after {B} {C} (Ok x) k Later is = record {
  stops = λ rest f fits e. inr (x, refl, (is x).stops rest f fits e);
  only = λ rest f fits s. elim s [
    | inl h ↦ absurd cc
    | inr h ↦ let same : x ≡ h.0 = ok_is {F = FieldFault} x h.0 h.1 in rw same ((is h.0).only rest f fits h.2)
  ];
}
refuser_after {B} {C} (Err d) k Later is = record {
  stops = λ rest f fits e. let same : d ≡ f = cc in inl (ap (λ (y : FieldFault). Err y) same);
  only = λ rest f fits s. elim s [
    | inl h ↦ let same : d ≡ f = err_so {A = B} d f h in rw same refl
    | inr h ↦ let e = h.1 in absurd cc
  ];
}

-- what is made of a value
pub refuser_made : (m : Result Scalar FieldFault) → IsRefuser (as_value m) (λ rest f. m ≡ Err f)
refuser_made (Ok v) = record { stops = λ rest f fits e. absurd cc; only = λ rest f fits s. absurd cc }
refuser_made (Err d) = record {
  stops = λ rest f fits e. let same : d ≡ f = cc in ap (λ (y : FieldFault). Err y) same;
  only = λ rest f fits s. let same : d ≡ f = err_so {A = Scalar} d f s in rw same refl;
}

pub refuser_as : {A : Type 0} (read : List ℕ → Result (A × List ℕ) FieldFault) (Stops Other : List ℕ → FieldFault → Type 0) → ((bytes : List ℕ) (f : FieldFault) → Stops bytes f → Other bytes f) → ((bytes : List ℕ) (f : FieldFault) → Other bytes f → Stops bytes f)
    → IsRefuser read Stops → IsRefuser read Other
refuser_as read Stops Other to from is = record { stops = λ bytes f fits e. to bytes f (is.stops bytes f fits e); only = λ bytes f fits s. is.only bytes f fits (from bytes f s) }

-- the same faults behind the same form
pub behind_as : {V : Type 0} {Form : List ℕ → V → Type 0} {Next Other : V → List ℕ → Type 0} {bytes : List ℕ} → ((x : V) (rest : List ℕ) → Next x rest → Other x rest) → Behind Form Next bytes → Behind Form Other bytes
behind_as to b = record { value = b.value; front = b.front; rest = b.rest; parts = b.parts; form = b.form; next = to b.value b.rest b.next }

-- ---- entities

entity_stops : (limit : ℕ) (bytes : List ℕ) (w : WireFault) → ListFault limit bytes w → EntityFault limit bytes 0 w
entity_stops limit bytes WireFault.NeedMore h = (omega (arith, h.0), h.1)
entity_stops limit bytes WireFault.TooLong h = (omega (arith, h.0), h.1)
entity_stops limit bytes WireFault.Range h = h
entity_stops limit bytes WireFault.NotUtf8 h = h
entity_stops limit bytes WireFault.Memory h = h

pub no_entity : (limit : ℕ) (bytes : List ℕ) (w : WireFault) → entity_at limit bytes ≡ Err w → EntityFault limit bytes 0 w
no_entity limit bytes w e = entity_stops limit bytes w (entity_err limit bytes w e)

pub entity_refused : (limit : ℕ) (bytes : List ℕ) (w : WireFault) → EntityFault limit bytes 0 w → entity_at limit bytes ≡ Err w
entity_refused limit bytes w h = fault_given limit bytes 0 w (omega arith) h

long_entity : (limit : ℕ) (overlong : List ℕ → Bool) (bytes : List ℕ) (b : BeginsOverlong limit overlong bytes) → entity_at limit bytes ≡ Ok (b.entity, b.behind)
long_entity limit overlong bytes b = ap (entity_at limit) b.parts ∙ (entities limit).again b.entity b.entity b.behind (record { entity = b.is_entity; short = b.short; value = refl })

-- it is judged at the strict level
module _ {A : Type 0} (limit : ℕ) (overlong : List ℕ → Bool) (fault : FieldFault) (read : List ℕ → Result (A × List ℕ) FieldFault) (Stops : List ℕ → FieldFault → Type 0)
    (first : (bytes : List ℕ) (w : WireFault) → entity_at limit bytes ≡ Err w → read bytes ≡ Err (field_fault w)) (is : IsRefuser read Stops) where
  strict_stops : (bytes : List ℕ) (f : FieldFault) (r : Result (List ℕ × List ℕ) WireFault) → IsBytes bytes → entity_at limit bytes ≡ r → (verdict overlong field_fault fault r >>= λ (ok : Unit {0}). read bytes) ≡ Err f
      → StopsAtLevel Strict limit overlong fault Stops bytes f
  strict_stops bytes f (Err w) fits h e =
      let same : field_fault w ≡ f = err_so {A = A × List ℕ} (field_fault w) f e in
      inr ((λ b. let l = long_entity limit overlong bytes b in absurd cc), is.stops bytes f fits (first bytes w h ∙ ap (λ (y : FieldFault). Err y) same))
  strict_stops bytes f (Ok x) fits h e = elim (overlong x.0) as (λ t. overlong x.0 ≡ t → ((if t then Err fault else Ok (tt {0})) >>= λ (ok : Unit {0}). read bytes) ≡ Err f → StopsAtLevel Strict limit overlong fault Stops bytes f) [
    | true ↦ λ long e.
        let same : fault ≡ f = err_so {A = A × List ℕ} fault f e in
        let t = (entities limit).found bytes x.0 x.1 fits h in
        inl (sym same, record { entity = t.front; behind = x.1; parts = t.parts; is_entity = t.form.entity; short = t.form.short; is_long = ap overlong t.form.value ∙ long })
    | false ↦ λ short e.
        inr (
          (λ b.
              let both = ok_is {F = WireFault} (b.entity, b.behind) x (sym (long_entity limit overlong bytes b) ∙ h) in
              let entity = ap (λ p. p.0) both in
              absurd (true≢false (sym b.is_long ∙ ap overlong entity ∙ short))),
          is.stops bytes f fits e,
        )
  ] refl e

  strict_only : (bytes : List ℕ) (f : FieldFault) (r : Result (List ℕ × List ℕ) WireFault) → IsBytes bytes → entity_at limit bytes ≡ r → (BeginsOverlong limit overlong bytes → ⊥) → Stops bytes f → (verdict overlong field_fault fault r >>= λ (ok : Unit {0}). read bytes) ≡ Err f
  strict_only bytes f (Err w) fits h none s = sym (first bytes w h) ∙ is.only bytes f fits s
  strict_only bytes f (Ok x) fits h none s = elim (overlong x.0) as (λ t. overlong x.0 ≡ t → ((if t then Err fault else Ok (tt {0})) >>= λ (ok : Unit {0}). read bytes) ≡ Err f) [
    | true ↦ λ long.
        let t = (entities limit).found bytes x.0 x.1 fits h in
        absurd (none (record { entity = t.front; behind = x.1; parts = t.parts; is_entity = t.form.entity; short = t.form.short; is_long = ap overlong t.form.value ∙ long }))
    | false ↦ λ short. is.only bytes f fits s
  ] refl

  pub refuser_judged : (level : Level) → IsRefuser (judged level limit overlong field_fault fault read) (StopsAtLevel level limit overlong fault Stops)
  refuser_judged Usual = is
  refuser_judged Strict = record {
    stops = λ bytes f fits e. strict_stops bytes f (entity_at limit bytes) fits refl e;
    only = λ bytes f fits s. elim s [
      | inl h ↦ let b = h.1 in rw (long_entity limit overlong bytes b, b.is_long, h.0) refl
      | inr h ↦ strict_only bytes f (entity_at limit bytes) fits refl h.0 h.1
    ];
  }
