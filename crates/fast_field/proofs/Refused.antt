-- What is refused has no form.
use Rattle.fast_field.proofs.Common.{◌≡◌, ℕ, ◌-◌, ◌<◌, ◌≤◌, Bool, true, false, List, [], ◌∷◌, length, take, refl, ap, subst, arith, Ok, length-append, length-take, ℤ, pos, negsuc, int_lt, int_le, nat_lt, Option, Some, None, IsTrue, unwrap_or, AllByRecursion, nat_tests, Level, Usual, ok_is, is_of, scalar_eq-same, IsScalar, Kind, Operator, Part, Presence, Mandatory, Optional, FieldPart, Scalar, Decimal, Ascii, Unicode, Bytes, Entry, Undefined, Empty, Assigned, FieldFault, FieldRefusal, integer_of, units_of, of_units, default_of, IsFieldPart, absent_or, initial_or, repeated, tail_base, predicted, IsOfUnits, Cut, ended_by, FormOf, Form, within_part, HoldsScalar, IsFieldValue, are_characters, has_characters, has_too_many, is_far, constant_refusal, tail_refusal, operator_refusal, value_refusal, refusal_of, le-ltb, lt-ltb}
use Rattle.fast_value.specs.contracts.scalar.ScalarPartialEq.TheImpl as scalar_eq
use Rattle.fast_field.proofs.SpelledForms.{if_ok}
use Rattle.fast_field.proofs.FieldsWithin.{values_within}
use Rattle.fast_field.proofs.StrictForms.{form_usually}

-- ---- values

all_characters : (s : List ℕ) → AllByRecursion (λ c. c < 128) s → are_characters s ≡ true
all_characters [] h = refl
all_characters (c ∷ s) h = rw (lt-ltb c 128 h.0, all_characters s h.1) refl

pub characters_there : (v : Scalar) → IsScalar v → has_characters v ≡ true
characters_there (Ascii s) h = all_characters s h.1
characters_there v h = refl

pub few_units : (v : Scalar) → IsScalar v → length (units_of v) ≤ 65535
few_units (Ascii s) h = h.0
few_units (Unicode s) h = h.0
few_units (Bytes s) h = h.0
few_units v h = omega arith

few_elements : (z : ℤ) → int_le z (pos 65535) ≡ true → int_lt (pos 65535) z ≡ false
few_elements (pos n) h = let le = h in grind (arith, nat_tests)
few_elements (negsuc n) h = refl

few_enough : (p : Part) (v : Scalar) → IsScalar v → IsTrue (within_part p v) → has_too_many p v ≡ false
few_enough Part.Length v h w = few_elements (integer_of v) w
few_enough p v h w = le-ltb 65535 (length (units_of v)) (few_units v h)

near : (p : Part) (v : Scalar) → IsScalar v → IsTrue (within_part p v) → is_far p v ≡ false
near Part.Exponent v h w = rw w refl
near p (Decimal e m) h w = rw h.0 refl
near p v h w = refl

-- ---- by operator

constant_same : (p : Part) (o : Option Scalar) (v : Scalar) → Some v ≡ o → constant_refusal p o v ≡ None
constant_same p None v e = absurd cc
constant_same p (Some w) v e =
    let same : v ≡ w = ap (λ (x : Option Scalar). unwrap_or x v) e in
    let t : (scalar_eq.eq-value).it v w ≡ true = subst (λ (x : Scalar). (scalar_eq.eq-value).it v x ≡ true) same (scalar_eq-same v) in
    rw t refl

units_of-of_units : (k : Kind) (s : List ℕ) → units_of (of_units k s) ≡ s
units_of-of_units Kind.Ascii s = refl
units_of-of_units k s = refl

pub units_are : (k : Kind) (s : List ℕ) (v : Scalar) → IsOfUnits k s v → units_of v ≡ s
units_are Kind.Unicode s v h = rw h.1 refl
units_are k s v h = rw h (units_of-of_units k s)

as_long : (base v : Scalar) → length (units_of base) ≤ length (units_of v) → tail_refusal (Ok base) v ≡ None
as_long base v h = let t : nat_lt (length (units_of v)) (length (units_of base)) ≡ false = le-ltb (length (units_of v)) (length (units_of base)) h in rw t refl

pub ended_is_longer : (base tail : List ℕ) → length base ≤ length (ended_by base tail)
ended_is_longer base tail = omega (arith, length-append (take (length base - length tail) base) tail, length-take (length base - length tail) base)

no_absent : (f : FieldFault) (p : Presence) (v : Scalar) → absent_or f p ≡ Ok (Some v) → ⊥
no_absent f Mandatory v h = cc
no_absent f Optional v h = let w = ok_is {F = FieldFault} None (Some v) h in cc

tail_same : (i : FieldPart) (e : Entry) (v : Scalar) → predicted i e ≡ Ok (Some v) → i.operator ≡ Operator.Tail → tail_refusal (tail_base i e) v ≡ None
tail_same i Undefined v h o = first i.initial h
  where
    first : (x : Option Scalar) → initial_or FieldFault.D5 i x ≡ Ok (Some v) → tail_refusal (Ok (unwrap_or x (default_of i.kind))) v ≡ None
    first None h = absurd (no_absent FieldFault.D5 i.presence v h)
    first (Some w) h =
        let same : w ≡ v = ap (λ (x : Option Scalar). unwrap_or x v) (ok_is {F = FieldFault} (Some w) (Some v) h) in
        as_long w v (rw same (omega arith))
tail_same i Empty v h o = absurd (no_absent FieldFault.D6 i.presence v h)
tail_same i (Assigned w) v h o =
    let t = if_ok (is_of i.kind w) (Some (repeated i.operator w)) (Some v) FieldFault.D4 h in
    let same : repeated i.operator w ≡ v = ap (λ (x : Option Scalar). unwrap_or x v) t.1 in
    let kept : w ≡ v = subst (λ (x : Operator). repeated x w ≡ v) o same in
    rw t.0 (as_long w v (rw kept (omega arith)))

form_not_refused : (o : Operator) (i : FieldPart) (e : Entry) (bit : Bool) (cut : Cut) (b : List ℕ) (v : Scalar) → i.operator ≡ o → FormOf Usual o i e bit cut b (Some v) → operator_refusal o i e v ≡ None
form_not_refused Operator.Constant i e false cut b v o f = let w = f.3 in absurd cc
form_not_refused Operator.Constant i e true cut b v o f = constant_same i.part i.initial v f.2
form_not_refused Operator.Delta i e false cut b v o f = absurd f
form_not_refused Operator.Delta i e true cut b v o f = rw f.1 refl
form_not_refused Operator.Tail i e false cut b v o f = tail_same i e v f.2 o
form_not_refused Operator.Tail i e true cut b v o f =
    let units = units_are i.kind (ended_by (units_of f.0) f.2.tail) v f.2.value.1 in
    rw f.1 (as_long f.0 v (rw units (ended_is_longer (units_of f.0) f.2.tail)))
form_not_refused o i e bit cut b v is f = refl

-- ---- the first of all

value_not_refused : (i : FieldPart) (e : Entry) (v : Scalar) → IsFieldValue i (Some v) → operator_refusal i.operator i e v ≡ None → value_refusal i e v ≡ None
unfolding value_refusal
value_not_refused i e v h o = rw (h.of_field.0, characters_there v h.of_field.1, few_enough i.part v h.of_field.1 h.within, near i.part v h.of_field.1 h.within) o

pub not_refused : (i : FieldPart) (e : Entry) (bit : Bool) (b : List ℕ) (v : Option Scalar) → IsFieldPart i → HoldsScalar e → Form Usual i e bit b v → refusal_of i e v ≡ None
not_refused i e bit b None is h f = let w = values_within i e bit b None is h f in rw w.of_field refl
not_refused i e bit b (Some v) is h f = value_not_refused i e v (values_within i e bit b (Some v) is h f) (form_not_refused i.operator i e bit f.0 b v refl f.1.row)

-- what is refused has no form
pub refused_has_none : (level : Level) (i : FieldPart) (e : Entry) (v : Option Scalar) (r : FieldRefusal) → IsFieldPart i → HoldsScalar e → refusal_of i e v ≡ Some r → (bit : Bool) (b : List ℕ) → Form level i e bit b v → ⊥
refused_has_none level i e v r is h refused bit b f = let w = not_refused i e bit b v is h (form_usually level i e bit b v f) in absurd cc
