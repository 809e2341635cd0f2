-- The value of a form is within its type, and so is the entry afterwards.
use Rattle.fast_field.proofs.Common.{◌≡◌, ℕ, zero, suc, ◌+◌, ◌-◌, ◌<◌, ◌≤◌, Bool, true, false, List, [], length, take, drop, refl, sym, ap, subst, ◌∙◌, arith, Ok, ℤ, pos, negsuc, ◌+ℤ◌, int_lt, nat_le, nat_lt, ◌&&◌, Option, Some, None, IsTrue, IsSome, IfSome, IsUtf8, unwrap_or, if◌then◌else◌, is_utf8, chars, AllByRecursion, nat_tests, ints, IsUtf8-from_is_utf8, le-leb, leb-true, Usual, ok_is, is_of, is_integer, in_range, least_of, greatest_of, kind_of, of_integer, IsScalar, applies, IsInitial, IsTyped, Kind, Operator, Presence, Mandatory, Optional, FieldPart, Scalar, U32, I32, U64, I64, Entry, Undefined, Empty, Assigned, FieldFault, units_of, integer_of, increased, default_of, IsUnitKind, IsFieldPart, kept_of, start_of, delta_base, tail_base, absent_or, initial_or, repeated, predicted, next_of, next, written_entry, delta_entry, IsOfUnits, Cut, put_together, ended_by, SpellsCut, SpellsTail, DeltaValue, DeltaForm, TailForm, InitialOrAbsent, FormOf, Form, HoldsScalar, IsOfField, IsFieldValue, and_from, and_parts}
use Rattle.fast_field.proofs.SpelledForms.{if_ok}
use Rattle.fast_field.proofs.BaseSteps.{is_of-kind}
use Rattle.fast_field.proofs.ValuesWithin.{IsOfType, IsOfTypeOr, unit_limit, number_within, string_within, units_of_string, spelled_within, part_within, units_within, null_optional, null_units_optional, all_append, all_take, all_drop}

-- ---- what there is without an entry

empty_text : IsUtf8 []
unfolding is_utf8 chars lib.Utf8.encode
empty_text = IsUtf8-from_is_utf8 [] refl

default_within : (k : Kind) → IsOfType k (default_of k)
default_within Kind.UInt32 = (refl, omega arith)
default_within Kind.Int32 = (refl, refl)
default_within Kind.UInt64 = (refl, omega arith)
default_within Kind.Int64 = (refl, refl)
default_within Kind.Decimal = (refl, (refl, refl))
default_within Kind.Ascii = (refl, (omega arith, tt))
default_within Kind.Unicode = (refl, (omega arith, tt, empty_text))
default_within Kind.Bytes = (refl, (omega arith, tt))

initial_within : (i : FieldPart) (o : Option Scalar) (v : Scalar) → IfSome o (IsInitial i) → o ≡ Some v → IsOfType i.kind v
initial_within i None v h e = absurd cc
initial_within i (Some w) v h e =
    let same : w ≡ v = ap (λ (x : Option Scalar). unwrap_or x w) e in
    subst (λ (x : Scalar). IsOfType i.kind x) same (h.0, h.2)

start_within : (i : FieldPart) (o : Option Scalar) → IfSome o (IsInitial i) → IsOfType i.kind (unwrap_or o (default_of i.kind))
start_within i None h = default_within i.kind
start_within i (Some v) h = (h.0, h.2)

kept_within : (i : FieldPart) (v base : Scalar) → IsScalar v → kept_of i v ≡ Ok base → IsOfType i.kind base
kept_within i v base h e = let w = if_ok (is_of i.kind v) v base FieldFault.D4 e in subst (λ (x : Scalar). IsOfType i.kind x) w.1 (w.0, h)

-- ---- bases

pub delta_base_within : (i : FieldPart) (e : Entry) (base : Scalar) → IsTyped i → HoldsScalar e → delta_base i e ≡ Ok base → IsOfType i.kind base
delta_base_within i Undefined base is h e = subst (λ (x : Scalar). IsOfType i.kind x) (ok_is {F = FieldFault} (start_of i) base e) (start_within i i.initial is.initial_fits)
delta_base_within i Empty base is h e = absurd cc
delta_base_within i (Assigned v) base is h e = kept_within i v base h e

tail_base_within : (i : FieldPart) (e : Entry) (base : Scalar) → IsTyped i → HoldsScalar e → tail_base i e ≡ Ok base → IsOfType i.kind base
tail_base_within i (Assigned v) base is h e = kept_within i v base h e
tail_base_within i o base is h e = subst (λ (x : Scalar). IsOfType i.kind x) (ok_is {F = FieldFault} (start_of i) base e) (start_within i i.initial is.initial_fits)

-- ---- increment

is_lt : (m n : ℕ) → nat_lt m n ≡ true → m + 1 ≤ n
is_lt m n h = grind (arith, nat_tests)

one_up : (n : ℕ) → negsuc (suc n) +ℤ pos 1 ≡ negsuc n
one_up n = omega (arith, ints)

next_in_range : (k : Kind) (z : ℤ) → IsTrue (is_integer k) → IsTrue (in_range k z) → int_lt z (greatest_of k) ≡ true → IsTrue (in_range k (z +ℤ pos 1))
next_in_range Kind.UInt32 (pos n) i h l = and_from _ _ (le-leb 0 (n + 1) (omega arith)) (le-leb (n + 1) 4294967295 (is_lt n 4294967295 l))
next_in_range Kind.UInt64 (pos n) i h l = and_from _ _ (le-leb 0 (n + 1) (omega arith)) (le-leb (n + 1) 18446744073709551615 (is_lt n 18446744073709551615 l))
next_in_range Kind.Int32 (pos n) i h l = le-leb (n + 1) 2147483647 (is_lt n 2147483647 l)
next_in_range Kind.Int64 (pos n) i h l = le-leb (n + 1) 9223372036854775807 (is_lt n 9223372036854775807 l)
next_in_range Kind.Int32 (negsuc zero) i h l = refl
next_in_range Kind.Int64 (negsuc zero) i h l = refl
next_in_range Kind.Int32 (negsuc (suc n)) i h l = let w = and_parts (nat_le (suc n) 2147483647) true h in rw (one_up n) (and_from _ _ (le-leb n 2147483647 (omega (arith, leb-true (suc n) 2147483647 w.0))) refl)
next_in_range Kind.Int64 (negsuc (suc n)) i h l = let w = and_parts (nat_le (suc n) 9223372036854775807) true h in rw (one_up n) (and_from _ _ (le-leb n 9223372036854775807 (omega (arith, leb-true (suc n) 9223372036854775807 w.0))) refl)
next_in_range k z i h l = absurd cc

one_more_within : (k : Kind) (z : ℤ) (t : Bool) → IsTrue (is_integer k) → IsTrue (in_range k z) → int_lt z (greatest_of k) ≡ t → IsOfType k (if t then of_integer k (z +ℤ pos 1) else of_integer k (least_of k))
one_more_within k z true i h l = number_within k (z +ℤ pos 1) i (next_in_range k z i h l)
one_more_within Kind.UInt32 z false i h l = (refl, omega arith)
one_more_within Kind.Int32 z false i h l = (refl, refl)
one_more_within Kind.UInt64 z false i h l = (refl, omega arith)
one_more_within Kind.Int64 z false i h l = (refl, refl)
one_more_within k z false i h l = absurd cc

pub uint_in_range : (n m : ℕ) → n < m + 1 → (nat_le 0 n && nat_le n m) ≡ true
uint_in_range n m h = and_from _ _ (le-leb 0 n (omega arith)) (le-leb n m (omega arith))

pub increased_within : (v : Scalar) → IsTrue (is_integer (kind_of v)) → IsScalar v → IsOfType (kind_of v) (increased v)
increased_within (U32 n) i h = one_more_within Kind.UInt32 (pos n) (int_lt (pos n) (pos 4294967295)) refl (uint_in_range n 4294967295 h) refl
increased_within (U64 n) i h = one_more_within Kind.UInt64 (pos n) (int_lt (pos n) (pos 18446744073709551615)) refl (uint_in_range n 18446744073709551615 h) refl
increased_within (I32 z) i h = one_more_within Kind.Int32 z (int_lt z (pos 2147483647)) refl h refl
increased_within (I64 z) i h = one_more_within Kind.Int64 z (int_lt z (pos 9223372036854775807)) refl h refl
increased_within v i h = absurd cc

-- ---- of the type, whatever an entry has

number_kind : (k : Kind) (z : ℤ) (v : Scalar) → is_integer k ≡ true → v ≡ of_integer k z → IsTrue (is_of k v)
number_kind Kind.UInt32 z v is e = rw e refl
number_kind Kind.Int32 z v is e = rw e refl
number_kind Kind.UInt64 z v is e = rw e refl
number_kind Kind.Int64 z v is e = rw e refl
number_kind k z v is e = absurd cc

string_kind : (k : Kind) (s : List ℕ) (v : Scalar) → IsUnitKind k → IsOfUnits k s v → IsTrue (is_of k v)
string_kind Kind.Ascii s v u e = rw e refl
string_kind Kind.Unicode s v u e = rw e.1 refl
string_kind Kind.Bytes s v u e = rw e refl
string_kind k s v u e = absurd u

delta_kind : (k : Kind) (p : Presence) (base : Scalar) (c : Cut) (b : List ℕ) (v : Scalar) → DeltaValue Usual k p base c b v → IsTrue (is_of k v)
delta_kind Kind.Decimal p base c b v h = rw h.value.2 refl
delta_kind Kind.Ascii p base c b v h = string_kind Kind.Ascii _ v tt h.value.1
delta_kind Kind.Unicode p base c b v h = string_kind Kind.Unicode _ v tt h.value.1
delta_kind Kind.Bytes p base c b v h = string_kind Kind.Bytes _ v tt h.value.1
delta_kind k p base c b v h = number_kind k (integer_of base +ℤ h.delta) v refl h.value

either_kind : (k : Kind) (t : Bool) (y z : ℤ) → is_integer k ≡ true → IsTrue (is_of k (if t then of_integer k y else of_integer k z))
either_kind k true y z is = number_kind k y (of_integer k y) is refl
either_kind k false y z is = number_kind k z (of_integer k z) is refl

repeated_kind : (o : Operator) (k : Kind) (v : Scalar) → IsTrue (applies o k) → is_of k v ≡ true → IsTrue (is_of k (repeated o v))
repeated_kind Operator.Increment k v is h = rw (is_of-kind k v h) (either_kind k (int_lt (integer_of v) (greatest_of k)) (integer_of v +ℤ pos 1) (least_of k) is)
repeated_kind o k v is h = h

-- no value in an optional field; or one of the type, and within it where the entry's is within its own
abbrev IsGiven : Entry → Kind → Presence → Option Scalar → Type 0
IsGiven e k p None = p ≡ Optional
IsGiven e k p (Some v) = IsTrue (is_of k v) × (HoldsScalar e → IsScalar v)

surely : (e : Entry) (k : Kind) (p : Presence) (v : Option Scalar) → IsOfTypeOr k p v → IsGiven e k p v
surely e k p None h = h
surely e k p (Some v) h = (h.0, λ _. h.1)

-- ---- what bit 0 gives

repeated_within : (o : Operator) (k : Kind) (v : Scalar) → IsTrue (applies o k) → IsOfType k v → IsOfType k (repeated o v)
repeated_within Operator.Increment k v fits h =
    let same : kind_of v ≡ k = is_of-kind k v h.0 in
    subst (λ (x : Kind). IsOfType x (increased v)) same (increased_within v (rw same fits) h.1)
repeated_within o k v fits h = h

absent_within : (k : Kind) (p : Presence) (f : FieldFault) (v : Option Scalar) → absent_or f p ≡ Ok v → IsOfTypeOr k p v
absent_within k Mandatory f v e = absurd cc
absent_within k Optional f v e = subst (λ (x : Option Scalar). IsOfTypeOr k Optional x) (ok_is {F = FieldFault} None v e) refl

first_within : (i : FieldPart) (o v : Option Scalar) → IfSome o (IsInitial i) → initial_or FieldFault.D5 i o ≡ Ok v → IsOfTypeOr i.kind i.presence v
first_within i None v h e = absent_within i.kind i.presence FieldFault.D5 v e
first_within i (Some w) v h e = subst (λ (x : Option Scalar). IsOfTypeOr i.kind i.presence x) (ok_is {F = FieldFault} (Some w) v e) (h.0, h.2)

predicted_within : (i : FieldPart) (e : Entry) (v : Option Scalar) → IsTyped i → predicted i e ≡ Ok v → IsGiven e i.kind i.presence v
predicted_within i Undefined v is e = surely Undefined i.kind i.presence v (first_within i i.initial v is.initial_fits e)
predicted_within i Empty v is e = surely Empty i.kind i.presence v (absent_within i.kind i.presence FieldFault.D6 v e)
predicted_within i (Assigned w) v is e =
    let t = if_ok (is_of i.kind w) (Some (repeated i.operator w)) v FieldFault.D4 e in
    subst (λ (x : Option Scalar). IsGiven (Assigned w) i.kind i.presence x) t.1
    (repeated_kind i.operator i.kind w is.operator_applies t.0, λ h. (repeated_within i.operator i.kind w is.operator_applies (t.0, h)).1)

initial_of_type : (i : FieldPart) (o v : Option Scalar) → IfSome o (IsInitial i) → IsSome o → v ≡ o → IsOfTypeOr i.kind i.presence v
initial_of_type i None v h some e = absurd cc
initial_of_type i (Some w) v h some e = rw e (h.0, h.2)

left_out_within : (i : FieldPart) (v : Option Scalar) → IfSome i.initial (IsInitial i) → InitialOrAbsent i v → IsOfTypeOr i.kind i.presence v
left_out_within i None h e = e.1
left_out_within i (Some v) h e = initial_within i i.initial v h e

-- ---- deltas and tails

put_within : (P : ℕ → Type 0) (removal : ℤ) (base part : List ℕ) → AllByRecursion P base → AllByRecursion P part → AllByRecursion P (put_together removal base part)
put_within P (pos n) base part h l = all_append P (take (length base - n) base) part (all_take P (length base - n) base h) l
put_within P (negsuc n) base part h l = all_append P part (drop n base) l (all_drop P n base h)

cut_within : (k : Kind) (p : Presence) (base : Scalar) (cut : Cut) (b : List ℕ) (v : Scalar) → IsUnitKind k → IsOfType k base → SpellsCut Usual k p base cut b v → IsOfType k v
cut_within k p base cut b v u h c =
    let units = units_of_string k base u h in
    let part = part_within k c.back c.new_part c.part_form in
    string_within k (put_together c.removal (units_of base) c.new_part) v u c.value.1 (c.value.0, put_within (λ x. x < unit_limit k) c.removal (units_of base) c.new_part units.1 part.1)

delta_within : (k : Kind) (p : Presence) (base : Scalar) (cut : Cut) (b : List ℕ) (v : Scalar) → IsOfType k base → DeltaValue Usual k p base cut b v → IsOfType k v
delta_within Kind.Decimal p base cut b v h d = rw d.value.2 (refl, (d.value.0, d.value.1))
delta_within Kind.Ascii p base cut b v h d = cut_within Kind.Ascii p base cut b v tt h d
delta_within Kind.Unicode p base cut b v h d = cut_within Kind.Unicode p base cut b v tt h d
delta_within Kind.Bytes p base cut b v h d = cut_within Kind.Bytes p base cut b v tt h d
delta_within k p base cut b v h d = rw d.value (number_within k (integer_of base +ℤ d.delta) refl d.range)

delta_form_within : (i : FieldPart) (e : Entry) (cut : Cut) (b : List ℕ) (v : Option Scalar) → IsTyped i → DeltaForm Usual i e cut b v → IsGiven e i.kind i.presence v
delta_form_within i e cut b None is d = null_optional false i.presence b d.1
delta_form_within i e cut b (Some v) is d = (delta_kind i.kind i.presence d.0 cut b v d.2, λ h. (delta_within i.kind i.presence d.0 cut b v (delta_base_within i e d.0 is h d.1) d.2).1)

pub unit_kind : (k : Kind) → IsTrue (applies Operator.Tail k) → IsUnitKind k
unit_kind Kind.Ascii h = tt
unit_kind Kind.Unicode h = tt
unit_kind Kind.Bytes h = tt
unit_kind k h = absurd cc

tail_within : (i : FieldPart) (base v : Scalar) (cut : Cut) (b : List ℕ) → IsUnitKind i.kind → IsOfType i.kind base → SpellsTail Usual i.kind i.presence base cut b v → IsOfType i.kind v
tail_within i base v cut b u h t =
    let units = units_of_string i.kind base u h in
    let tail = units_within i.kind i.presence b t.tail t.tail_form in
    let P : ℕ → Type 0 = λ x. x < unit_limit i.kind in
    let kept = length (units_of base) - length t.tail in
    string_within i.kind (ended_by (units_of base) t.tail) v u t.value.1 (t.value.0, all_append P (take kept (units_of base)) t.tail (all_take P kept (units_of base) units.1) tail.1)

tail_form_within : (i : FieldPart) (e : Entry) (cut : Cut) (b : List ℕ) (v : Option Scalar) → IsTyped i → IsUnitKind i.kind → TailForm Usual i e cut b v → IsGiven e i.kind i.presence v
tail_form_within i e cut b None is u t = null_units_optional i.kind i.presence b t.1
tail_form_within i e cut b (Some v) is u t = (string_kind i.kind _ v u t.2.value.1, λ h. (tail_within i t.0 v cut b u (tail_base_within i e t.0 is h t.1) t.2).1)

-- ---- the table

row_within : (o : Operator) (i : FieldPart) (e : Entry) (bit : Bool) (cut : Cut) (b : List ℕ) (v : Option Scalar) → IsTyped i → i.operator ≡ o → FormOf Usual o i e bit cut b v → IsGiven e i.kind i.presence v
row_within Operator.Plain i e false cut b v is o f = absurd f
row_within Operator.Constant i e false cut b v is o f = rw f.3 f.2
row_within Operator.Constant i e true cut b v is o f = surely e i.kind i.presence v (initial_of_type i i.initial v is.initial_fits (is.constant_has_value o) f.2)
row_within Operator.Default i e false cut b v is o f = surely e i.kind i.presence v (left_out_within i v is.initial_fits f.2)
row_within Operator.Delta i e false cut b v is o f = absurd f
row_within Operator.Delta i e true cut b v is o f = delta_form_within i e cut b v is f
row_within Operator.Tail i e true cut b v is o f = tail_form_within i e cut b v is (unit_kind i.kind (subst (λ (x : Operator). IsTrue (applies x i.kind)) o is.operator_applies)) f
row_within o i e false cut b v is of_o f = predicted_within i e v is f.2
row_within o i e true cut b v is of_o f = surely e i.kind i.presence v (spelled_within i.kind i.presence b v f.1)

of_field : (i : FieldPart) (e : Entry) (v : Option Scalar) → HoldsScalar e → IsGiven e i.kind i.presence v → IsOfField i v
of_field i e None h given = given
of_field i e (Some v) h given = (given.0, given.1 h)

pub values_within : (i : FieldPart) (e : Entry) (bit : Bool) (b : List ℕ) (v : Option Scalar) → IsFieldPart i → HoldsScalar e → Form Usual i e bit b v → IsFieldValue i v
values_within i e bit b v is h f = record { of_field = of_field i e v h (row_within i.operator i e bit f.0 b v is.typed refl f.1.row); within = f.1.within }

-- the same of entries of which nothing is known: a value of a form is of the field's type
pub value_kind : (i : FieldPart) → IsTyped i → (e : Entry) (bit : Bool) (b : List ℕ) (v : Scalar) → Form Usual i e bit b (Some v) → IsTrue (is_of i.kind v)
value_kind i is e bit b v f = (row_within i.operator i e bit f.0 b (Some v) is refl f.1.row).0

-- and a mandatory field has one
pub value_there : (i : FieldPart) → IsTyped i → i.presence ≡ Mandatory → (e : Entry) (bit : Bool) (b : List ℕ) → Form Usual i e bit b None → ⊥
value_there i is m e bit b f = let no : Mandatory ≡ Optional = sym m ∙ row_within i.operator i e bit f.0 b None is refl f.1.row in absurd cc

-- ---- the entry afterwards

written_holds : (i : FieldPart) (v : Option Scalar) → IsOfField i v → HoldsScalar (written_entry v)
written_holds i None h = tt
written_holds i (Some v) h = h.1

delta_holds : (i : FieldPart) (e : Entry) (v : Option Scalar) → HoldsScalar e → IsOfField i v → HoldsScalar (delta_entry e v)
delta_holds i e None k h = k
delta_holds i e (Some v) k h = h.1

next_holds : (o : Operator) (i : FieldPart) (e : Entry) (v : Option Scalar) → HoldsScalar e → IsOfField i v → HoldsScalar (next_of o e v)
next_holds Operator.Plain i e v k h = k
next_holds Operator.Constant i e v k h = k
next_holds Operator.Default i e v k h = k
next_holds Operator.Delta i e v k h = delta_holds i e v k h
next_holds o i e v k h = written_holds i v h

pub entries_within : (i : FieldPart) (e : Entry) (v : Option Scalar) → HoldsScalar e → IsFieldValue i v → HoldsScalar (next i e v)
entries_within i e v k h = next_holds i.operator i e v k h.of_field
