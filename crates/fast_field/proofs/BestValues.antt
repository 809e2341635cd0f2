-- Each value that is not refused has a best form.
use Rattle.fast_field.proofs.Common.{◌≡◌, ℕ, ◌<◌, ◌≤◌, Bool, true, false, List, [], ◌∷◌, length, refl, sym, ap, subst, ◌∙◌, arith, Ok, Err, Result, inl, inr, ℤ, pos, negsuc, int_lt, int_le, nat_lt, nat_le, ◌&&◌, not, Option, Some, None, IsTrue, if◌then◌else◌, AllByRecursion, nat_tests, le-leb, leb-true, Usual, ok_is, IsShortest, Null, is_of, in_range, exponent_in_range, scalar_eq-exact, scalar_eq-same, IsScalar, applies, Kind, Operator, Part, Presence, Mandatory, Optional, FieldPart, Scalar, U32, Decimal, Ascii, Unicode, Bytes, Entry, FieldFault, FieldRefusal, integer_of, units_of, IsFieldPart, IsKindOfPart, delta_base, tail_base, predicted, SpellsInteger, SpellsUnits, Spelled, Cut, uncut, SpellsTail, DeltaValue, DeltaForm, TailForm, InitialOrAbsent, FormOf, FormBy, Form, IsWithin, within_part, HasRange, HasRangeOr, HoldsScalar, IsOfField, IsFieldValue, NoLater, IsBest, is_optional, is_same, gives_same, default_gives, constant_gives, left_out_of, are_characters, has_characters, has_too_many, is_far, other_than_constant, constant_refusal, delta_refusal, tail_refusal, operator_refusal, absent_refusal, value_refusal, refusal_of, ascii_null_shortest, unsigned_nullable_sizes, entity_some, vector_null_shortest, IsSignedNullable, IsUnsignedNullable, is_unsigned, and_parts, ltb-false, not-false}
use Rattle.fast_value.specs.contracts.scalar.ScalarPartialEq.TheImpl as scalar_eq
use Rattle.fast_field.proofs.BestForms.{bit_zero_row, bit_zero_is_best, size_le}
use Rattle.fast_field.proofs.BestDeltas.{IsFirst, First, shortest_is_first, number_delta_first, decimal_delta_first}
use Rattle.fast_field.proofs.BestCuts.{string_delta_first}
use Rattle.fast_field.proofs.BestTails.{tail_first}
use Rattle.fast_field.proofs.FieldsWithin.{delta_base_within, unit_kind, values_within}
use Rattle.fast_field.proofs.Refused.{not_refused}
use Rattle.fast_field.proofs.Shortest.{shortest_whole, whole_shortest}
use Rattle.fast_field.proofs.ValuesWithin.{IsOfType}

-- ---- bit 0

optional : (p : Presence) → is_optional p ≡ true → p ≡ Optional
optional Mandatory e = absurd cc
optional Optional e = refl

same_is : (v w : Option Scalar) → is_same v w ≡ true → v ≡ w
same_is None None e = refl
same_is (Some v) (Some w) e = ap (λ (x : Scalar). Some x) (scalar_eq-exact v w e)
same_is None (Some w) e = absurd cc
same_is (Some v) None e = absurd cc

is_same-itself : (v : Option Scalar) → is_same v v ≡ true
is_same-itself None = refl
is_same-itself (Some v) = scalar_eq-same v

abbrev done : {A : Type 0} → A → Result A FieldFault
done x = Ok x

given : (r : Result (Option Scalar) FieldFault) (v : Option Scalar) → gives_same r v ≡ true → r ≡ Ok v
given (Ok w) v e = ap (λ (x : Option Scalar). done x) (same_is w v e)
given (Err f) v e = absurd cc

gives : (r : Result (Option Scalar) FieldFault) (v : Option Scalar) → r ≡ Ok v → gives_same r v ≡ true
gives r v e = rw e (is_same-itself v)

default_given : (i : FieldPart) (o v : Option Scalar) → i.initial ≡ o → default_gives i.presence o v ≡ true → InitialOrAbsent i v
default_given i None None is e = (is, optional i.presence e)
default_given i (Some w) (Some v) is e = is ∙ same_is (Some w) (Some v) e
default_given i None (Some v) is e = absurd cc
default_given i (Some w) None is e = absurd cc

gives_default : (i : FieldPart) (v : Option Scalar) → InitialOrAbsent i v → default_gives i.presence i.initial v ≡ true
gives_default i None h = rw (h.0, h.1) refl
gives_default i (Some v) h = rw h (scalar_eq-same v)

constant_given : (i : FieldPart) (v : Option Scalar) → constant_gives i.presence v ≡ true → (i.presence ≡ Optional) × (v ≡ None)
constant_given i None e = (optional i.presence e, refl)
constant_given i (Some v) e = absurd cc

pub left_out : (o : Operator) (i : FieldPart) (e : Entry) (v : Option Scalar) → left_out_of o i e v ≡ true → FormOf Usual o i e false uncut [] v
left_out Operator.Plain i e v h = absurd cc
left_out Operator.Constant i e v h = let w = constant_given i v h in (refl, refl, w.0, w.1)
left_out Operator.Default i e v h = (refl, refl, default_given i i.initial v refl h)
left_out Operator.Delta i e v h = absurd cc
left_out o i e v h = (refl, refl, given (predicted i e) v h)

pub can_be_left_out : (o : Operator) (i : FieldPart) (e : Entry) (cut : Cut) (b : List ℕ) (v : Option Scalar) → FormOf Usual o i e false cut b v → left_out_of o i e v ≡ true
can_be_left_out Operator.Plain i e cut b v f = absurd f
can_be_left_out Operator.Constant i e cut b v f = rw (f.3, f.2) refl
can_be_left_out Operator.Default i e cut b v f = gives_default i v f.2
can_be_left_out Operator.Delta i e cut b v f = absurd f
can_be_left_out o i e cut b v f = gives (predicted i e) v f.2

-- ---- bit 1

-- on the base that there is
on_base_first : (r : Result Scalar FieldFault) (Makes : Scalar → Cut → List ℕ → Type 0) (base : Scalar) (b : List ℕ) → r ≡ Ok base → IsFirst (Makes base) b → IsFirst (λ c b. (x : Scalar) × (r ≡ Ok x) × Makes x c b) b
on_base_first r Makes base b is f = record {
  cut = f.cut;
  form = (base, is, f.form);
  first = λ c o h. let same : h.0 ≡ base = ok_is {F = FieldFault} h.0 base (sym h.1 ∙ is) in f.first c o (subst (λ (x : Scalar). Makes x c o) same h.2);
}

pub whole_is_first : (k : Kind) (p : Presence) (v : Option Scalar) (b : List ℕ) → IsShortest (Spelled Usual k p) b v → IsFirst (λ c b. (c ≡ uncut) × Spelled Usual k p b v) b
whole_is_first k p v b s = shortest_is_first (λ c b. (c ≡ uncut) × Spelled Usual k p b v) b (refl, s.form) (λ c o h. (h.0, s.least o h.1))

value_first : (i : FieldPart) (v : Scalar) → IsOfType i.kind v → First (λ c b. (c ≡ uncut) × Spelled Usual i.kind i.presence b (Some v))
value_first i v h =
    let s = shortest_whole i.kind i.presence v h in
    (s.0, whole_is_first i.kind i.presence (Some v) s.0 (whole_shortest i.kind i.presence v s.0 h s.1))

delta_value_first : (k : Kind) (p : Presence) (base v : Scalar) → IsOfType k base → IsOfType k v → First (λ c b. DeltaValue Usual k p base c b v)
delta_value_first Kind.Decimal p base v h l = decimal_delta_first p base v h l
delta_value_first Kind.Ascii p base v h l = string_delta_first Kind.Ascii p base v tt h l
delta_value_first Kind.Unicode p base v h l = string_delta_first Kind.Unicode p base v tt h l
delta_value_first Kind.Bytes p base v h l = string_delta_first Kind.Bytes p base v tt h l
delta_value_first k p base v h l = number_delta_first k p base v refl h l

has_base : (r : Result Scalar FieldFault) → delta_refusal r ≡ None → (base : Scalar) × (r ≡ Ok base)
has_base (Ok base) e = (base, refl)
has_base (Err f) e = absurd cc

pub delta_is_first : (i : FieldPart) (e : Entry) (base v : Scalar) (b : List ℕ) → delta_base i e ≡ Ok base → IsFirst (λ c b. DeltaValue Usual i.kind i.presence base c b v) b → IsFirst (λ c b. DeltaForm Usual i e c b (Some v)) b
delta_is_first i e base v b is f = on_base_first (delta_base i e) (λ x c b. DeltaValue Usual i.kind i.presence x c b v) base b is f

pub delta_null_is_first : (i : FieldPart) (e : Entry) (b : List ℕ) → IsShortest (SpellsInteger Usual false i.presence) b Null → IsFirst (λ c b. DeltaForm Usual i e c b None) b
delta_null_is_first i e b s = shortest_is_first (λ c b. DeltaForm Usual i e c b None) b (refl, s.form) (λ c o f. (f.0, s.least o f.1))

delta_first : (i : FieldPart) (e : Entry) (v : Scalar) → IsFieldPart i → HoldsScalar e → IsOfType i.kind v → delta_refusal (delta_base i e) ≡ None → First (λ c b. DeltaForm Usual i e c b (Some v))
delta_first i e v is h l none =
    let base = has_base (delta_base i e) none in
    let f = delta_value_first i.kind i.presence base.0 v (delta_base_within i e base.0 is.typed h base.1) l in
    (f.0, delta_is_first i e base.0 v f.0 base.1 f.1)

long_enough : (r : Result Scalar FieldFault) (v : Scalar) → tail_refusal r v ≡ None → (base : Scalar) × (r ≡ Ok base) × (length (units_of base) ≤ length (units_of v))
long_enough (Ok base) v e = (base, refl, not_short (nat_lt (length (units_of v)) (length (units_of base))) refl e)
  where
    not_short : (t : Bool) → nat_lt (length (units_of v)) (length (units_of base)) ≡ t → (if t then Some FieldRefusal.TooShort else None) ≡ None → length (units_of base) ≤ length (units_of v)
    not_short true h e = absurd cc
    not_short false h e = grind (arith, nat_tests)
long_enough (Err f) v e = absurd cc

pub tail_form_is_first : (i : FieldPart) (e : Entry) (base v : Scalar) (b : List ℕ) → tail_base i e ≡ Ok base → IsFirst (λ c b. SpellsTail Usual i.kind i.presence base c b v) b → IsFirst (λ c b. TailForm Usual i e c b (Some v)) b
tail_form_is_first i e base v b is f = on_base_first (tail_base i e) (λ x c b. SpellsTail Usual i.kind i.presence x c b v) base b is f

pub tail_null_is_first : (i : FieldPart) (e : Entry) (b : List ℕ) → IsShortest (SpellsUnits Usual i.kind i.presence) b Null → IsFirst (λ c b. TailForm Usual i e c b None) b
tail_null_is_first i e b s = shortest_is_first (λ c b. TailForm Usual i e c b None) b (refl, s.form) (λ c o f. (f.0, s.least o f.1))

tail_form_first : (i : FieldPart) (e : Entry) (v : Scalar) → IsTrue (applies Operator.Tail i.kind) → IsOfType i.kind v → tail_refusal (tail_base i e) v ≡ None → First (λ c b. TailForm Usual i e c b (Some v))
tail_form_first i e v fits l none =
    let base = long_enough (tail_base i e) v none in
    let f = tail_first i.kind i.presence base.0 v (unit_kind i.kind fits) l base.2 in
    (f.0, tail_form_is_first i e base.0 v f.0 base.1 f.1)

-- ---- NULL is one byte in every form

abbrev pub null_byte : List ℕ
null_byte = 128 ∷ []

pub unsigned_null : IsUnsignedNullable null_byte Null
unsigned_null = record { entity = (omega arith, omega arith); short = omega arith; value = refl }

signed_null : IsSignedNullable null_byte Null
signed_null = record { entity = (omega arith, omega arith); short = omega arith; value = refl }

pub null_is_byte : (b : List ℕ) → IsShortest IsUnsignedNullable b Null → b ≡ null_byte
null_is_byte b h =
    let most = h.least null_byte unsigned_null in
    let some = entity_some b h.form.entity in
    unsigned_nullable_sizes.one b null_byte Null h.form unsigned_null (omega (arith, most, some))

null_integer : (u : Bool) → IsShortest (SpellsInteger Usual u Optional) null_byte Null
null_integer true = record { form = unsigned_null; least = λ o h. entity_some o h.entity }
null_integer false = record { form = signed_null; least = λ o h. entity_some o h.entity }

null_units : (k : Kind) → IsShortest (SpellsUnits Usual k Optional) null_byte Null
null_units Kind.Ascii = record { form = ascii_null_shortest.form; least = ascii_null_shortest.least }
null_units k = record { form = vector_null_shortest.form; least = vector_null_shortest.least }

null_spelled : (k : Kind) → IsShortest (Spelled Usual k Optional) null_byte None
null_spelled Kind.Decimal = record { form = (null_integer false).form; least = (null_integer false).least }
null_spelled Kind.Ascii = record { form = (null_units Kind.Ascii).form; least = (null_units Kind.Ascii).least }
null_spelled Kind.Unicode = record { form = (null_units Kind.Unicode).form; least = (null_units Kind.Unicode).least }
null_spelled Kind.Bytes = record { form = (null_units Kind.Bytes).form; least = (null_units Kind.Bytes).least }
null_spelled k = record { form = (null_integer (is_unsigned k)).form; least = (null_integer (is_unsigned k)).least }

pub null_first : (o : Operator) (i : FieldPart) (e : Entry) → i.presence ≡ Optional → left_out_of o i e None ≡ false → IsFirst (λ c b. FormOf Usual o i e true c b None) null_byte
null_first Operator.Constant i e p out = absurd (let w : constant_gives i.presence None ≡ true = rw p refl in cc)
null_first Operator.Delta i e p out = delta_null_is_first i e null_byte (rw p (null_integer false))
null_first Operator.Tail i e p out = tail_null_is_first i e null_byte (rw p (null_units i.kind))
null_first o i e p out = whole_is_first i.kind i.presence None null_byte (rw p (null_spelled i.kind))

-- ---- what is not refused is within its type

if_none : (t : Bool) (r : FieldRefusal) (x : Option FieldRefusal) → (if t then Some r else x) ≡ None → (t ≡ false) × (x ≡ None)
if_none true r x e = absurd cc
if_none false r x e = (refl, e)

record Unrefused (i : FieldPart) (e : Entry) (v : Scalar) : Type 0 where
  pub of_kind : IsTrue (is_of i.kind v)
  pub characters : has_characters v ≡ true
  pub few : has_too_many i.part v ≡ false
  pub near : is_far i.part v ≡ false
  pub rest : operator_refusal i.operator i e v ≡ None

unrefused : (i : FieldPart) (e : Entry) (v : Scalar) → value_refusal i e v ≡ None → Unrefused i e v
unfolding value_refusal
unrefused i e v h =
    let x = if_none (not (is_of i.kind v && has_characters v)) FieldRefusal.Mismatch _ h in
    let y = if_none (has_too_many i.part v) FieldRefusal.Limit _ x.1 in
    let z = if_none (is_far i.part v) FieldRefusal.R1 _ y.1 in
    let w = and_parts (is_of i.kind v) (has_characters v) (not-false (is_of i.kind v && has_characters v) x.0) in
    record { of_kind = w.0; characters = w.1; few = y.0; near = z.0; rest = z.1 }

are_all : (s : List ℕ) → are_characters s ≡ true → AllByRecursion (λ c. c < 128) s
are_all [] h = tt
are_all (c ∷ s) h = let w = and_parts (nat_lt c 128) (are_characters s) h in let t = w.0 in (grind (arith, nat_tests), are_all s w.1)

few_elements : (z : ℤ) → int_lt (pos 65535) z ≡ false → int_le z (pos 65535) ≡ true
few_elements (pos n) h = let le = ltb-false 65535 n h in grind (arith, nat_tests)
few_elements (negsuc n) h = refl

within_limit : (p : Part) (v : Scalar) → has_too_many p v ≡ false → is_far p v ≡ false → IsTrue (within_part p v)
within_limit Part.Exponent v few near = not-false (exponent_in_range (integer_of v)) near
within_limit Part.Length v few near = few_elements (integer_of v) few
within_limit p v few near = refl

few_units : (p : Part) (k : Kind) (v : Scalar) → IsKindOfPart p k → IsTrue (is_of k v) → has_too_many p v ≡ false → length (units_of v) ≤ 65535
few_units Part.Length k v of_part h few = no_units v (subst (λ (x : Kind). IsTrue (is_of x v)) of_part h)
  where
    no_units : (v : Scalar) → IsTrue (is_of Kind.UInt32 v) → length (units_of v) ≤ 65535
    no_units (U32 n) h = omega arith
    no_units v h = absurd cc
few_units p k v of_part h few = ltb-false 65535 (length (units_of v)) few

near_decimal : (p : Part) (k : Kind) (e m : ℤ) → IsKindOfPart p k → IsTrue (is_of k (Decimal e m)) → is_far p (Decimal e m) ≡ false → IsTrue (exponent_in_range e)
near_decimal Part.Exponent k e m of_part h near = absurd (let w : false ≡ true = subst (λ (x : Kind). is_of x (Decimal e m) ≡ true) of_part h in cc)
near_decimal p k e m of_part h near = not-false (exponent_in_range e) near

scalar_within : (i : FieldPart) (e : Entry) (v : Scalar) → IsFieldPart i → HasRange v → Unrefused i e v → IsScalar v
scalar_within i e (Decimal x m) is h u = (near_decimal i.part i.kind x m is.kind_of_part u.of_kind u.near, h.1)
scalar_within i e (Ascii s) is h u = (few_units i.part i.kind (Ascii s) is.kind_of_part u.of_kind u.few, are_all s u.characters)
scalar_within i e (Unicode s) is h u = (few_units i.part i.kind (Unicode s) is.kind_of_part u.of_kind u.few, h.0, h.1)
scalar_within i e (Bytes s) is h u = (few_units i.part i.kind (Bytes s) is.kind_of_part u.of_kind u.few, h)
scalar_within i e v is h u = h

pub absent_optional : (p : Presence) → absent_refusal p ≡ None → p ≡ Optional
absent_optional Mandatory h = absurd cc
absent_optional Optional h = refl

pub field_value : (i : FieldPart) (e : Entry) (v : Option Scalar) → IsFieldPart i → HasRangeOr v → refusal_of i e v ≡ None → IsFieldValue i v
field_value i e None is h none = record { of_field = absent_optional i.presence none; within = tt }
field_value i e (Some v) is h none = let u = unrefused i e v none in record { of_field = (u.of_kind, scalar_within i e v is h u); within = within_limit i.part v u.few u.near }

-- ---- all operators

pub constant_is : (p : Part) (o : Option Scalar) (v : Scalar) → constant_refusal p o v ≡ None → Some v ≡ o
constant_is p None v e = absurd cc
constant_is p (Some w) v e = same ((scalar_eq.eq-value).it v w) refl e
  where
    same : (t : Bool) → (scalar_eq.eq-value).it v w ≡ t → (if t then None else Some (other_than_constant p)) ≡ None → Some v ≡ Some w
    same true h e = ap (λ (x : Scalar). Some x) (scalar_eq-exact v w h)
    same false h e = absurd cc

pub constant_is_first : (i : FieldPart) (e : Entry) (v : Scalar) → Some v ≡ i.initial → IsFirst (λ c b. FormOf Usual Operator.Constant i e true c b (Some v)) []
constant_is_first i e v is = shortest_is_first (λ c b. FormOf Usual Operator.Constant i e true c b (Some v)) [] (refl, refl, is) (λ c o f. (f.0, omega arith))

-- under bit 1, where bit 0 does not give the value
under_one : (o : Operator) (i : FieldPart) (e : Entry) (v : Option Scalar) → IsTrue (applies o i.kind) → IsFieldPart i → HoldsScalar e → IsOfField i v → ((w : Scalar) → v ≡ Some w → operator_refusal o i e w ≡ None) → left_out_of o i e v ≡ false
    → First (λ c b. FormOf Usual o i e true c b v)
under_one o i e None a is h l none out = (null_byte, null_first o i e l out)
under_one Operator.Constant i e (Some v) a is h l none out = ([], constant_is_first i e v (constant_is i.part i.initial v (none v refl)))
under_one Operator.Delta i e (Some v) a is h l none out = delta_first i e v is h l (none v refl)
under_one Operator.Tail i e (Some v) a is h l none out = tail_form_first i e v a l (none v refl)
under_one o i e (Some v) a is h l none out = value_first i v l

pub best_under_one : (i : FieldPart) (e : Entry) (v : Option Scalar) (best : List ℕ) → IsWithin i.part v → IsFirst (λ c b. FormOf Usual i.operator i e true c b v) best → left_out_of i.operator i e v ≡ false → IsBest i e true best v
best_under_one i e v best within f out = record { cut = f.cut; form = record { row = f.form; within = within }; first = later }
  where
    later : (bit : Bool) (c : Cut) (b : List ℕ) → FormBy Usual i e bit c b v → NoLater true (length best) f.cut bit (length b) c
    later true c b h = f.first c b h.row
    later false c b h = absurd (let w = can_be_left_out i.operator i e c b v h.row in cc)

best_by : (i : FieldPart) (e : Entry) (v : Option Scalar) (t : Bool) → left_out_of i.operator i e v ≡ t → IsFieldPart i → HoldsScalar e → IsFieldValue i v → ((w : Scalar) → v ≡ Some w → operator_refusal i.operator i e w ≡ None) → (bit : Bool) × (b : List ℕ) × IsBest i e bit b v
best_by i e v true out is h l none = (false, [], bit_zero_is_best i e v (record { row = left_out i.operator i e v out; within = l.within }))
best_by i e v false out is h l none = let f = under_one i.operator i e v is.typed.operator_applies is h l.of_field none out in (true, f.0, best_under_one i e v f.0 l.within f.1 out)

pub operator_allows : (i : FieldPart) (e : Entry) (v : Option Scalar) → refusal_of i e v ≡ None → (w : Scalar) → v ≡ Some w → operator_refusal i.operator i e w ≡ None
operator_allows i e v none w is = (unrefused i e w (subst (λ (x : Option Scalar). refusal_of i e x ≡ None) is none)).rest

-- a value that is not refused has a best form
pub best_stands : (i : FieldPart) (e : Entry) (v : Option Scalar) → IsFieldPart i → HoldsScalar e → HasRangeOr v → refusal_of i e v ≡ None → (bit : Bool) × (b : List ℕ) × IsBest i e bit b v
best_stands i e v is h r none = best_by i e v (left_out_of i.operator i e v) refl is h (field_value i e v is r none) (operator_allows i e v none)

-- ---- what has a form has a best one

wide : (z : ℤ) → IsTrue (exponent_in_range z) → IsTrue (in_range Kind.Int32 z)
wide (pos n) h = let le = leb-true n 63 h in le-leb n 2147483647 (omega arith)
wide (negsuc n) h =
    let le = leb-true n 62 (and_parts (nat_le n 62) true h).0 in
    let t : nat_le n 2147483647 ≡ true = le-leb n 2147483647 (omega arith) in
    rw t refl

range_of_scalar : (v : Scalar) → IsScalar v → HasRange v
range_of_scalar (Decimal e m) h = (wide e h.0, h.1)
range_of_scalar (Ascii s) h = small s h.1
  where
    small : (s : List ℕ) → AllByRecursion (λ c. c < 128) s → AllByRecursion (λ c. c < 256) s
    small [] h = tt
    small (c ∷ s) h = let lt = h.0 in (omega arith, small s h.1)
range_of_scalar (Unicode s) h = (h.1, h.2)
range_of_scalar (Bytes s) h = h.1
range_of_scalar v h = h

range_of_value : (i : FieldPart) (v : Option Scalar) → IsFieldValue i v → HasRangeOr v
range_of_value i None h = tt
range_of_value i (Some v) h = range_of_scalar v h.of_field.1

pub form_has_best : (i : FieldPart) (e : Entry) (bit : Bool) (b : List ℕ) (v : Option Scalar) → IsFieldPart i → HoldsScalar e → Form Usual i e bit b v → (bit : Bool) × (b : List ℕ) × IsBest i e bit b v
form_has_best i e bit b v is h f = best_stands i e v is h (range_of_value i v (values_within i e bit b v is h f)) (not_refused i e bit b v is h f)

-- ---- no form is shorter

bit_no_later : (bit bit' : Bool) (n n' : ℕ) (c c' : Cut) → NoLater bit n c bit' n' c' → bit' ≡ false → bit ≡ false
bit_no_later false bit' n n' c c' h e = refl
bit_no_later true true n n' c c' h e = e
bit_no_later true false n n' c c' (inl lt) e = absurd (omega (arith, lt))
bit_no_later true false n n' c c' (inr h) e = h.0

size_no_later : (bit bit' : Bool) (n n' : ℕ) (c c' : Cut) → (bit ≡ false → n ≡ 0) → NoLater bit n c bit' n' c' → n ≤ n'
size_no_later false bit' n n' c c' empty h = let none = empty refl in omega arith
size_no_later true true n n' c c' empty h = size_le true true n n' c c' refl h
size_no_later true false n n' c c' empty h = let e = bit_no_later true false n n' c c' h refl in absurd cc

no_bytes : (i : FieldPart) (e : Entry) (bit : Bool) (cut : Cut) (b : List ℕ) (v : Option Scalar) → FormOf Usual i.operator i e bit cut b v → bit ≡ false → length b ≡ 0
no_bytes i e false cut b v f is = rw (bit_zero_row i.operator i e cut b v f).1 refl
no_bytes i e true cut b v f is = absurd cc

pub none_shorter : (i : FieldPart) (e : Entry) (bit other : Bool) (b c : List ℕ) (v : Option Scalar) → IsBest i e bit b v → Form Usual i e other c v → (other ≡ false → bit ≡ false) × (length b ≤ length c)
none_shorter i e bit other b c v best f =
    let later = best.first other f.0 c f.1 in
    (bit_no_later bit other (length b) (length c) best.cut f.0 later, size_no_later bit other (length b) (length c) best.cut f.0 (no_bytes i e bit best.cut b v best.form.row) later)
