-- A field whose entities are not overlong is read at the strict level as at the usual one.
use Rattle.std.proofs.Common.{◌≡◌, ◌≤◌, ℕ, ◌+◌, ◌-◌, Bool, true, false, List, ◌++◌, length, take, drop, slice_range, Result, Ok, refl, sym, ap, subst, ◌∙◌, arith, ℤ, pos, negsuc, Option, IsTrue, drop-drop}
use Rattle.std.proofs.lemmas.List.{append_assoc, take-append-drop}
use Rattle.fast_wire.proofs.FormReaders.{entities}
use Rattle.fast_wire.proofs.NotOverlong.{shortest_ascii_begins, shortest_ascii_nullable_begins}
use Rattle.fast_wire.specs.Entity.{IsEntity, groups}
use Rattle.fast_wire.specs.Integer.{IsSigned}
use Rattle.fast_wire.specs.Level.{overlong_signed, overlong_unsigned, verdict}
use Rattle.fast_wire.specs.Plain.{IsPlain}
use Rattle.fast_wire.specs.Reader.{IsBytes}
use Rattle.fast_wire.specs.Reading.{◌>>=◌}
unfoldable use Rattle.fast_wire.specs.Reading.{entity_at, signed_at}
use Rattle.fast_wire.specs.declared.level.Level.{Level}
use Rattle.fast_wire.specs.declared.level.Level.TheVariants.{Usual, Strict}
use Rattle.fast_wire.specs.declared.nullable.Nullable.{Nullable}
use Rattle.fast_wire.specs.declared.nullable.Nullable.TheVariants.{Null, Value}
use Rattle.fast_value.specs.Scalar.{is_integer}
use Rattle.fast_value.specs.declared.kind.Kind.{Kind}
use Rattle.fast_value.specs.declared.kind.Operator.{Operator}
use Rattle.fast_value.specs.declared.kind.Part.{Part}
use Rattle.fast_value.specs.declared.kind.Presence.{Presence}
use Rattle.fast_value.specs.declared.kind.Presence.TheVariants.{Mandatory, Optional}
use Rattle.fast_value.specs.declared.scalar.Scalar.{Scalar}
use Rattle.fast_template.specs.TemplateSets.{applies}
use Rattle.fast_template.specs.declared.resolved.FieldPart.{FieldPart}
use Rattle.fast_dictionary.specs.declared.entry.Entry.{Entry}
use Rattle.fast_field.specs.AsUsual.{ReadsAsUsual}
use Rattle.fast_field.specs.Faults.{field_fault}
use Rattle.fast_field.specs.FieldReading.{in_field, integer_usually_at, mantissa_entity_at, part_usually_at, units_usually_at, unless_null}
unfoldable use Rattle.fast_field.specs.FieldReading.{decimal_delta_at, decimal_spelled_at, delta_at, field_at, integer_at, integer_delta_at, integer_spelled_at, mantissa_behind, mantissa_delta_behind, new_part_behind, part_at, row_at, spelled_at, tail_at, unit_delta_at, units_at, units_spelled_at, whole_at}
use Rattle.fast_field.specs.Parts.{IsFieldPart}
use Rattle.fast_field.specs.Spelled.{SpellsIntegerUsually, overlong_number}
use Rattle.fast_field.specs.Values.{IsUnitKind, is_unsigned}
use Rattle.fast_field.specs.declared.fault.FieldFault.{FieldFault}
use Rattle.fast_field.proofs.SpelledForms.{integer_forms, part_forms, units_forms}
use Rattle.fast_take.specs.Judged.{PairStandsFrom, StandsAt, StandsFrom, sent_unsigned}
use Rattle.fast_take.specs.Numbers.{SpellsWhole, Spelt}
use Rattle.fast_take.specs.Texts.{IsVectorKind}
use Rattle.fast_take.proofs.Standing.{entity_in, standing}

-- ---- what is read alike

abbrev pub NumberAlike : Bool → Presence → List ℕ → Type 0
NumberAlike u p bytes = (more : List ℕ) → integer_at Strict u p (bytes ++ more) ≡ integer_at Usual u p (bytes ++ more)

abbrev pub UnitsAlike : Kind → Presence → List ℕ → Type 0
UnitsAlike k p bytes = (more : List ℕ) → units_at Strict k p (bytes ++ more) ≡ units_at Usual k p (bytes ++ more)

abbrev MantissaAlike : List ℕ → Type 0
MantissaAlike bytes = mantissa_entity_at Strict bytes ≡ mantissa_entity_at Usual bytes

abbrev PartAlike : Kind → List ℕ → Type 0
PartAlike k bytes = part_at Strict k bytes ≡ part_at Usual k bytes

-- a number, and what stands behind it
pub record TwoAt (Second : List ℕ → Type 0) (p : Presence) (bytes : List ℕ) : Type 0 where
  pub number : Nullable ℤ
  pub behind : List ℕ
  pub strictly : integer_at Strict false p bytes ≡ Ok (number, behind)
  pub usually : integer_at Usual false p bytes ≡ Ok (number, behind)
  pub second : Second behind

abbrev pub TwoAlike : (List ℕ → Type 0) → Presence → List ℕ → Type 0
TwoAlike Second p bytes = (more : List ℕ) → TwoAt Second p (bytes ++ more)

abbrev pub PairAlike : Presence → List ℕ → Type 0
PairAlike p bytes = TwoAlike MantissaAlike p bytes

abbrev pub CutAlike : Kind → Presence → List ℕ → Type 0
CutAlike k p bytes = TwoAlike (PartAlike k) p bytes

-- what is sent whole, or as a difference
abbrev pub WholeAlike : Kind → Presence → List ℕ → Type 0
WholeAlike Kind.Decimal p bytes = PairAlike p bytes
WholeAlike Kind.Ascii p bytes = UnitsAlike Kind.Ascii p bytes
WholeAlike Kind.Unicode p bytes = UnitsAlike Kind.Unicode p bytes
WholeAlike Kind.Bytes p bytes = UnitsAlike Kind.Bytes p bytes
WholeAlike k p bytes = NumberAlike (is_unsigned k) p bytes

abbrev pub DeltaAlike : Kind → Presence → List ℕ → Type 0
DeltaAlike Kind.Decimal p bytes = PairAlike p bytes
DeltaAlike Kind.Ascii p bytes = CutAlike Kind.Ascii p bytes
DeltaAlike Kind.Unicode p bytes = CutAlike Kind.Unicode p bytes
DeltaAlike Kind.Bytes p bytes = CutAlike Kind.Bytes p bytes
DeltaAlike k p bytes = NumberAlike false p bytes

-- of a constant nothing is sent
abbrev pub FieldAlike : Operator → Kind → Presence → List ℕ → Type 0
FieldAlike Operator.Constant k p bytes = Unit {0}
FieldAlike Operator.Delta k p bytes = DeltaAlike k p bytes
FieldAlike Operator.Tail k p bytes = UnitsAlike k p bytes
FieldAlike o k p bytes = WholeAlike k p bytes

-- ---- so is the field

by_null : {A : Type 0} (z : Nullable A) (rest : List ℕ) (f g : A → List ℕ → Result (Option Scalar × List ℕ) FieldFault)
    → ((a : A) → f a rest ≡ g a rest) → unless_null (z, rest) f ≡ unless_null (z, rest) g
by_null Null rest f g h = refl
by_null (Value a) rest f g h = h a

in_two : (Second : List ℕ → Type 0) (p : Presence) (bytes : List ℕ) (f g : ℤ → List ℕ → Result (Option Scalar × List ℕ) FieldFault)
    → TwoAt Second p bytes → ((z : ℤ) (rest : List ℕ) → Second rest → f z rest ≡ g z rest)
    → (integer_at Strict false p bytes >>= λ x. unless_null x f) ≡ (integer_at Usual false p bytes >>= λ x. unless_null x g)
in_two Second p bytes f g h same = rw (h.strictly, h.usually) (by_null h.number h.behind f g (λ z. same z h.behind h.second))

spelled : (pt : Part) (k : Kind) (p : Presence) (bytes more : List ℕ) → WholeAlike k p bytes
    → spelled_at Strict pt k p (bytes ++ more) ≡ spelled_at Usual pt k p (bytes ++ more)
unfolding spelled_at decimal_spelled_at integer_spelled_at units_spelled_at mantissa_behind
spelled pt Kind.Decimal p bytes more h =
    in_two MantissaAlike p (bytes ++ more) (mantissa_behind Strict) (mantissa_behind Usual) (h more) (λ e rest same. rw same refl)
spelled pt Kind.Ascii p bytes more h = rw (h more) refl
spelled pt Kind.Unicode p bytes more h = rw (h more) refl
spelled pt Kind.Bytes p bytes more h = rw (h more) refl
spelled pt k p bytes more h = rw (h more) refl

cut : (i : FieldPart) (e : Entry) (bytes more : List ℕ) → CutAlike i.kind i.presence bytes
    → unit_delta_at Strict i e (bytes ++ more) ≡ unit_delta_at Usual i e (bytes ++ more)
unfolding unit_delta_at new_part_behind
cut i e bytes more h = in_two (PartAlike i.kind) i.presence (bytes ++ more) _ _ (h more) (λ removal rest same. rw same refl)

delta : (k : Kind) (i : FieldPart) (e : Entry) (bytes more : List ℕ) → k ≡ i.kind → DeltaAlike k i.presence bytes
    → delta_at Strict k i e (bytes ++ more) ≡ delta_at Usual k i e (bytes ++ more)
unfolding delta_at decimal_delta_at integer_delta_at mantissa_delta_behind
delta Kind.Decimal i e bytes more is h = in_two MantissaAlike i.presence (bytes ++ more) _ _ (h more) (λ d rest same. rw same refl)
delta Kind.Ascii i e bytes more is h = cut i e bytes more (subst (λ (k : Kind). CutAlike k i.presence bytes) is h)
delta Kind.Unicode i e bytes more is h = cut i e bytes more (subst (λ (k : Kind). CutAlike k i.presence bytes) is h)
delta Kind.Bytes i e bytes more is h = cut i e bytes more (subst (λ (k : Kind). CutAlike k i.presence bytes) is h)
delta k i e bytes more is h = rw (h more) refl

row : (o : Operator) (i : FieldPart) (e : Entry) (bytes more : List ℕ) → FieldAlike o i.kind i.presence bytes
    → row_at Strict o i e true (bytes ++ more) ≡ row_at Usual o i e true (bytes ++ more)
unfolding row_at whole_at tail_at
row Operator.Constant i e bytes more h = refl
row Operator.Delta i e bytes more h = delta i.kind i e bytes more refl h
row Operator.Tail i e bytes more h = rw (h more) refl
row o i e bytes more h = spelled i.part i.kind i.presence bytes more h

pub alike_as_usual : (i : FieldPart) (bytes : List ℕ) → FieldAlike i.operator i.kind i.presence bytes → ReadsAsUsual Strict i bytes
unfolding field_at
alike_as_usual i bytes h = λ e more. rw (row i.operator i e bytes more h) refl

-- ---- judging an entity that is not overlong changes nothing

judging : {A : Type 0} (overlong : List ℕ → Bool) (d : FieldFault) (front rest : List ℕ) (r : Result A FieldFault) → IsEntity front
    → length front ≤ 10 → overlong front ≡ false
    → (verdict overlong field_fault d (entity_at 10 (front ++ rest)) >>= λ (ok : Unit {0}). r) ≡ r
judging overlong d front rest r e few short =
    rw ((entities 10).again front front rest (record { entity = e; short = few; value = refl }), short) refl

few : (u : Bool) (p : Presence) (z : ℤ) (b : List ℕ) → SpellsIntegerUsually u p b (Value z) → length b ≤ 10
few true Mandatory (pos n) b f = f.short
few true Optional (pos n) b f = f.short
few true Mandatory (negsuc n) b f = absurd f
few true Optional (negsuc n) b f = absurd f
few false Mandatory z b f = f.short
few false Optional z b f = f.short

integer : (u : Bool) (p : Presence) (z : ℤ) (front rest : List ℕ) → SpellsIntegerUsually u p front (Value z)
    → overlong_number u front ≡ false
    → integer_at Strict u p (front ++ rest) ≡ integer_at Usual u p (front ++ rest)
unfolding integer_at
integer u p z front rest f short =
    judging (overlong_number u) FieldFault.R6 front rest (integer_usually_at u p (front ++ rest))
    (entity_in u p z front f) (few u p z front f) short

mantissa_in : (m : ℤ) (back rest : List ℕ) → IsSigned back m → overlong_signed back ≡ false
    → mantissa_entity_at Strict (back ++ rest) ≡ mantissa_entity_at Usual (back ++ rest)
mantissa_in m back rest f short =
    judging overlong_signed FieldFault.R6 back rest (in_field (signed_at (back ++ rest))) f.entity f.short short

-- ---- numbers that stand in the bytes

split : (bytes : List ℕ) (at next : ℕ) → at ≤ next → drop at bytes ≡ slice_range bytes at next ++ drop next bytes
split bytes at next le =
    let n = next - at in
    let on : at + n ≡ next = omega arith in
    sym (take-append-drop n (drop at bytes))
    ∙ ap (λ (xs : List ℕ). take n (drop at bytes) ++ xs) (drop-drop n at bytes ∙ ap (λ (k : ℕ). drop k bytes) on)

split_more : (bytes : List ℕ) (at next : ℕ) (more : List ℕ) → at ≤ next
    → drop at bytes ++ more ≡ slice_range bytes at next ++ (drop next bytes ++ more)
split_more bytes at next more le =
    ap (λ (xs : List ℕ). xs ++ more) (split bytes at next le) ∙ append_assoc (slice_range bytes at next) (drop next bytes) more

number : (u : Bool) (p : Presence) (z : ℤ) (bytes : List ℕ) (at next : ℕ) → at ≤ next
    → SpellsIntegerUsually u p (slice_range bytes at next) (Value z) → overlong_number u (slice_range bytes at next) ≡ false
    → NumberAlike u p (drop at bytes)
number u p z bytes at next le f short = λ more.
    subst (λ (b : List ℕ). integer_at Strict u p b ≡ integer_at Usual u p b) (sym (split_more bytes at next more le))
    (integer u p z (slice_range bytes at next) (drop next bytes ++ more) f short)

number_whole : (k : Kind) (p : Presence) (bytes : List ℕ) → IsTrue (is_integer k) → NumberAlike (is_unsigned k) p bytes
    → WholeAlike k p bytes
number_whole Kind.UInt32 p bytes i h = h
number_whole Kind.Int32 p bytes i h = h
number_whole Kind.UInt64 p bytes i h = h
number_whole Kind.Int64 p bytes i h = h
number_whole k p bytes i h = absurd cc

number_delta : (k : Kind) (p : Presence) (bytes : List ℕ) → IsTrue (is_integer k) → NumberAlike false p bytes → DeltaAlike k p bytes
number_delta Kind.UInt32 p bytes i h = h
number_delta Kind.Int32 p bytes i h = h
number_delta Kind.UInt64 p bytes i h = h
number_delta Kind.Int64 p bytes i h = h
number_delta k p bytes i h = absurd cc

no_tail : (k : Kind) → IsTrue (is_integer k) → IsTrue (applies Operator.Tail k) → ⊥
no_tail Kind.UInt32 i t = cc
no_tail Kind.Int32 i t = cc
no_tail Kind.UInt64 i t = cc
no_tail Kind.Int64 i t = cc
no_tail k i t = cc

number_field : (o : Operator) (k : Kind) (p : Presence) (bytes : List ℕ) → IsTrue (is_integer k) → IsTrue (applies o k)
    → NumberAlike (sent_unsigned o k) p bytes → FieldAlike o k p bytes
number_field Operator.Constant k p bytes i t h = tt
number_field Operator.Delta k p bytes i t h = number_delta k p bytes i h
number_field Operator.Tail k p bytes i t h = absurd (no_tail k i t)
number_field o k p bytes i t h = number_whole k p bytes i h

pub number_as_usual : (level : Level) (i : FieldPart) (k : Kind) (u : Bool) (z : ℤ) (bytes : List ℕ) (at next : ℕ) → k ≡ i.kind
    → IsTrue (is_integer k) → IsFieldPart i → u ≡ sent_unsigned i.operator k
    → IsBytes (drop at bytes) → at ≤ next → next ≤ length bytes → Spelt u i.presence (drop at bytes) z (drop next bytes)
    → (level ≡ Strict → overlong_number u (slice_range bytes at next) ≡ false) → ReadsAsUsual level i (drop at bytes)
number_as_usual Usual i k u z bytes at next same integer part sign fits le within spelt short = λ e more. refl
number_as_usual Strict i k u z bytes at next same integer part sign fits le within spelt short =
    let alike = number u i.presence z bytes at next le (standing u i.presence bytes at next z fits le within spelt) (short refl) in
    alike_as_usual i (drop at bytes)
    (number_field i.operator i.kind i.presence (drop at bytes) (rw same at integer) part.typed.operator_applies (rw (sign, same) at alike))

-- ---- a number and what stands behind it

two : (Second : List ℕ → Type 0) (p : Presence) (z : ℤ) (front rest : List ℕ) → SpellsIntegerUsually false p front (Value z)
    → overlong_signed front ≡ false → Second rest → TwoAt Second p (front ++ rest)
two Second p z front rest f short second =
    let read = (integer_forms Usual false p).again front (Value z) rest f in
    record { number = Value z; behind = rest; strictly = integer false p z front rest f short ∙ read; usually = read; second = second }

two_alike : (Second : List ℕ → Type 0) (p : Presence) (z : ℤ) (bytes : List ℕ) (at middle : ℕ) → at ≤ middle
    → StandsAt false p bytes at middle z → ((more : List ℕ) → Second (drop middle bytes ++ more)) → TwoAlike Second p (drop at bytes)
two_alike Second p z bytes at middle le s second = λ more.
    subst (λ (b : List ℕ). TwoAt Second p b) (sym (split_more bytes at middle more le))
    (two Second p z (slice_range bytes at middle) (drop middle bytes ++ more) s.form s.short (second more))

-- ---- decimals

mantissa_alike : (m : ℤ) (bytes : List ℕ) (at next : ℕ) → at ≤ next → StandsAt false Mandatory bytes at next m → (more : List ℕ)
    → MantissaAlike (drop at bytes ++ more)
mantissa_alike m bytes at next le s more =
    subst MantissaAlike (sym (split_more bytes at next more le))
    (mantissa_in m (slice_range bytes at next) (drop next bytes ++ more) s.form s.short)

pair_field : (o : Operator) (p : Presence) (bytes : List ℕ) → IsTrue (applies o Kind.Decimal) → PairAlike p bytes
    → FieldAlike o Kind.Decimal p bytes
pair_field Operator.Constant p bytes t h = tt
pair_field Operator.Tail p bytes t h = absurd cc
pair_field o p bytes t h = h

pub pair_as_usual : (level : Level) (i : FieldPart) (x m : ℤ) (bytes : List ℕ) (at next : ℕ) → i.kind ≡ Kind.Decimal → IsFieldPart i
    → PairStandsFrom i.presence bytes at at next x m → ReadsAsUsual level i (drop at bytes)
pair_as_usual Usual i x m bytes at next k part s = λ e more. refl
pair_as_usual Strict i x m bytes at next k part s =
    let alike = two_alike MantissaAlike i.presence x bytes at s.middle s.before s.exponent
    (mantissa_alike m bytes s.middle next s.behind s.mantissa) in
    alike_as_usual i (drop at bytes)
    (subst (λ (kind : Kind). FieldAlike i.operator kind i.presence (drop at bytes)) (sym k)
    (pair_field i.operator i.presence (drop at bytes) (rw k at part.typed.operator_applies) alike))

-- ---- strings and vectors

units_whole : (k : Kind) (p : Presence) (bytes : List ℕ) → IsUnitKind k → UnitsAlike k p bytes → WholeAlike k p bytes
units_whole Kind.Ascii p bytes is h = h
units_whole Kind.Unicode p bytes is h = h
units_whole Kind.Bytes p bytes is h = h
units_whole k p bytes is h = absurd is

cut_delta : (k : Kind) (p : Presence) (bytes : List ℕ) → IsUnitKind k → CutAlike k p bytes → DeltaAlike k p bytes
cut_delta Kind.Ascii p bytes is h = h
cut_delta Kind.Unicode p bytes is h = h
cut_delta Kind.Bytes p bytes is h = h
cut_delta k p bytes is h = absurd is

units_field : (o : Operator) (k : Kind) (p : Presence) (bytes : List ℕ) → IsUnitKind k → (o ≡ Operator.Delta → ⊥) → UnitsAlike k p bytes
    → FieldAlike o k p bytes
units_field Operator.Constant k p bytes is other h = tt
units_field Operator.Delta k p bytes is other h = absurd (other refl)
units_field Operator.Tail k p bytes is other h = h
units_field o k p bytes is other h = units_whole k p bytes is h

units_as_usual : (i : FieldPart) (bytes : List ℕ) → IsUnitKind i.kind → (i.operator ≡ Operator.Delta → ⊥)
    → UnitsAlike i.kind i.presence bytes → ReadsAsUsual Strict i bytes
units_as_usual i bytes is other h = alike_as_usual i bytes (units_field i.operator i.kind i.presence bytes is other h)

cut_as_usual : (i : FieldPart) (bytes : List ℕ) → IsUnitKind i.kind → i.operator ≡ Operator.Delta → CutAlike i.kind i.presence bytes
    → ReadsAsUsual Strict i bytes
cut_as_usual i bytes is o h =
    alike_as_usual i bytes (subst (λ (o : Operator). FieldAlike o i.kind i.presence bytes) (sym o) (cut_delta i.kind i.presence bytes is h))

pub whole_is_no_delta : (o : Operator) → SpellsWhole o → o ≡ Operator.Delta → ⊥
whole_is_no_delta o whole is = subst SpellsWhole is whole

-- ---- vectors: their length is judged

vector_units : (k : Kind) (p : Presence) (z : ℤ) (front rest : List ℕ) → IsVectorKind k → SpellsIntegerUsually true p front (Value z)
    → overlong_unsigned front ≡ false → units_at Strict k p (front ++ rest) ≡ units_at Usual k p (front ++ rest)
unfolding units_at
vector_units Kind.Unicode p z front rest is f short =
    judging overlong_unsigned FieldFault.R6 front rest (units_usually_at Kind.Unicode p (front ++ rest))
    (entity_in true p z front f) (few true p z front f) short
vector_units Kind.Bytes p z front rest is f short =
    judging overlong_unsigned FieldFault.R6 front rest (units_usually_at Kind.Bytes p (front ++ rest))
    (entity_in true p z front f) (few true p z front f) short
vector_units k p z front rest is f short = absurd is

vector_part : (k : Kind) (z : ℤ) (front rest : List ℕ) → IsVectorKind k → SpellsIntegerUsually true Mandatory front (Value z)
    → overlong_unsigned front ≡ false → PartAlike k (front ++ rest)
unfolding part_at
vector_part Kind.Unicode z front rest is f short =
    judging overlong_unsigned FieldFault.R6 front rest (part_usually_at Kind.Unicode (front ++ rest))
    (entity_in true Mandatory z front f) (few true Mandatory z front f) short
vector_part Kind.Bytes z front rest is f short =
    judging overlong_unsigned FieldFault.R6 front rest (part_usually_at Kind.Bytes (front ++ rest))
    (entity_in true Mandatory z front f) (few true Mandatory z front f) short
vector_part k z front rest is f short = absurd is

vector_is_units : (k : Kind) → IsVectorKind k → IsUnitKind k
vector_is_units Kind.Unicode is = tt
vector_is_units Kind.Bytes is = tt
vector_is_units k is = absurd is

pub vector_as_usual : (level : Level) (i : FieldPart) (z : ℤ) (bytes : List ℕ) (at start : ℕ) → IsVectorKind i.kind
    → (i.operator ≡ Operator.Delta → ⊥) → at ≤ start → StandsAt true i.presence bytes at start z → ReadsAsUsual level i (drop at bytes)
vector_as_usual Usual i z bytes at start is other le s = λ e more. refl
vector_as_usual Strict i z bytes at start is other le s =
    units_as_usual i (drop at bytes) (vector_is_units i.kind is) other (λ more.
    subst (λ (b : List ℕ). units_at Strict i.kind i.presence b ≡ units_at Usual i.kind i.presence b)
    (sym (split_more bytes at start more le))
    (vector_units i.kind i.presence z (slice_range bytes at start) (drop start bytes ++ more) is s.form s.short))

vector_cut : (i : FieldPart) (r z : ℤ) (bytes : List ℕ) (at middle start : ℕ) → IsVectorKind i.kind → i.operator ≡ Operator.Delta
    → at ≤ middle → middle ≤ start → StandsAt false i.presence bytes at middle r → StandsAt true Mandatory bytes middle start z
    → ReadsAsUsual Strict i (drop at bytes)
vector_cut i r z bytes at middle start is o le more_le s t =
    cut_as_usual i (drop at bytes) (vector_is_units i.kind is) o
    (two_alike (PartAlike i.kind) i.presence r bytes at middle le s (λ more.
    subst (PartAlike i.kind) (sym (split_more bytes middle start more more_le))
    (vector_part i.kind z (slice_range bytes middle start) (drop start bytes ++ more) is t.form t.short)))

pub vector_cut_as_usual : (level : Level) (i : FieldPart) (r z : ℤ) (bytes : List ℕ) (at first middle start : ℕ) → IsVectorKind i.kind
    → i.operator ≡ Operator.Delta → first ≤ middle → middle ≤ start → (level ≡ Strict → first ≡ at)
    → StandsFrom false i.presence bytes at first middle r → StandsAt true Mandatory bytes middle start z
    → ReadsAsUsual level i (drop at bytes)
vector_cut_as_usual Usual i r z bytes at first middle start is o le more_le same s t = λ e more. refl
vector_cut_as_usual Strict i r z bytes at first middle start is o le more_le same s t =
    vector_cut i r z bytes at middle start is o (rw (same refl) at le) more_le
    (subst (λ (n : ℕ). StandsFrom false i.presence bytes at n middle r) (same refl) s) t

-- ---- ASCII strings: the characters are

plain_units : (p : Presence) (form rest behind others : List ℕ) → IsPlain behind form others
    → units_at Strict Kind.Ascii p (form ++ rest) ≡ units_at Usual Kind.Ascii p (form ++ rest)
plain_units Mandatory form rest behind others h =
    let s = groups form in
    (units_forms Strict Kind.Ascii Mandatory).again form (Value s) rest (shortest_ascii_begins form s h.shortest, h.shortest.form)
    ∙ sym ((units_forms Usual Kind.Ascii Mandatory).again form (Value s) rest h.shortest.form)
plain_units Optional form rest behind others h =
    let s = Value (groups form) in
    (units_forms Strict Kind.Ascii Optional).again form s rest
    (shortest_ascii_nullable_begins form s h.shortest_nullable, h.shortest_nullable.form)
    ∙ sym ((units_forms Usual Kind.Ascii Optional).again form s rest h.shortest_nullable.form)

plain_part : (form rest behind others : List ℕ) → IsPlain behind form others → PartAlike Kind.Ascii (form ++ rest)
plain_part form rest behind others h =
    let s = groups form in
    (part_forms Strict Kind.Ascii).again form s rest (shortest_ascii_begins form s h.shortest, h.shortest.form)
    ∙ sym ((part_forms Usual Kind.Ascii).again form s rest h.shortest.form)

plain_as_usual : (i : FieldPart) (bytes : List ℕ) (at next : ℕ) (behind others : List ℕ) → i.kind ≡ Kind.Ascii
    → (i.operator ≡ Operator.Delta → ⊥) → at ≤ next → IsPlain behind (slice_range bytes at next) others
    → ReadsAsUsual Strict i (drop at bytes)
plain_as_usual i bytes at next behind others k other le h =
    units_as_usual i (drop at bytes) (rw k tt) other (rw k (λ more.
    subst (λ (b : List ℕ). units_at Strict Kind.Ascii i.presence b ≡ units_at Usual Kind.Ascii i.presence b)
    (sym (split_more bytes at next more le))
    (plain_units i.presence (slice_range bytes at next) (drop next bytes ++ more) behind others h)))

-- at the strict level what is read is no more than they
pub text_as_usual : (level : Level) (i : FieldPart) (bytes : List ℕ) (at first next : ℕ) (behind others : List ℕ) → i.kind ≡ Kind.Ascii
    → (i.operator ≡ Operator.Delta → ⊥) → first ≤ next → (level ≡ Strict → first ≡ at)
    → IsPlain behind (slice_range bytes first next) others → ReadsAsUsual level i (drop at bytes)
text_as_usual Usual i bytes at first next behind others k other le is h = λ e more. refl
text_as_usual Strict i bytes at first next behind others k other le is h =
    subst (λ (n : ℕ). ReadsAsUsual Strict i (drop n bytes)) (is refl) (plain_as_usual i bytes first next behind others k other le h)

pub text_cut_as_usual : (level : Level) (i : FieldPart) (r : ℤ) (bytes : List ℕ) (at middle next : ℕ) (behind others : List ℕ)
    → i.kind ≡ Kind.Ascii → i.operator ≡ Operator.Delta → at ≤ middle → middle ≤ next → StandsAt false i.presence bytes at middle r
    → IsPlain behind (slice_range bytes middle next) others → ReadsAsUsual level i (drop at bytes)
text_cut_as_usual Usual i r bytes at middle next behind others k o le more_le s h = λ e more. refl
text_cut_as_usual Strict i r bytes at middle next behind others k o le more_le s h =
    cut_as_usual i (drop at bytes) (rw k tt) o
    (rw k (two_alike (PartAlike Kind.Ascii) i.presence r bytes at middle le s (λ more.
    subst (PartAlike Kind.Ascii) (sym (split_more bytes middle next more more_le))
    (plain_part (slice_range bytes middle next) (drop next bytes ++ more) behind others h))))
