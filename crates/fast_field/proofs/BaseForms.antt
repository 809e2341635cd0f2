-- Deltas and tails are read, and nothing else is.
use Rattle.fast_field.proofs.Common.{◌≡◌, ℕ, Bool, true, false, List, [], ◌++◌, length, Result, Ok, Err, refl, sym, subst, arith, append-nil, ℤ, ◌+ℤ◌, Option, Some, None, nat_le, nat_lt, if◌then◌else◌, nat_tests, le-leb, leb-true, Level, ◌>>=◌, Nullable, Null, Value, bind_ok, reader_then, reader_as, reader_after, in_range, exponent_in_range, Kind, FieldPart, Scalar, Entry, FieldFault, integer_of, exponent_of, mantissa_of, units_of, delta_base, tail_base, SpellsMantissa, SpellsInteger, SpellsPart, SpellsUnits, Cut, uncut, at_end, side_of, removed_of, put_together, ended_by, SpellsDelta, SpellsDeltas, SpellsCut, IsOfFewUnits, DeltaValue, DeltaForm, TailForm, mantissa_entity_at, check, as_value, unless_null, integer_at, part_at, units_at, integer_value, decimal_value, unit_value, limited_value, integer_sum, integer_delta_at, mantissa_delta_behind, decimal_delta_at, new_part_behind, unit_delta_at, delta_at, ended_value, tail_at}
use Rattle.fast_wire.specs.Reader.{IsReader, Both}
use Rattle.fast_field.proofs.FieldLaws.{reader_check, reader_null, reader_value, NullOr, IsMade, whole}
use Rattle.fast_field.proofs.SpelledForms.{mantissa_entities, integer_forms, part_forms, units_forms, integer_value_ok, integer_value_is, unit_value_ok, unit_value_is, decimal_value_ok, decimal_value_is, made_forms}

-- NULL, or a value on a base, whatever the cut
abbrev OnBase : (level : Level) → (Scalar → Cut → List ℕ → Scalar → Type 0) → FieldPart → Entry → List ℕ → Option Scalar → Type 0
OnBase level Makes i e b None = SpellsInteger level false i.presence b Null
OnBase level Makes i e b (Some v) = (cut : Cut) × ((base : Scalar) × (delta_base i e ≡ Ok base) × Makes base cut b v)

-- ---- integers

number_deltas : (level : Level) → (i : FieldPart) (e : Entry) → IsReader FieldFault.NeedMore (integer_delta_at level i e) (OnBase level (SpellsDelta level i.kind i.presence) i e)
unfolding integer_delta_at integer_sum
number_deltas level i e =
    made_forms (integer_at level false i.presence) (SpellsInteger level false i.presence) (integer_sum i e) (OnBase level (SpellsDelta level i.kind i.presence) i e) (integer_forms level false i.presence) (λ b h. h) (λ b h. h)
    (λ b d v h made.
    let sum = bind_ok (delta_base i e) (λ base. integer_value i.part i.kind (integer_of base +ℤ d)) v made in
    let w = integer_value_ok i.part i.kind (integer_of sum.0 +ℤ d) v sum.2 in
    (uncut, (sum.0, sum.1, record { delta = d; form = h; range = w.0; value = sym w.1; cut_is = refl })))
    (λ b v h. let s = h.1.2 in (s.delta, s.form, rw (h.1.1, s.value) (integer_value_is i.part i.kind (integer_of h.1.0 +ℤ s.delta) s.range)))

-- ---- decimals

-- what stands behind an exponent's delta
abbrev IsMantissaDelta : (level : Level) → ℤ → ℤ → List ℕ → Option Scalar → Type 0
IsMantissaDelta level e l b v = (exponent_in_range e ≡ true) × Both (SpellsMantissa level) (λ d. IsMade (decimal_value e (l +ℤ d))) b v

mantissa_deltas : (level : Level) → (e l : ℤ) → IsReader FieldFault.NeedMore (mantissa_delta_behind level e l) (IsMantissaDelta level e l)
unfolding mantissa_delta_behind
mantissa_deltas level e l =
    reader_check (exponent_in_range e) FieldFault.R1 (λ rest. mantissa_entity_at level rest >>= λ d. as_value (decimal_value e (l +ℤ d.0)) d.1) (Both (SpellsMantissa level) (λ d. IsMade (decimal_value e (l +ℤ d))))
    (reader_then FieldFault.NeedMore (λ rest. mantissa_entity_at level rest) (λ d. as_value (decimal_value e (l +ℤ d))) (SpellsMantissa level) (λ d. IsMade (decimal_value e (l +ℤ d))) (mantissa_entities level) (λ d. reader_value (decimal_value e (l +ℤ d))))

abbrev BehindExponent : (level : Level) → FieldPart → Entry → ℤ → List ℕ → Option Scalar → Type 0
BehindExponent level i e d b v = (base : Scalar) × (delta_base i e ≡ Ok base) × IsMantissaDelta level (exponent_of base +ℤ d) (mantissa_of base) b v

decimal_to : (level : Level) → (i : FieldPart) (e : Entry) (b front back : List ℕ) (x : Nullable ℤ) (v : Option Scalar) → b ≡ front ++ back → SpellsInteger level false i.presence front x → NullOr (BehindExponent level i e) x back v → OnBase level (SpellsDeltas level i.presence) i e b v
decimal_to level i e b front back Null v parts first h = rw h.1 (subst (λ (z : List ℕ). SpellsInteger level false i.presence z Null) (whole b front back parts h.0) first)
decimal_to level i e b front back (Value d) v parts first h =
    let m = h.2.1 in
    let made = m.second.1 in
    let value = decimal_value_ok (exponent_of h.0 +ℤ d) (mantissa_of h.0 +ℤ m.x) made.0 made.1 in
    let mantissa : SpellsMantissa level back m.x = subst (λ (z : List ℕ). SpellsMantissa level z m.x) (whole back m.front m.back m.parts m.second.0) m.first in
    rw made.2 (
      uncut,
      (
        h.0,
        h.1,
        record {
          exponent_delta = d;
          mantissa_delta = m.x;
          form = record { front = front; back = back; parts = parts; exponent_form = first; mantissa_form = mantissa };
          value = (h.2.0, value.0, sym value.1);
          cut_is = refl;
        },
      ),
    )

decimal_from : (level : Level) → (i : FieldPart) (e : Entry) (b : List ℕ) (v : Option Scalar) → OnBase level (SpellsDeltas level i.presence) i e b v → Both (SpellsInteger level false i.presence) (NullOr (BehindExponent level i e)) b v
decimal_from level i e b None h = record { x = Null; front = b; back = []; parts = sym (append-nil b); first = h; second = (refl, refl) }
decimal_from level i e b (Some v) h =
    let s = h.1.2 in
    let pair = s.form in
    let made = decimal_value_is (exponent_of h.1.0 +ℤ s.exponent_delta) (mantissa_of h.1.0 +ℤ s.mantissa_delta) v s.value.1 s.value.2 in record {
      x = Value s.exponent_delta;
      front = pair.front;
      back = pair.back;
      parts = pair.parts;
      first = pair.exponent_form;
      second = (h.1.0, h.1.1, (s.value.0, record { x = s.mantissa_delta; front = pair.back; back = []; parts = sym (append-nil pair.back); first = pair.mantissa_form; second = (refl, (v, made, refl)) }));
    }

decimal_deltas : (level : Level) → (i : FieldPart) (e : Entry) → IsReader FieldFault.NeedMore (decimal_delta_at level i e) (OnBase level (SpellsDeltas level i.presence) i e)
unfolding decimal_delta_at
decimal_deltas level i e =
    reader_as FieldFault.NeedMore (decimal_delta_at level i e) (Both (SpellsInteger level false i.presence) (NullOr (BehindExponent level i e))) (OnBase level (SpellsDeltas level i.presence) i e)
    (λ b v h. decimal_to level i e b h.front h.back h.x v h.parts h.first h.second)
    (decimal_from level i e)
    (reader_then FieldFault.NeedMore (integer_at level false i.presence) (λ x rest. unless_null (x, rest) (λ d rest. delta_base i e >>= λ base. mantissa_delta_behind level (exponent_of base +ℤ d) (mantissa_of base) rest)) (SpellsInteger level false i.presence) (NullOr (BehindExponent level i e)) (integer_forms level false i.presence)
    (reader_null (λ d rest. delta_base i e >>= λ base. mantissa_delta_behind level (exponent_of base +ℤ d) (mantissa_of base) rest) (BehindExponent level i e)
    (λ d. reader_after FieldFault.NeedMore (delta_base i e) (λ base. mantissa_delta_behind level (exponent_of base +ℤ d) (mantissa_of base)) (λ base. IsMantissaDelta level (exponent_of base +ℤ d) (mantissa_of base)) (λ base. mantissa_deltas level (exponent_of base +ℤ d) (mantissa_of base)))))

-- ---- strings and vectors

if_not : {A : Type 0} (t : Bool) (r : Result A FieldFault) (y : A) (f : FieldFault) → (if t then Err f else r) ≡ Ok y → (t ≡ false) × (r ≡ Ok y)
if_not true r y f e = absurd cc
if_not false r y f e = (refl, e)

limited_ok : (k : Kind) (s : List ℕ) (v : Scalar) → limited_value k s ≡ Ok v → IsOfFewUnits k s v
unfolding limited_value
limited_ok k s v e = let w = if_not (nat_lt 65535 (length s)) (unit_value k s) v FieldFault.Limit e in let short = w.0 in (grind (arith, nat_tests), unit_value_ok k s v w.1)

limited_is : (k : Kind) (s : List ℕ) (v : Scalar) → IsOfFewUnits k s v → limited_value k s ≡ Ok v
unfolding limited_value
limited_is k s v h = let le = h.0 in let t : nat_lt 65535 (length s) ≡ false = grind (arith, nat_tests) in rw t (unit_value_is k s v h.1)

-- what stands behind a subtraction length
abbrev IsNewPart : (level : Level) → Kind → ℤ → List ℕ → List ℕ → Option Scalar → Type 0
IsNewPart level k removal base b v = (nat_le (removed_of removal) (length base) ≡ true) × Both (SpellsPart level k) (λ s. IsMade (limited_value k (put_together removal base s))) b v

new_parts : (level : Level) → (k : Kind) (removal : ℤ) (base : List ℕ) → IsReader FieldFault.NeedMore (new_part_behind level k removal base) (IsNewPart level k removal base)
unfolding new_part_behind
new_parts level k removal base =
    reader_check (nat_le (removed_of removal) (length base)) FieldFault.D7 (λ rest. part_at level k rest >>= λ s. as_value (limited_value k (put_together removal base s.0)) s.1) (Both (SpellsPart level k) (λ s. IsMade (limited_value k (put_together removal base s))))
    (reader_then FieldFault.NeedMore (part_at level k) (λ s. as_value (limited_value k (put_together removal base s))) (SpellsPart level k) (λ s. IsMade (limited_value k (put_together removal base s))) (part_forms level k) (λ s. reader_value (limited_value k (put_together removal base s))))

abbrev WithBase : (level : Level) → FieldPart → Entry → ℤ → List ℕ → Option Scalar → Type 0
WithBase level i e removal b v = (base : Scalar) × (delta_base i e ≡ Ok base) × IsNewPart level i.kind removal (units_of base) b v

abbrev BehindRemoval : (level : Level) → FieldPart → Entry → ℤ → List ℕ → Option Scalar → Type 0
BehindRemoval level i e removal b v = (in_range Kind.Int32 removal ≡ true) × WithBase level i e removal b v

behind_removal : (level : Level) → (i : FieldPart) (e : Entry) (removal : ℤ)
    → IsReader FieldFault.NeedMore (λ rest. check (in_range Kind.Int32 removal) FieldFault.D7 >>= λ fits. (delta_base i e >>= λ base. new_part_behind level i.kind removal (units_of base) rest)) (BehindRemoval level i e removal)
behind_removal level i e removal =
    reader_check (in_range Kind.Int32 removal) FieldFault.D7 (λ rest. delta_base i e >>= λ base. new_part_behind level i.kind removal (units_of base) rest) (WithBase level i e removal)
    (reader_after FieldFault.NeedMore (delta_base i e) (λ base. new_part_behind level i.kind removal (units_of base)) (λ base. IsNewPart level i.kind removal (units_of base)) (λ base. new_parts level i.kind removal (units_of base)))

cut_to : (level : Level) → (i : FieldPart) (e : Entry) (b front back : List ℕ) (x : Nullable ℤ) (v : Option Scalar) → b ≡ front ++ back → SpellsInteger level false i.presence front x → NullOr (BehindRemoval level i e) x back v → OnBase level (SpellsCut level i.kind i.presence) i e b v
cut_to level i e b front back Null v parts first h = rw h.1 (subst (λ (z : List ℕ). SpellsInteger level false i.presence z Null) (whole b front back parts h.0) first)
cut_to level i e b front back (Value removal) v parts first h =
    let base = h.1.0 in
    let m = h.1.2.1 in
    let made = m.second.1 in
    let cut : Cut = record { side = side_of removal; part = length m.x } in
    rw made.2 (
      cut,
      (
        base,
        h.1.1,
        record {
          removal = removal;
          new_part = m.x;
          front = front;
          back = back;
          parts = parts;
          removal_form = first;
          is_int32 = h.0;
          there = leb-true (removed_of removal) (length (units_of base)) h.1.2.0;
          part_form = subst (λ (z : List ℕ). SpellsPart level i.kind z m.x) (whole back m.front m.back m.parts m.second.0) m.first;
          value = limited_ok i.kind (put_together removal (units_of base) m.x) made.0 made.1;
          cut_is = refl;
        },
      ),
    )

cut_from : (level : Level) → (i : FieldPart) (e : Entry) (b : List ℕ) (v : Option Scalar) → OnBase level (SpellsCut level i.kind i.presence) i e b v → Both (SpellsInteger level false i.presence) (NullOr (BehindRemoval level i e)) b v
cut_from level i e b None h = record { x = Null; front = b; back = []; parts = sym (append-nil b); first = h; second = (refl, refl) }
cut_from level i e b (Some v) h =
    let c = h.1.2 in
    let base = units_of h.1.0 in
    let made = limited_is i.kind (put_together c.removal base c.new_part) v c.value in record {
      x = Value c.removal;
      front = c.front;
      back = c.back;
      parts = c.parts;
      first = c.removal_form;
      second = (c.is_int32, (h.1.0, h.1.1, (le-leb (removed_of c.removal) (length base) c.there, record { x = c.new_part; front = c.back; back = []; parts = sym (append-nil c.back); first = c.part_form; second = (refl, (v, made, refl)) })));
    }

unit_deltas : (level : Level) → (i : FieldPart) (e : Entry) → IsReader FieldFault.NeedMore (unit_delta_at level i e) (OnBase level (SpellsCut level i.kind i.presence) i e)
unfolding unit_delta_at
unit_deltas level i e =
    reader_as FieldFault.NeedMore (unit_delta_at level i e) (Both (SpellsInteger level false i.presence) (NullOr (BehindRemoval level i e))) (OnBase level (SpellsCut level i.kind i.presence) i e)
    (λ b v h. cut_to level i e b h.front h.back h.x v h.parts h.first h.second)
    (cut_from level i e)
    (reader_then FieldFault.NeedMore (integer_at level false i.presence) (λ x rest. unless_null (x, rest) (λ removal rest. check (in_range Kind.Int32 removal) FieldFault.D7 >>= λ fits. (delta_base i e >>= λ base. new_part_behind level i.kind removal (units_of base) rest))) (SpellsInteger level false i.presence) (NullOr (BehindRemoval level i e)) (integer_forms level false i.presence)
    (reader_null (λ removal rest. check (in_range Kind.Int32 removal) FieldFault.D7 >>= λ fits. (delta_base i e >>= λ base. new_part_behind level i.kind removal (units_of base) rest)) (BehindRemoval level i e) (behind_removal level i e)))

-- ---- all types

abbrev DeltaOf : (level : Level) → Kind → FieldPart → Entry → List ℕ → Option Scalar → Type 0
DeltaOf level k i e = OnBase level (λ base cut b v. DeltaValue level k i.presence base cut b v) i e

by_kind : (level : Level) → (k : Kind) (i : FieldPart) (e : Entry) → i.kind ≡ k → IsReader FieldFault.NeedMore (delta_at level k i e) (DeltaOf level k i e)
unfolding delta_at
by_kind level Kind.Decimal i e is = decimal_deltas level i e
by_kind level Kind.Ascii i e is = subst (λ (k : Kind). IsReader FieldFault.NeedMore (unit_delta_at level i e) (OnBase level (SpellsCut level k i.presence) i e)) is (unit_deltas level i e)
by_kind level Kind.Unicode i e is = subst (λ (k : Kind). IsReader FieldFault.NeedMore (unit_delta_at level i e) (OnBase level (SpellsCut level k i.presence) i e)) is (unit_deltas level i e)
by_kind level Kind.Bytes i e is = subst (λ (k : Kind). IsReader FieldFault.NeedMore (unit_delta_at level i e) (OnBase level (SpellsCut level k i.presence) i e)) is (unit_deltas level i e)
by_kind level k i e is = subst (λ (k : Kind). IsReader FieldFault.NeedMore (integer_delta_at level i e) (OnBase level (SpellsDelta level k i.presence) i e)) is (number_deltas level i e)

pub deltas : (level : Level) → (i : FieldPart) (e : Entry) → IsReader FieldFault.NeedMore (delta_at level i.kind i e) (λ b v. (cut : Cut) × DeltaForm level i e cut b v)
deltas level i e =
    reader_as FieldFault.NeedMore (delta_at level i.kind i e) (DeltaOf level i.kind i e) (λ b v. (cut : Cut) × DeltaForm level i e cut b v)
    (λ b v. elim v as (λ v. DeltaOf level i.kind i e b v → (cut : Cut) × DeltaForm level i e cut b v) [ None ↦ λ h. (uncut, (refl, h)) | Some w ↦ λ h. h ])
    (λ b v. elim v as (λ v. (cut : Cut) × DeltaForm level i e cut b v → DeltaOf level i.kind i e b v) [ None ↦ λ h. h.1.1 | Some w ↦ λ h. h ])
    (by_kind level i.kind i e refl)

pub tails : (level : Level) → (i : FieldPart) (e : Entry) → IsReader FieldFault.NeedMore (tail_at level i e) (λ b v. (cut : Cut) × TailForm level i e cut b v)
unfolding tail_at ended_value
tails level i e =
    made_forms (units_at level i.kind i.presence) (SpellsUnits level i.kind i.presence) (ended_value i e) (λ b v. (cut : Cut) × TailForm level i e cut b v) (units_forms level i.kind i.presence)
    (λ b h. (uncut, (refl, h)))
    (λ b h. h.1.1)
    (λ b t v h made.
    let w = bind_ok (tail_base i e) (λ base. limited_value i.kind (ended_by (units_of base) t)) v made in
    let cut : Cut = record { side = at_end; part = length t } in
    (cut, (w.0, w.1, record { tail = t; tail_form = h; value = limited_ok i.kind (ended_by (units_of w.0) t) v w.2; cut_is = refl })))
    (λ b v h. let t = h.1.2 in (t.tail, t.tail_form, rw h.1.1 (limited_is i.kind (ended_by (units_of h.1.0) t.tail) v t.value)))
