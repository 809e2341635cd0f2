-- A form at a level is one at the usual level; and a best form has no entity that is longer than it needs to be, so it is
-- one at the strict level.
use Rattle.fast_field.proofs.Common.{◌≡◌, ℕ, ◌≤◌, Bool, true, false, List, ◌++◌, length, refl, ap, arith, length-append, ℤ, pos, Option, Some, None, BeginsShort, AtLevel, overlong_signed, IsSigned, IsShortest, Level, Usual, Strict, Nullable, Null, Value, shortest_unsigned_begins, shortest_unsigned_nullable_begins, shortest_signed_begins, shortest_signed_nullable_begins, shortest_ascii_begins, shortest_ascii_nullable_begins, shortest_vector_begins, shortest_vector_nullable_begins, Kind, Operator, Presence, Mandatory, Optional, Scalar, FieldPart, Entry, is_unsigned, overlong_number, overlong_units, SpellsIntegerUsually, SpellsInteger, SpellsMantissa, SpellsPartUsually, SpellsPart, SpellsUnitsUsually, SpellsUnits, SpellsNumber, SpellsString, SpellsPair, SpellsDecimal, Spelled, Cut, SpellsCut, DeltaValue, DeltaForm, TailForm, FormOf, Form, IsBest}
use Rattle.fast_field.proofs.BestForms.{size_le}

-- ---- the shortest entities

integer_begins : (u : Bool) (p : Presence) (b : List ℕ) (z : Nullable ℤ) → IsShortest (SpellsIntegerUsually u p) b z → BeginsShort (overlong_number u) b
integer_begins true Mandatory b (Value (pos n)) h = shortest_unsigned_begins b n (record { form = h.form; least = h.least })
integer_begins true Optional b Null h = shortest_unsigned_nullable_begins b Null (record { form = h.form; least = h.least })
integer_begins true Optional b (Value (pos n)) h = shortest_unsigned_nullable_begins b (Value n) (record { form = h.form; least = h.least })
integer_begins false Mandatory b (Value z) h = shortest_signed_begins b z (record { form = h.form; least = h.least })
integer_begins false Optional b z h = shortest_signed_nullable_begins b z (record { form = h.form; least = h.least })
integer_begins u p b z h = absurd h.form

part_begins : (k : Kind) (b s : List ℕ) → IsShortest (SpellsPartUsually k) b s → BeginsShort (overlong_units k Mandatory) b
part_begins Kind.Ascii b s h = shortest_ascii_begins b s (record { form = h.form; least = h.least })
part_begins k b s h = shortest_vector_begins b s (record { form = h.form; least = h.least })

units_begin : (k : Kind) (p : Presence) (b : List ℕ) (s : Nullable (List ℕ)) → IsShortest (SpellsUnitsUsually k p) b s → BeginsShort (overlong_units k p) b
units_begin k Mandatory b Null h = absurd h.form
units_begin k Mandatory b (Value s) h = part_begins k b s (record { form = h.form; least = h.least })
units_begin Kind.Ascii Optional b s h = shortest_ascii_nullable_begins b s (record { form = h.form; least = h.least })
units_begin k Optional b s h = shortest_vector_nullable_begins b s (record { form = h.form; least = h.least })

abbrev AreNoShorter : (List ℕ → Type 0) → List ℕ → Type 0
AreNoShorter Forms b = (o : List ℕ) → Forms o → length b ≤ length o

-- so a form than which none is shorter is one at the strict level too, and each is one at the usual level
at_level : {V : Type 0} (from to : Level) (overlong : List ℕ → Bool) (Form : List ℕ → V → Type 0) (b : List ℕ) (v : V) → AtLevel from overlong Form b v → (to ≡ Strict → AreNoShorter (λ o. AtLevel from overlong Form o v) b)
    → (IsShortest Form b v → BeginsShort overlong b) → AtLevel to overlong Form b v
at_level Usual Usual overlong Form b v h least begins = h
at_level Usual Strict overlong Form b v h least begins = (begins (record { form = h; least = least refl }), h)
at_level Strict Usual overlong Form b v h least begins = h.1
at_level Strict Strict overlong Form b v h least begins = h

front_least : (b x y o : List ℕ) → b ≡ x ++ y → length b ≤ length (o ++ y) → length x ≤ length o
front_least b x y o parts le = omega (arith, ap length parts, length-append x y, length-append o y)

back_least : (b x y o : List ℕ) → b ≡ x ++ y → length b ≤ length (x ++ o) → length y ≤ length o
back_least b x y o parts le = omega (arith, ap length parts, length-append x y, length-append x o)

module _ (from to : Level) where
  integer : (u : Bool) (p : Presence) (b : List ℕ) (z : Nullable ℤ) → SpellsInteger from u p b z → (to ≡ Strict → AreNoShorter (λ o. SpellsInteger from u p o z) b) → SpellsInteger to u p b z
  integer u p b z h least = at_level from to (overlong_number u) (SpellsIntegerUsually u p) b z h least (integer_begins u p b z)

  mantissa : (b : List ℕ) (m : ℤ) → SpellsMantissa from b m → (to ≡ Strict → AreNoShorter (λ o. SpellsMantissa from o m) b) → SpellsMantissa to b m
  mantissa b m h least = at_level from to overlong_signed IsSigned b m h least (shortest_signed_begins b m)

  part : (k : Kind) (b s : List ℕ) → SpellsPart from k b s → (to ≡ Strict → AreNoShorter (λ o. SpellsPart from k o s) b) → SpellsPart to k b s
  part k b s h least = at_level from to (overlong_units k Mandatory) (SpellsPartUsually k) b s h least (part_begins k b s)

  units : (k : Kind) (p : Presence) (b : List ℕ) (s : Nullable (List ℕ)) → SpellsUnits from k p b s → (to ≡ Strict → AreNoShorter (λ o. SpellsUnits from k p o s) b) → SpellsUnits to k p b s
  units k p b s h least = at_level from to (overlong_units k p) (SpellsUnitsUsually k p) b s h least (units_begin k p b s)

  -- ---- forms than which none of the same value is shorter: each entity in them is a shortest, or a shorter one in its
  -- place would make a shorter form

  number : (k : Kind) (p : Presence) (b : List ℕ) (v : Scalar) → SpellsNumber from k p b v → (to ≡ Strict → AreNoShorter (λ o. SpellsNumber from k p o v) b) → SpellsNumber to k p b v
  number k p b v h least = record {
    number = h.number;
    form = integer (is_unsigned k) p b (Value h.number) h.form (λ s o f. least s o (record { number = h.number; form = f; range = h.range; value = h.value }));
    range = h.range;
    value = h.value;
  }

  string : (k : Kind) (p : Presence) (b : List ℕ) (v : Scalar) → SpellsString from k p b v → (to ≡ Strict → AreNoShorter (λ o. SpellsString from k p o v) b) → SpellsString to k p b v
  string k p b v h least = record {
    string = h.string;
    form = units k p b (Value h.string) h.form (λ s o f. least s o (record { string = h.string; form = f; value = h.value }));
    value = h.value;
  }

  pair : (p : Presence) (b : List ℕ) (e m : ℤ) → SpellsPair from p b e m → (to ≡ Strict → AreNoShorter (λ o. SpellsPair from p o e m) b) → SpellsPair to p b e m
  pair p b e m h least = record {
    front = h.front;
    back = h.back;
    parts = h.parts;
    exponent_form = integer false p h.front (Value e) h.exponent_form (λ s o f. front_least b h.front h.back o h.parts (least s (o ++ h.back) (record { front = o; back = h.back; parts = refl; exponent_form = f; mantissa_form = h.mantissa_form })));
    mantissa_form = mantissa h.back m h.mantissa_form (λ s o f. back_least b h.front h.back o h.parts (least s (h.front ++ o) (record { front = h.front; back = o; parts = refl; exponent_form = h.exponent_form; mantissa_form = f })));
  }

  decimal : (p : Presence) (b : List ℕ) (v : Scalar) → SpellsDecimal from p b v → (to ≡ Strict → AreNoShorter (λ o. SpellsDecimal from p o v) b) → SpellsDecimal to p b v
  decimal p b v h least = record {
    exponent = h.exponent;
    mantissa = h.mantissa;
    form = pair p b h.exponent h.mantissa h.form (λ s o f. least s o (record { exponent = h.exponent; mantissa = h.mantissa; form = f; value = h.value }));
    value = h.value;
  }

  spelled : (k : Kind) (p : Presence) (b : List ℕ) (v : Option Scalar) → Spelled from k p b v → (to ≡ Strict → AreNoShorter (λ o. Spelled from k p o v) b) → Spelled to k p b v
  spelled Kind.Decimal p b None h least = integer false p b Null h least
  spelled Kind.Decimal p b (Some v) h least = decimal p b v h least
  spelled Kind.Ascii p b None h least = units Kind.Ascii p b Null h least
  spelled Kind.Ascii p b (Some v) h least = string Kind.Ascii p b v h least
  spelled Kind.Unicode p b None h least = units Kind.Unicode p b Null h least
  spelled Kind.Unicode p b (Some v) h least = string Kind.Unicode p b v h least
  spelled Kind.Bytes p b None h least = units Kind.Bytes p b Null h least
  spelled Kind.Bytes p b (Some v) h least = string Kind.Bytes p b v h least
  spelled k p b None h least = integer (is_unsigned k) p b Null h least
  spelled k p b (Some v) h least = number k p b v h least

  cut : (k : Kind) (p : Presence) (base : Scalar) (c : Cut) (b : List ℕ) (v : Scalar) → SpellsCut from k p base c b v → (to ≡ Strict → AreNoShorter (λ o. SpellsCut from k p base c o v) b) → SpellsCut to k p base c b v
  cut k p base c b v h least = record {
    removal = h.removal;
    new_part = h.new_part;
    front = h.front;
    back = h.back;
    parts = h.parts;
    removal_form = integer false p h.front (Value h.removal) h.removal_form (λ s o f. front_least b h.front h.back o h.parts (least s (o ++ h.back) (record { removal = h.removal; new_part = h.new_part; front = o; back = h.back; parts = refl; removal_form = f; is_int32 = h.is_int32; there = h.there; part_form = h.part_form; value = h.value; cut_is = h.cut_is })));
    is_int32 = h.is_int32;
    there = h.there;
    part_form = part k h.back h.new_part h.part_form (λ s o f. back_least b h.front h.back o h.parts (least s (h.front ++ o) (record { removal = h.removal; new_part = h.new_part; front = h.front; back = o; parts = refl; removal_form = h.removal_form; is_int32 = h.is_int32; there = h.there; part_form = f; value = h.value; cut_is = h.cut_is })));
    value = h.value;
    cut_is = h.cut_is;
  }

  delta_value : (k : Kind) (p : Presence) (base : Scalar) (c : Cut) (b : List ℕ) (v : Scalar) → DeltaValue from k p base c b v → (to ≡ Strict → AreNoShorter (λ o. DeltaValue from k p base c o v) b) → DeltaValue to k p base c b v
  delta_value Kind.Decimal p base c b v h least = record {
    exponent_delta = h.exponent_delta;
    mantissa_delta = h.mantissa_delta;
    form = pair p b h.exponent_delta h.mantissa_delta h.form (λ s o f. least s o (record { exponent_delta = h.exponent_delta; mantissa_delta = h.mantissa_delta; form = f; value = h.value; cut_is = h.cut_is }));
    value = h.value;
    cut_is = h.cut_is;
  }
  delta_value Kind.Ascii p base c b v h least = cut Kind.Ascii p base c b v h least
  delta_value Kind.Unicode p base c b v h least = cut Kind.Unicode p base c b v h least
  delta_value Kind.Bytes p base c b v h least = cut Kind.Bytes p base c b v h least
  delta_value k p base c b v h least = record {
    delta = h.delta;
    form = integer false p b (Value h.delta) h.form (λ s o f. least s o (record { delta = h.delta; form = f; range = h.range; value = h.value; cut_is = h.cut_is }));
    range = h.range;
    value = h.value;
    cut_is = h.cut_is;
  }

  delta : (i : FieldPart) (e : Entry) (c : Cut) (b : List ℕ) (v : Option Scalar) → DeltaForm from i e c b v → (to ≡ Strict → AreNoShorter (λ o. DeltaForm from i e c o v) b) → DeltaForm to i e c b v
  delta i e c b None h least = (h.0, integer false i.presence b Null h.1 (λ s o f. least s o (h.0, f)))
  delta i e c b (Some v) h least = (h.0, h.1, delta_value i.kind i.presence h.0 c b v h.2 (λ s o f. least s o (h.0, h.1, f)))

  tail : (i : FieldPart) (e : Entry) (c : Cut) (b : List ℕ) (v : Option Scalar) → TailForm from i e c b v → (to ≡ Strict → AreNoShorter (λ o. TailForm from i e c o v) b) → TailForm to i e c b v
  tail i e c b None h least = (h.0, units i.kind i.presence b Null h.1 (λ s o f. least s o (h.0, f)))
  tail i e c b (Some v) h least =
      let t = h.2 in (
        h.0,
        h.1,
        record {
          tail = t.tail;
          tail_form = units i.kind i.presence b (Value t.tail) t.tail_form (λ s o f. least s o (h.0, h.1, record { tail = t.tail; tail_form = f; value = t.value; cut_is = t.cut_is }));
          value = t.value;
          cut_is = t.cut_is;
        },
      )

  row : (o : Operator) (i : FieldPart) (e : Entry) (bit : Bool) (c : Cut) (b : List ℕ) (v : Option Scalar) → FormOf from o i e bit c b v → (to ≡ Strict → AreNoShorter (λ x. FormOf from o i e bit c x v) b) → FormOf to o i e bit c b v
  row Operator.Plain i e false c b v h least = h
  row Operator.Constant i e true c b v h least = h
  row Operator.Delta i e true c b v h least = delta i e c b v h least
  row Operator.Tail i e true c b v h least = tail i e c b v h least
  row o i e false c b v h least = h
  row o i e true c b v h least = (h.0, spelled i.kind i.presence b v h.1 (λ s o f. least s o (h.0, f)))

-- ---- a best form is one

pub best_at_level : (level : Level) (i : FieldPart) (e : Entry) (bit : Bool) (b : List ℕ) (v : Option Scalar) → IsBest i e bit b v → Form level i e bit b v
best_at_level level i e bit b v h =
    let f = h.form in
    (h.cut, record { row = row Usual level i.operator i e bit h.cut b v f.row (λ s o g. size_le bit bit (length b) (length o) h.cut h.cut refl (h.first bit h.cut o (record { row = g; within = f.within }))); within = f.within })

-- and any form is one at the usual level
pub form_usually : (level : Level) (i : FieldPart) (e : Entry) (bit : Bool) (b : List ℕ) (v : Option Scalar) → Form level i e bit b v → Form Usual i e bit b v
form_usually level i e bit b v h = (h.0, record { row = row level Usual i.operator i e bit h.0 b v h.1.row (λ s. absurd cc); within = h.1.within })
