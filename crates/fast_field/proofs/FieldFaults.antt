-- Reading a field stops exactly at the first of its checks that fails.
use Rattle.std.proofs.Common.{◌≡◌, ◌<◌, ◌≤◌, ◌⊎◌, inl, inr, ℕ, ℤ, pos, ◌+ℤ◌, Bool, true, false, List, length, Option, Some, None, Result, Ok, Err, if◌then◌else◌, nat_lt, nat_le, refl, sym, ap, subst, ◌∙◌, arith}
use Rattle.std.proofs.lemmas.Bool.{cases_lt}
use Rattle.std.specs.Str.{is_utf8}
use Rattle.std.proofs.lemmas.Bool.{leb-false, leb-true, le-leb}
use Rattle.std.proofs.lemmas.Bool.Decides.{nat_tests}
use Rattle.fast_wire.specs.Entity.{IsEntity, groups}
use Rattle.fast_wire.specs.Ascii.{IsAsciiEntity, IsAsciiEntityNullable}
use Rattle.fast_wire.specs.Vector.{IsLengthNullable}
use Rattle.fast_wire.specs.Nullable.{units}
use Rattle.fast_wire.specs.Reading.{within_limit, characters, nullable_characters}
use Rattle.fast_wire.specs.Reader.{IsBytes}
use Rattle.fast_wire.proofs.AsciiForms.{characters_behind, spells, spelled, spells_nullable, spelled_nullable}
use Rattle.fast_wire.proofs.Readers.{at_first, at_second, bind_err}
use Rattle.fast_wire.proofs.FormReaders.{entities, map_err, within_ok, within_err, unsigned_forms}
use Rattle.fast_wire.proofs.NullableForms.{unsigned_nullable_forms}
use Rattle.fast_wire.proofs.UnsignedForms.{entity_some}
use Rattle.fast_wire.proofs.VectorForms.{bytes_long, bytes_ok, bytes_wait}
use Rattle.std.proofs.lemmas.List.{length-map}
use Rattle.fast_field.proofs.Common.{◌%◌, Level, ◌>>=◌, entity_at, unsigned_at, signed_at, unsigned_nullable_at, signed_nullable_at, ascii_at, ascii_nullable_at, vector_at, vector_nullable_at, behind_length, bytes_at, WireFault, Nullable, Null, Value, IsUnsigned, Kind, Part, Operator, Presence, Mandatory, Optional, FieldPart, Scalar, Entry, FieldFault, field_fault, in_field, in_range, exponent_in_range, as_value, check, signless, IsBitOf, HasDefault, integer_usually_at, part_usually_at, units_usually_at, overlong_number, overlong_units, overlong_signed, entity_limit, overlong_fault, range_fault, integer_at, part_at, units_at, mantissa_entity_at, integer_value, decimal_value, unit_value, limited_value, integer_spelled_at, mantissa_behind, decimal_spelled_at, units_spelled_at, spelled_at, integer_sum, integer_delta_at, mantissa_delta_behind, decimal_delta_at, new_part_behind, unit_delta_at, delta_at, ended_value, tail_at, whole_at, predicted_at, row_at, part_checked, field_at, IsFieldFault, is_unsigned, integer_of, exponent_of, mantissa_of, units_of, delta_base, tail_base, predicted, removed_of, put_together, ended_by, SpellsInteger, SpellsMantissa, SpellsPart, SpellsUnits, Cut, FormOf, within_part}
use Rattle.fast_field.proofs.FieldStops.{IsRefuser, refuser_then, refuser_value, refuser_check, refuser_after, refuser_made, refuser_as, no_entity, entity_refused, refuser_judged}
use Rattle.fast_field.proofs.SpelledForms.{mantissa_entities, integer_forms, part_forms, units_forms}
use Rattle.fast_field.proofs.FieldForms.{row}
use Rattle.fast_field.specs.FieldFaults.{Behind, NoEntity, IntegerStops, MantissaStops, LengthStops, UnitsStopUsually, UnitsStop, IsOutOfRange, IsNoUtf8, IsNoResult, IntegerWholeStops, UnitsWholeStop, BehindExponent, DecimalWholeStops, WholeStops, IntegerDeltaStops, DecimalDeltaStops, NewPartStops, UnitDeltaStops, DeltaStops, TailStops, RowStops, IsPastLimit, FieldStops}

-- ---- integers

-- what is made of a first reading fails as that does
first_failed : {A B : Type 0} (r : Result A WireFault) (g : A → B) (f : FieldFault) → in_field (r >>= λ x. Ok (g x)) ≡ Err f → (w : WireFault) × (r ≡ Err w) × (f ≡ field_fault w)
first_failed (Ok x) g f e = absurd cc
first_failed (Err w) g f e = let same : field_fault w ≡ f = cc in (w, refl, sym same)

integer_failed : (u : Bool) (p : Presence) (bytes : List ℕ) (f : FieldFault) → integer_usually_at u p bytes ≡ Err f → NoEntity 10 bytes f
unfolding unsigned_at signed_at unsigned_nullable_at signed_nullable_at
integer_failed true Mandatory bytes f e =
    let w = first_failed (entity_at 10 bytes) _ f (map_err (in_field (unsigned_at bytes)) (λ x. (Value (pos x.0), x.1)) f e) in
    (w.0, no_entity 10 bytes w.0 w.1, w.2)
integer_failed true Optional bytes f e =
    let w = first_failed (unsigned_at bytes) _ f (map_err (in_field (unsigned_nullable_at bytes)) (λ x. (signless x.0, x.1)) f e) in
    (w.0, no_entity 10 bytes w.0 (map_err (entity_at 10 bytes) _ w.0 w.1), w.2)
integer_failed false Mandatory bytes f e =
    let w = first_failed (entity_at 10 bytes) _ f (map_err (in_field (signed_at bytes)) (λ x. (Value x.0, x.1)) f e) in
    (w.0, no_entity 10 bytes w.0 w.1, w.2)
integer_failed false Optional bytes f e =
    let w = first_failed (signed_at bytes) _ f e in
    (w.0, no_entity 10 bytes w.0 (map_err (entity_at 10 bytes) _ w.0 w.1), w.2)

integer_fails : (u : Bool) (p : Presence) (bytes : List ℕ) (w : WireFault) → entity_at 10 bytes ≡ Err w → integer_usually_at u p bytes ≡ Err (field_fault w)
unfolding unsigned_at signed_at unsigned_nullable_at signed_nullable_at
integer_fails true Mandatory bytes w h = rw h refl
integer_fails true Optional bytes w h = rw h refl
integer_fails false Mandatory bytes w h = rw h refl
integer_fails false Optional bytes w h = rw h refl

integers : (level : Level) (u : Bool) (p : Presence) → IsRefuser (integer_at level u p) (IntegerStops level u)
unfolding integer_at
integers level u p =
    refuser_judged 10 (overlong_number u) FieldFault.R6 (integer_usually_at u p) (NoEntity 10) (integer_fails u p)
    (record { stops = λ bytes f fits e. integer_failed u p bytes f e; only = λ bytes f fits s. rw s.2 (integer_fails u p bytes s.0 (entity_refused 10 bytes s.0 s.1)) }) level

mantissa_fails : (bytes : List ℕ) (w : WireFault) → entity_at 10 bytes ≡ Err w → in_field (signed_at bytes) ≡ Err (field_fault w)
unfolding signed_at
mantissa_fails bytes w h = rw h refl

mantissa_failed : (bytes : List ℕ) (f : FieldFault) → in_field (signed_at bytes) ≡ Err f → NoEntity 10 bytes f
unfolding signed_at
mantissa_failed bytes f e = let w = first_failed (entity_at 10 bytes) _ f e in (w.0, no_entity 10 bytes w.0 w.1, w.2)

mantissas : (level : Level) → IsRefuser (mantissa_entity_at level) (MantissaStops level)
mantissas level =
    refuser_judged 10 overlong_signed FieldFault.R6 (λ b. in_field (signed_at b)) (NoEntity 10) mantissa_fails
    (record { stops = λ bytes f fits e. mantissa_failed bytes f e; only = λ bytes f fits s. rw s.2 (mantissa_fails bytes s.0 (entity_refused 10 bytes s.0 s.1)) }) level

-- ---- strings and vectors

abbrev text_of : {V : Type 0} → (V → ℕ) → (List ℕ → V) → Result (List ℕ × List ℕ) WireFault → Result (V × List ℕ) WireFault
text_of size value r = r >>= λ e. (within_limit size (value e.0) >>= λ s. Ok (s, e.1))

abbrev text_at : {V : Type 0} → (V → ℕ) → (List ℕ → V) → List ℕ → Result (V × List ℕ) FieldFault
text_at size value bytes = in_field (text_of size value (entity_at 65540 bytes))

-- an ASCII string: its entity, and then its limit
module _ {V : Type 0} (size : V → ℕ) (value : List ℕ → V) (Form : List ℕ → V → Type 0) (to : (b : List ℕ) → IsEntity b → length b ≤ 65540 → Form b (value b)) (from : (b : List ℕ) (v : V) → Form b v → IsEntity b × (length b ≤ 65540) × (value b ≡ v)) where
  text_stops : (bytes : List ℕ) (f : FieldFault) (r : Result (List ℕ × List ℕ) WireFault) → IsBytes bytes → entity_at 65540 bytes ≡ r → in_field (text_of size value r) ≡ Err f
      → NoEntity 65540 bytes f ⊎ Behind Form (λ s rest. (65535 < size s) × (f ≡ FieldFault.Limit)) bytes
  text_stops bytes f (Err w) fits h e = let same : field_fault w ≡ f = cc in inl (w, no_entity 65540 bytes w h, sym same)
  text_stops bytes f (Ok x) fits h e = elim (cases_lt 65535 (size (value x.0))) [
    | inl lt ↦
        let long = rw (within_err size (value x.0) lt) at e in
        let same : FieldFault.Limit ≡ f = cc in
        let t = (entities 65540).found bytes x.0 x.1 fits h in
        inr (record { value = value x.0; front = t.front; rest = x.1; parts = t.parts; form = subst (λ (z : List ℕ). Form t.front (value z)) t.form.value (to t.front t.form.entity t.form.short); next = (lt, sym same) })
    | inr few ↦ let short = rw (within_ok size (value x.0) few) at e in absurd cc
  ]

  text_only : (bytes : List ℕ) (f : FieldFault) → NoEntity 65540 bytes f ⊎ Behind Form (λ s rest. (65535 < size s) × (f ≡ FieldFault.Limit)) bytes → text_at size value bytes ≡ Err f
  text_only bytes f (inl s) = rw (entity_refused 65540 bytes s.0 s.1, s.2) refl
  text_only bytes f (inr b) =
      let is = from b.front b.value b.form in
      let taken = (entities 65540).again b.front b.front b.rest (record { entity = is.0; short = is.1; value = refl }) in
      let long : 65535 < size (value b.front) = rw is.2 b.next.0 in
      rw (b.parts, taken, within_err size (value b.front) long, b.next.1) refl

some_groups : (b : List ℕ) → IsEntity b → 0 < length (groups b)
some_groups b h = omega (arith, entity_some b h, length-map b (λ x. x % 128))

ascii_to : (b : List ℕ) → IsEntity b → length b ≤ 65540 → IsAsciiEntity b (characters (groups b))
ascii_to b h few = record { entity = h; short = few; value = rw (characters_behind (groups b)) (spells (groups b) (some_groups b h)) }

ascii_from : (b s : List ℕ) → IsAsciiEntity b s → IsEntity b × (length b ≤ 65540) × (characters (groups b) ≡ s)
ascii_from b s h = (h.entity, h.short, spelled (groups b) s h.value)

nullable_to : (b : List ℕ) → IsEntity b → length b ≤ 65540 → IsAsciiEntityNullable b (nullable_characters (groups b))
nullable_to b h few = record { entity = h; short = few; value = spells_nullable (groups b) (some_groups b h) }

nullable_from : (b : List ℕ) (s : Nullable (List ℕ)) → IsAsciiEntityNullable b s → IsEntity b × (length b ≤ 65540) × (nullable_characters (groups b) ≡ s)
nullable_from b s h = (h.entity, h.short, spelled_nullable (groups b) s h.value)

-- so many bytes behind a length
length_stops : (n : ℕ) (rest : List ℕ) (w : WireFault) → bytes_at n rest ≡ Err w → LengthStops n rest (field_fault w)
length_stops n rest w e = elim (cases_lt 65535 n) [
  | inl lt ↦ let is : WireFault.TooLong ≡ w = let long = bytes_long n rest lt in cc in subst (λ (v : WireFault). LengthStops n rest (field_fault v)) is (inl (lt, refl))
  | inr few ↦ elim (cases_lt (length rest) n) [
    | inl lt ↦ let is : WireFault.NeedMore ≡ w = let wait = bytes_wait n rest few lt in cc in subst (λ (v : WireFault). LengthStops n rest (field_fault v)) is (inr (few, lt, refl))
    | inr ge ↦ let ok = bytes_ok n rest few ge in absurd cc
  ]
]

length_refused : (n : ℕ) (rest : List ℕ) (f : FieldFault) → LengthStops n rest f → (w : WireFault) × (bytes_at n rest ≡ Err w) × (f ≡ field_fault w)
length_refused n rest f (inl h) = (WireFault.TooLong, bytes_long n rest h.0, h.1)
length_refused n rest f (inr h) = (WireFault.NeedMore, bytes_wait n rest h.0 h.1, h.2)

in_field_failed : {A : Type 0} (r : Result A WireFault) (f : FieldFault) → in_field r ≡ Err f → (w : WireFault) × (r ≡ Err w) × (f ≡ field_fault w)
in_field_failed (Ok x) f e = absurd cc
in_field_failed (Err w) f e = let same : field_fault w ≡ f = cc in (w, refl, sym same)

vector_stops : (bytes : List ℕ) (f : FieldFault) → IsBytes bytes → in_field (vector_at bytes) ≡ Err f → NoEntity 10 bytes f ⊎ Behind IsUnsigned (λ n rest. LengthStops n rest f) bytes
unfolding vector_at unsigned_at
vector_stops bytes f fits e =
    let w = in_field_failed (vector_at bytes) f e in
    elim (bind_err (unsigned_at bytes) (λ n. bytes_at n.0 n.1) w.0 w.1) [
      | at_first g ↦ inl (w.0, no_entity 10 bytes w.0 (map_err (entity_at 10 bytes) _ w.0 g), w.2)
      | at_second x g h ↦
          let t = unsigned_forms.found bytes x.0 x.1 fits g in
          inr (record { value = x.0; front = t.front; rest = x.1; parts = t.parts; form = t.form; next = subst (λ (y : FieldFault). LengthStops x.0 x.1 y) (sym w.2) (length_stops x.0 x.1 w.0 h) })
    ]

vector_only : (bytes : List ℕ) (f : FieldFault) → NoEntity 10 bytes f ⊎ Behind IsUnsigned (λ n rest. LengthStops n rest f) bytes → in_field (vector_at bytes) ≡ Err f
unfolding vector_at unsigned_at
vector_only bytes f (inl s) = rw (entity_refused 10 bytes s.0 s.1, s.2) refl
vector_only bytes f (inr b) =
    let w = length_refused b.value b.rest f b.next in
    let taken : unsigned_at bytes ≡ Ok (b.value, b.rest) = ap unsigned_at b.parts ∙ unsigned_forms.again b.front b.value b.rest b.form in
    ap in_field (ap (λ r. r >>= λ n. bytes_at n.0 n.1) taken ∙ w.1) ∙ ap (λ (y : FieldFault). Err y) (sym w.2)

nullable_vector_stops : (bytes : List ℕ) (f : FieldFault) → IsBytes bytes → in_field (vector_nullable_at bytes) ≡ Err f → NoEntity 10 bytes f ⊎ Behind IsLengthNullable (λ n rest. LengthStops n rest f) bytes
unfolding vector_nullable_at unsigned_nullable_at unsigned_at behind_length
nullable_vector_stops bytes f fits e =
    let w = in_field_failed (vector_nullable_at bytes) f e in
    elim (bind_err (unsigned_nullable_at bytes) (λ n. behind_length n.0 n.1) w.0 w.1) [
      | at_first g ↦ inl (w.0, no_entity 10 bytes w.0 (map_err (entity_at 10 bytes) _ w.0 (map_err (unsigned_at bytes) _ w.0 g)), w.2)
      | at_second x g h ↦ inr (behind x.0 x.1 w.0 g h w.2)
    ]
  where
    behind : (n : Nullable ℕ) (rest : List ℕ) (w : WireFault) → unsigned_nullable_at bytes ≡ Ok (n, rest) → behind_length n rest ≡ Err w → f ≡ field_fault w → Behind IsLengthNullable (λ n rest. LengthStops n rest f) bytes
    behind Null rest w g h is = absurd cc
    behind (Value n) rest w g h is =
        let t = unsigned_nullable_forms.found bytes (Value n) rest fits g in
        record { value = n; front = t.front; rest = rest; parts = t.parts; form = t.form; next = subst (λ (y : FieldFault). LengthStops n rest y) (sym is) (length_stops n rest w (map_err (bytes_at n rest) (λ s. (Value s.0, s.1)) w h)) }

nullable_vector_only : (bytes : List ℕ) (f : FieldFault) → NoEntity 10 bytes f ⊎ Behind IsLengthNullable (λ n rest. LengthStops n rest f) bytes → in_field (vector_nullable_at bytes) ≡ Err f
unfolding vector_nullable_at unsigned_nullable_at unsigned_at behind_length
nullable_vector_only bytes f (inl s) = rw (entity_refused 10 bytes s.0 s.1, s.2) refl
nullable_vector_only bytes f (inr b) =
    let w = length_refused b.value b.rest f b.next in
    let taken : unsigned_nullable_at bytes ≡ Ok (Value b.value, b.rest) = ap unsigned_nullable_at b.parts ∙ unsigned_nullable_forms.again b.front (Value b.value) b.rest b.form in
    let behind : behind_length (Value b.value) b.rest ≡ Err w.0 = rw w.1 refl in
    ap in_field (ap (λ r. r >>= λ n. behind_length n.0 n.1) taken ∙ behind) ∙ ap (λ (y : FieldFault). Err y) (sym w.2)

units_usually : (k : Kind) (p : Presence) → IsRefuser (units_usually_at k p) (UnitsStopUsually k p)
unfolding part_at ascii_at ascii_nullable_at
units_usually Kind.Ascii Mandatory = record {
  stops = λ bytes f fits e. text_stops (λ (s : List ℕ). length s) (λ b. characters (groups b)) IsAsciiEntity ascii_to ascii_from bytes f (entity_at 65540 bytes) fits refl (map_err (in_field (ascii_at bytes)) (λ x. (Value x.0, x.1)) f e);
  only = λ bytes f fits s. rw (text_only (λ (s : List ℕ). length s) (λ b. characters (groups b)) IsAsciiEntity ascii_to ascii_from bytes f s) refl;
}
units_usually Kind.Ascii Optional = record {
  stops = λ bytes f fits e. text_stops units (λ b. nullable_characters (groups b)) IsAsciiEntityNullable nullable_to nullable_from bytes f (entity_at 65540 bytes) fits refl e;
  only = λ bytes f fits s. text_only units (λ b. nullable_characters (groups b)) IsAsciiEntityNullable nullable_to nullable_from bytes f s;
}
units_usually k Mandatory = record {
  stops = λ bytes f fits e. vector_stops bytes f fits (map_err (in_field (vector_at bytes)) (λ x. (Value x.0, x.1)) f e);
  only = λ bytes f fits s. rw (vector_only bytes f s) refl;
}
units_usually k Optional = record { stops = λ bytes f fits e. nullable_vector_stops bytes f fits e; only = λ bytes f fits s. nullable_vector_only bytes f s }

units_fail : (k : Kind) (p : Presence) (bytes : List ℕ) (w : WireFault) → entity_at (entity_limit k) bytes ≡ Err w → units_usually_at k p bytes ≡ Err (field_fault w)
unfolding part_at ascii_at ascii_nullable_at vector_at vector_nullable_at unsigned_nullable_at unsigned_at
units_fail Kind.Ascii Mandatory bytes w h = rw h refl
units_fail Kind.Ascii Optional bytes w h = rw h refl
units_fail k Mandatory bytes w h = rw h refl
units_fail k Optional bytes w h = rw h refl

all_units : (level : Level) (k : Kind) (p : Presence) → IsRefuser (units_at level k p) (UnitsStop level k p)
unfolding units_at
all_units level k p = refuser_judged (entity_limit k) (overlong_units k p) (overlong_fault k) (units_usually_at k p) (UnitsStopUsually k p) (units_fail k p) (units_usually k p) level

-- the form that is not nullable, as a new part has it
parts_usually : (k : Kind) → IsRefuser (part_usually_at k) (UnitsStopUsually k Mandatory)
unfolding ascii_at
parts_usually Kind.Ascii = record {
  stops = λ bytes f fits e. text_stops (λ (s : List ℕ). length s) (λ b. characters (groups b)) IsAsciiEntity ascii_to ascii_from bytes f (entity_at 65540 bytes) fits refl e;
  only = λ bytes f fits s. text_only (λ (s : List ℕ). length s) (λ b. characters (groups b)) IsAsciiEntity ascii_to ascii_from bytes f s;
}
parts_usually k = record { stops = λ bytes f fits e. vector_stops bytes f fits e; only = λ bytes f fits s. vector_only bytes f s }

part_fails : (k : Kind) (bytes : List ℕ) (w : WireFault) → entity_at (entity_limit k) bytes ≡ Err w → part_usually_at k bytes ≡ Err (field_fault w)
unfolding ascii_at vector_at unsigned_at
part_fails Kind.Ascii bytes w h = rw h refl
part_fails k bytes w h = rw h refl

all_parts : (level : Level) (k : Kind) → IsRefuser (part_at level k) (UnitsStop level k Mandatory)
unfolding part_at
all_parts level k = refuser_judged (entity_limit k) (overlong_units k Mandatory) (overlong_fault k) (part_usually_at k) (UnitsStopUsually k Mandatory) (part_fails k) (parts_usually k) level

-- ---- values

-- a test that lets a value through, or the fault
test_stops : {A : Type 0} (t : Bool) (x : A) (d f : FieldFault) → (if t then Ok x else Err d) ≡ Err f → (t ≡ false) × (f ≡ d)
test_stops true x d f e = absurd cc
test_stops false x d f e = let same : d ≡ f = cc in (refl, sym same)

test_only : {A : Type 0} (t : Bool) (x : A) (d f : FieldFault) → (t ≡ false) × (f ≡ d) → (if t then Ok x else Err d) ≡ Err f
test_only t x d f h = rw (h.0, h.1) refl

range_stops : (pt : Part) (k : Kind) (z : ℤ) (f : FieldFault) → integer_value pt k z ≡ Err f → IsOutOfRange pt k z f
unfolding integer_value
range_stops pt k z f e = test_stops (in_range k z) _ (range_fault pt) f e

range_only : (pt : Part) (k : Kind) (z : ℤ) (f : FieldFault) → IsOutOfRange pt k z f → integer_value pt k z ≡ Err f
unfolding integer_value
range_only pt k z f h = test_only (in_range k z) _ (range_fault pt) f h

pair_stops : (e m : ℤ) (f : FieldFault) → decimal_value e m ≡ Err f → (in_range Kind.Int64 m ≡ false) × (f ≡ FieldFault.R1)
unfolding decimal_value
pair_stops e m f h = test_stops (in_range Kind.Int64 m) _ FieldFault.R1 f h

pair_only : (e m : ℤ) (f : FieldFault) → (in_range Kind.Int64 m ≡ false) × (f ≡ FieldFault.R1) → decimal_value e m ≡ Err f
unfolding decimal_value
pair_only e m f h = test_only (in_range Kind.Int64 m) _ FieldFault.R1 f h

utf8_stops : (k : Kind) (s : List ℕ) (f : FieldFault) → unit_value k s ≡ Err f → IsNoUtf8 k s f
unfolding unit_value
utf8_stops Kind.Unicode s f e = test_stops (is_utf8 s) _ FieldFault.R2 f e
utf8_stops k s f e = absurd cc

utf8_only : (k : Kind) (s : List ℕ) (f : FieldFault) → IsNoUtf8 k s f → unit_value k s ≡ Err f
unfolding unit_value
utf8_only Kind.Unicode s f h = test_only (is_utf8 s) _ FieldFault.R2 f h
utf8_only k s f h = absurd h

result_stops : (k : Kind) (s : List ℕ) (f : FieldFault) → limited_value k s ≡ Err f → IsNoResult k s f
unfolding limited_value
result_stops k s f e = elim (cases_lt 65535 (length s)) [
  | inl lt ↦
      let t : nat_lt 65535 (length s) ≡ true = grind (arith, nat_tests) in
      let long = rw t at e in
      let same : FieldFault.Limit ≡ f = cc in
      inl (lt, sym same)
  | inr few ↦ let t : nat_lt 65535 (length s) ≡ false = grind (arith, nat_tests) in inr (few, utf8_stops k s f (rw t at e))
]

result_only : (k : Kind) (s : List ℕ) (f : FieldFault) → IsNoResult k s f → limited_value k s ≡ Err f
unfolding limited_value
result_only k s f (inl h) = let lt = h.0 in let t : nat_lt 65535 (length s) ≡ true = grind (arith, nat_tests) in rw (t, h.1) refl
result_only k s f (inr h) = let few = h.0 in let t : nat_lt 65535 (length s) ≡ false = grind (arith, nat_tests) in rw t (utf8_only k s f h.1)

-- what is made of a value, by when it is not
made : (m : Result Scalar FieldFault) (Stops : FieldFault → Type 0) → ((f : FieldFault) → m ≡ Err f → Stops f) → ((f : FieldFault) → Stops f → m ≡ Err f) → IsRefuser (as_value m) (λ rest f. Stops f)
made m Stops to from = refuser_as (as_value m) (λ rest f. m ≡ Err f) (λ rest f. Stops f) (λ rest f. to f) (λ rest f. from f) (refuser_made m)

-- and where it is made of a base
based : (b : Result Scalar FieldFault) (make : Scalar → Result Scalar FieldFault) (Stops : Scalar → FieldFault → Type 0) → ((x : Scalar) (f : FieldFault) → make x ≡ Err f → Stops x f) → ((x : Scalar) (f : FieldFault) → Stops x f → make x ≡ Err f)
    → (f : FieldFault) → (b >>= make) ≡ Err f → (b ≡ Err f) ⊎ ((x : Scalar) × (b ≡ Ok x) × Stops x f)
based b make Stops to from f e = elim (bind_err b make f e) [ at_first g ↦ inl g | at_second x g h ↦ inr (x, g, to x f h) ]

unbased : (b : Result Scalar FieldFault) (make : Scalar → Result Scalar FieldFault) (Stops : Scalar → FieldFault → Type 0) → ((x : Scalar) (f : FieldFault) → make x ≡ Err f → Stops x f) → ((x : Scalar) (f : FieldFault) → Stops x f → make x ≡ Err f)
    → (f : FieldFault) → (b ≡ Err f) ⊎ ((x : Scalar) × (b ≡ Ok x) × Stops x f) → (b >>= make) ≡ Err f
unbased b make Stops to from f (inl h) = rw h refl
unbased b make Stops to from f (inr h) = rw h.1 (from h.0 f h.2)

-- ---- what stands whole

whole_integers : (level : Level) (pt : Part) (k : Kind) (p : Presence) → IsRefuser (integer_spelled_at level pt k p) (IntegerWholeStops level pt k p)
unfolding integer_spelled_at
whole_integers level pt k p =
    refuser_value (integer_at level (is_unsigned k) p) (λ z. as_value (integer_value pt k z)) (SpellsInteger level (is_unsigned k) p) (IntegerStops level (is_unsigned k)) (λ z rest f. IsOutOfRange pt k z f)
    (integer_forms level (is_unsigned k) p) (integers level (is_unsigned k) p) (λ z. made (integer_value pt k z) (IsOutOfRange pt k z) (range_stops pt k z) (range_only pt k z))

whole_units : (level : Level) (k : Kind) (p : Presence) → IsRefuser (units_spelled_at level k p) (UnitsWholeStop level k p)
unfolding units_spelled_at
whole_units level k p =
    refuser_value (units_at level k p) (λ s. as_value (unit_value k s)) (SpellsUnits level k p) (UnitsStop level k p) (λ s rest f. IsNoUtf8 k s f)
    (units_forms level k p) (all_units level k p) (λ s. made (unit_value k s) (IsNoUtf8 k s) (utf8_stops k s) (utf8_only k s))

mantissas_behind : (level : Level) (e : ℤ) (by : ℤ → ℤ) → IsRefuser (λ rest. check (exponent_in_range e) FieldFault.R1 >>= λ ok. (mantissa_entity_at level rest >>= λ m. as_value (decimal_value e (by m.0)) m.1)) (BehindExponent level e by)
mantissas_behind level e by =
    refuser_check (exponent_in_range e) FieldFault.R1 (λ rest. mantissa_entity_at level rest >>= λ m. as_value (decimal_value e (by m.0)) m.1) (λ rest f. MantissaStops level rest f ⊎ Behind (SpellsMantissa level) (λ m back. (in_range Kind.Int64 (by m) ≡ false) × (f ≡ FieldFault.R1)) rest)
    (refuser_then (mantissa_entity_at level) (λ m. as_value (decimal_value e (by m))) (SpellsMantissa level) (MantissaStops level) (λ m back f. (in_range Kind.Int64 (by m) ≡ false) × (f ≡ FieldFault.R1))
    (mantissa_entities level) (mantissas level) (λ m. made (decimal_value e (by m)) (λ f. (in_range Kind.Int64 (by m) ≡ false) × (f ≡ FieldFault.R1)) (pair_stops e (by m)) (pair_only e (by m))))

whole_decimals : (level : Level) (p : Presence) → IsRefuser (decimal_spelled_at level p) (DecimalWholeStops level p)
unfolding decimal_spelled_at mantissa_behind
whole_decimals level p =
    refuser_value (integer_at level false p) (mantissa_behind level) (SpellsInteger level false p) (IntegerStops level false) (λ e rest f. BehindExponent level e (λ m. m) rest f)
    (integer_forms level false p) (integers level false p) (λ e. mantissas_behind level e (λ m. m))

wholes : (level : Level) (pt : Part) (k : Kind) (p : Presence) → IsRefuser (spelled_at level pt k p) (WholeStops level pt k p)
unfolding spelled_at
wholes level pt Kind.Decimal p = whole_decimals level p
wholes level pt Kind.Ascii p = whole_units level Kind.Ascii p
wholes level pt Kind.Unicode p = whole_units level Kind.Unicode p
wholes level pt Kind.Bytes p = whole_units level Kind.Bytes p
wholes level pt k p = whole_integers level pt k p

-- ---- deltas and tails

integer_deltas : (level : Level) (i : FieldPart) (e : Entry) → IsRefuser (integer_delta_at level i e) (IntegerDeltaStops level i e)
unfolding integer_delta_at integer_sum
integer_deltas level i e =
    refuser_value (integer_at level false i.presence) (λ d. as_value (integer_sum i e d)) (SpellsInteger level false i.presence) (IntegerStops level false)
    (λ d rest f. (delta_base i e ≡ Err f) ⊎ ((base : Scalar) × (delta_base i e ≡ Ok base) × IsOutOfRange i.part i.kind (integer_of base +ℤ d) f))
    (integer_forms level false i.presence) (integers level false i.presence)
    (λ d.
    let by : Scalar → Result Scalar FieldFault = λ base. integer_value i.part i.kind (integer_of base +ℤ d) in
    let Stops : Scalar → FieldFault → Type 0 = λ base f. IsOutOfRange i.part i.kind (integer_of base +ℤ d) f in
    let to : (x : Scalar) (f : FieldFault) → by x ≡ Err f → Stops x f = λ x f. range_stops i.part i.kind (integer_of x +ℤ d) f in
    let from : (x : Scalar) (f : FieldFault) → Stops x f → by x ≡ Err f = λ x f. range_only i.part i.kind (integer_of x +ℤ d) f in
    made (integer_sum i e d) (λ f. (delta_base i e ≡ Err f) ⊎ ((base : Scalar) × (delta_base i e ≡ Ok base) × Stops base f)) (based (delta_base i e) by Stops to from) (unbased (delta_base i e) by Stops to from))

decimal_deltas : (level : Level) (i : FieldPart) (e : Entry) → IsRefuser (decimal_delta_at level i e) (DecimalDeltaStops level i e)
unfolding decimal_delta_at mantissa_delta_behind
decimal_deltas level i e =
    refuser_value (integer_at level false i.presence) (λ d rest. delta_base i e >>= λ base. mantissa_delta_behind level (exponent_of base +ℤ d) (mantissa_of base) rest) (SpellsInteger level false i.presence) (IntegerStops level false)
    (λ d rest f. (delta_base i e ≡ Err f) ⊎ ((base : Scalar) × (delta_base i e ≡ Ok base) × BehindExponent level (exponent_of base +ℤ d) (λ m. mantissa_of base +ℤ m) rest f))
    (integer_forms level false i.presence) (integers level false i.presence)
    (λ d. refuser_after (delta_base i e) (λ base. mantissa_delta_behind level (exponent_of base +ℤ d) (mantissa_of base)) (λ base rest f. BehindExponent level (exponent_of base +ℤ d) (λ m. mantissa_of base +ℤ m) rest f)
    (λ base. mantissas_behind level (exponent_of base +ℤ d) (λ m. mantissa_of base +ℤ m)))

new_parts : (level : Level) (k : Kind) (removal : ℤ) (base : List ℕ) → IsRefuser (new_part_behind level k removal base) (NewPartStops level k removal base)
unfolding new_part_behind
new_parts level k removal base =
    refuser_as (new_part_behind level k removal base)
    (λ rest f. ((nat_le (removed_of removal) (length base) ≡ false) × (f ≡ FieldFault.D7)) ⊎ ((nat_le (removed_of removal) (length base) ≡ true) × (UnitsStop level k Mandatory rest f ⊎ Behind (SpellsPart level k) (λ s back. IsNoResult k (put_together removal base s) f) rest)))
    (NewPartStops level k removal base)
    (λ rest f s. elim s [ inl h ↦ inl (leb-false (removed_of removal) (length base) h.0, h.1) | inr h ↦ inr (leb-true (removed_of removal) (length base) h.0, h.1) ])
    (λ rest f s. elim s [ inl h ↦ (let lt = h.0 in let t : nat_le (removed_of removal) (length base) ≡ false = grind (arith, nat_tests) in inl (t, h.1)) | inr h ↦ inr (le-leb (removed_of removal) (length base) h.0, h.1) ])
    (refuser_check (nat_le (removed_of removal) (length base)) FieldFault.D7 (λ rest. part_at level k rest >>= λ s. as_value (limited_value k (put_together removal base s.0)) s.1) (λ rest f. UnitsStop level k Mandatory rest f ⊎ Behind (SpellsPart level k) (λ s back. IsNoResult k (put_together removal base s) f) rest)
    (refuser_then (part_at level k) (λ s. as_value (limited_value k (put_together removal base s))) (SpellsPart level k) (UnitsStop level k Mandatory) (λ s back f. IsNoResult k (put_together removal base s) f)
    (part_forms level k) (all_parts level k) (λ s. made (limited_value k (put_together removal base s)) (IsNoResult k (put_together removal base s)) (result_stops k (put_together removal base s)) (result_only k (put_together removal base s)))))

unit_deltas : (level : Level) (i : FieldPart) (e : Entry) → IsRefuser (unit_delta_at level i e) (UnitDeltaStops level i e)
unfolding unit_delta_at
unit_deltas level i e =
    refuser_value (integer_at level false i.presence) (λ removal rest. check (in_range Kind.Int32 removal) FieldFault.D7 >>= λ fits. (delta_base i e >>= λ base. new_part_behind level i.kind removal (units_of base) rest)) (SpellsInteger level false i.presence) (IntegerStops level false)
    (λ removal rest f. ((in_range Kind.Int32 removal ≡ false) × (f ≡ FieldFault.D7)) ⊎ ((in_range Kind.Int32 removal ≡ true) × ((delta_base i e ≡ Err f) ⊎ ((base : Scalar) × (delta_base i e ≡ Ok base) × NewPartStops level i.kind removal (units_of base) rest f))))
    (integer_forms level false i.presence) (integers level false i.presence)
    (λ removal. refuser_check (in_range Kind.Int32 removal) FieldFault.D7 (λ rest. delta_base i e >>= λ base. new_part_behind level i.kind removal (units_of base) rest)
    (λ rest f. (delta_base i e ≡ Err f) ⊎ ((base : Scalar) × (delta_base i e ≡ Ok base) × NewPartStops level i.kind removal (units_of base) rest f))
    (refuser_after (delta_base i e) (λ base. new_part_behind level i.kind removal (units_of base)) (λ base rest f. NewPartStops level i.kind removal (units_of base) rest f) (λ base. new_parts level i.kind removal (units_of base))))

deltas : (level : Level) (k : Kind) (i : FieldPart) (e : Entry) → IsRefuser (delta_at level k i e) (DeltaStops level k i e)
unfolding delta_at
deltas level Kind.Decimal i e = decimal_deltas level i e
deltas level Kind.Ascii i e = unit_deltas level i e
deltas level Kind.Unicode i e = unit_deltas level i e
deltas level Kind.Bytes i e = unit_deltas level i e
deltas level k i e = integer_deltas level i e

tails : (level : Level) (i : FieldPart) (e : Entry) → IsRefuser (tail_at level i e) (TailStops level i e)
unfolding tail_at ended_value
tails level i e =
    refuser_value (units_at level i.kind i.presence) (λ tail. as_value (ended_value i e tail)) (SpellsUnits level i.kind i.presence) (UnitsStop level i.kind i.presence)
    (λ tail rest f. (tail_base i e ≡ Err f) ⊎ ((base : Scalar) × (tail_base i e ≡ Ok base) × IsNoResult i.kind (ended_by (units_of base) tail) f))
    (units_forms level i.kind i.presence) (all_units level i.kind i.presence)
    (λ tail.
    let by : Scalar → Result Scalar FieldFault = λ base. limited_value i.kind (ended_by (units_of base) tail) in
    let Stops : Scalar → FieldFault → Type 0 = λ base f. IsNoResult i.kind (ended_by (units_of base) tail) f in
    let to : (x : Scalar) (f : FieldFault) → by x ≡ Err f → Stops x f = λ x f. result_stops i.kind (ended_by (units_of x) tail) f in
    let from : (x : Scalar) (f : FieldFault) → Stops x f → by x ≡ Err f = λ x f. result_only i.kind (ended_by (units_of x) tail) f in
    made (ended_value i e tail) (λ f. (tail_base i e ≡ Err f) ⊎ ((base : Scalar) × (tail_base i e ≡ Ok base) × Stops base f)) (based (tail_base i e) by Stops to from) (unbased (tail_base i e) by Stops to from))

-- ---- the operators, by bit

-- a value that takes no bytes
abbrev given_at : Result (Option Scalar) FieldFault → List ℕ → Result (Option Scalar × List ℕ) FieldFault
given_at r bytes = r >>= λ v. Ok (v, bytes)

given_failed : (r : Result (Option Scalar) FieldFault) (bytes : List ℕ) (f : FieldFault) → given_at r bytes ≡ Err f → r ≡ Err f
given_failed (Ok v) bytes f h = absurd cc
given_failed (Err d) bytes f h = let same : d ≡ f = cc in ap (λ (y : FieldFault). Err y) same

never_stops : (v : Option Scalar) → IsRefuser (λ bytes. Ok (v, bytes)) (λ bytes f. ⊥)
never_stops v = record { stops = λ bytes f fits e. absurd cc; only = λ bytes f fits s. absurd s }

predictions : (i : FieldPart) (e : Entry) → IsRefuser (predicted_at i e) (λ bytes f. predicted i e ≡ Err f)
unfolding predicted_at
predictions i e = record { stops = λ bytes f fits h. given_failed (predicted i e) bytes f h; only = λ bytes f fits s. rw s refl }

whole_rows : (level : Level) (i : FieldPart) → IsRefuser (whole_at level i) (WholeStops level i.part i.kind i.presence)
unfolding whole_at
whole_rows level i = wholes level i.part i.kind i.presence

rows : (level : Level) (o : Operator) (i : FieldPart) (e : Entry) (bit : Bool) → IsRefuser (row_at level o i e bit) (RowStops level o i e bit)
unfolding row_at
rows level Operator.Plain i e bit = whole_rows level i
rows level Operator.Constant i e false = never_stops None
rows level Operator.Constant i e true = never_stops i.initial
rows level Operator.Default i e false = never_stops i.initial
rows level Operator.Default i e true = whole_rows level i
rows level Operator.Copy i e false = predictions i e
rows level Operator.Copy i e true = whole_rows level i
rows level Operator.Increment i e false = predictions i e
rows level Operator.Increment i e true = whole_rows level i
rows level Operator.Delta i e bit = deltas level i.kind i e
rows level Operator.Tail i e false = predictions i e
rows level Operator.Tail i e true = tails level i e

limit_stops : (pt : Part) (v : Option Scalar) (f : FieldFault) → part_checked pt v ≡ Err f → IsPastLimit pt v f
unfolding part_checked
limit_stops pt None f e = absurd cc
limit_stops Part.Exponent (Some v) f e = test_stops (within_part Part.Exponent v) _ FieldFault.R1 f e
limit_stops Part.Length (Some v) f e = test_stops (within_part Part.Length v) _ FieldFault.Limit f e
limit_stops pt (Some v) f e = absurd cc

limit_only : (pt : Part) (v : Option Scalar) (f : FieldFault) → IsPastLimit pt v f → part_checked pt v ≡ Err f
unfolding part_checked
limit_only pt None f h = absurd h
limit_only Part.Exponent (Some v) f h = test_only (within_part Part.Exponent v) _ FieldFault.R1 f h
limit_only Part.Length (Some v) f h = test_only (within_part Part.Length v) _ FieldFault.Limit f h
limit_only pt (Some v) f h = absurd h

limits : (pt : Part) (v : Option Scalar) → IsRefuser (given_at (part_checked pt v)) (λ rest f. IsPastLimit pt v f)
limits pt v = record { stops = λ rest f fits e. limit_stops pt v f (given_failed (part_checked pt v) rest f e); only = λ rest f fits s. rw (limit_only pt v f s) refl }

pub fields : (level : Level) (i : FieldPart) (e : Entry) (bit : Bool) → IsBitOf i bit → HasDefault i → IsRefuser (field_at level i e bit) (FieldStops level i e bit)
unfolding field_at
fields level i e bit is has =
    refuser_then (row_at level i.operator i e bit) (λ v rest. given_at (part_checked i.part v) rest) (λ b v. (cut : Cut) × FormOf level i.operator i e bit cut b v) (RowStops level i.operator i e bit) (λ v rest f. IsPastLimit i.part v f)
    (row level i.operator i e bit is has) (rows level i.operator i e bit) (limits i.part)

pub fault_stops : (level : Level) (i : FieldPart) (e : Entry) (bit : Bool) → IsBitOf i bit → HasDefault i → (bytes : List ℕ) (f : FieldFault) → IsBytes bytes → IsFieldFault level i e bit bytes f → FieldStops level i e bit bytes f
fault_stops level i e bit is has bytes f = (fields level i e bit is has).stops bytes f

pub stops_fault : (level : Level) (i : FieldPart) (e : Entry) (bit : Bool) → IsBitOf i bit → HasDefault i → (bytes : List ℕ) (f : FieldFault) → IsBytes bytes → FieldStops level i e bit bytes f → IsFieldFault level i e bit bytes f
stops_fault level i e bit is has bytes f = (fields level i e bit is has).only bytes f
