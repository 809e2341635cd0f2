-- What stands whole is read, and nothing else is.
use Rattle.fast_field.proofs.Common.{◌≡◌, ℕ, Bool, true, false, List, [], ◌++◌, Result, Ok, Err, refl, sym, subst, append-nil, ℤ, pos, negsuc, Option, Some, None, IsTrue, if◌then◌else◌, is_utf8, IsUtf8-from_is_utf8, is_utf8-from_IsUtf8, overlong_signed, Level, Usual, BeginsWithin, judged_reader, unsigned_begins, signed_begins, unsigned_nullable_begins, signed_nullable_begins, ascii_begins, ascii_nullable_begins, vector_begins, vector_nullable_begins, IsUnsigned, IsSigned, IsUnsignedNullable, IsSignedNullable, IsAscii, IsAsciiNullable, IsVector, IsVectorNullable, ◌>>=◌, unsigned_at, signed_at, unsigned_nullable_at, signed_nullable_at, ascii_at, ascii_nullable_at, vector_at, vector_nullable_at, Nullable, Null, Value, ok_is, reader_then, reader_as, reader_map, unsigned_forms, signed_forms, ascii_forms, ascii_nullable_forms, unsigned_nullable_forms, signed_nullable_forms, vector_forms, vector_nullable_forms, Kind, Presence, Mandatory, Optional, Part, Scalar, Decimal, in_range, exponent_in_range, of_integer, FieldFault, field_fault, is_unsigned, of_units, overlong_number, overlong_units, SpellsInteger, SpellsIntegerUsually, SpellsMantissa, SpellsPart, SpellsPartUsually, SpellsUnits, SpellsUnitsUsually, IsOfUnits, SpelledNumber, SpelledString, SpelledDecimal, Spelled, in_field, signless, integer_at, integer_usually_at, mantissa_entity_at, entity_limit, overlong_fault, part_at, part_usually_at, units_at, units_usually_at, range_fault, integer_value, decimal_value, unit_value, as_value, unless_null, integer_spelled_at, mantissa_behind, decimal_spelled_at, units_spelled_at, spelled_at}
use Rattle.fast_wire.specs.Reader.{IsReader, Both}
use Rattle.fast_field.proofs.FieldLaws.{reader_in_field, reader_check, reader_made, reader_null, reader_value, Made, NullOr, IsMade, whole}

-- ---- integers

mandatory_from : (b : List ℕ) (y : Nullable ℤ) → SpellsIntegerUsually true Mandatory b y → (n : ℕ) × IsUnsigned b n × (Value (pos n) ≡ y)
mandatory_from b Null h = absurd h
mandatory_from b (Value (pos n)) h = (n, h, refl)
mandatory_from b (Value (negsuc n)) h = absurd h

optional_to : (b : List ℕ) (n : Nullable ℕ) → IsUnsignedNullable b n → SpellsIntegerUsually true Optional b (signless n)
optional_to b Null h = h
optional_to b (Value n) h = h

optional_from : (b : List ℕ) (y : Nullable ℤ) → SpellsIntegerUsually true Optional b y → (n : Nullable ℕ) × IsUnsignedNullable b n × (signless n ≡ y)
optional_from b Null h = (Null, h, refl)
optional_from b (Value (pos n)) h = (Value n, h, refl)
optional_from b (Value (negsuc n)) h = absurd h

signed_from : (b : List ℕ) (y : Nullable ℤ) → SpellsIntegerUsually false Mandatory b y → (z : ℤ) × IsSigned b z × (Value z ≡ y)
signed_from b Null h = absurd h
signed_from b (Value z) h = (z, h, refl)

-- a reader of what is made of another's values
reader_by : {A B : Type 0} (f : List ℕ → Result (A × List ℕ) FieldFault) (Made : List ℕ → A → Type 0) (g : A → B) (Form : List ℕ → B → Type 0) → IsReader FieldFault.NeedMore f Made → ((b : List ℕ) (x : A) → Made b x → Form b (g x))
    → ((b : List ℕ) (y : B) → Form b y → (x : A) × Made b x × (g x ≡ y)) → IsReader FieldFault.NeedMore (λ bytes. f bytes >>= λ x. Ok (g x.0, x.1)) Form
reader_by {A} {B} f Made g Form is to from =
    reader_as FieldFault.NeedMore (λ bytes. f bytes >>= λ x. Ok (g x.0, x.1)) (λ b y. (x : A) × Made b x × (g x ≡ y)) Form (λ b y h. subst (λ (z : B). Form b z) h.2 (to b h.0 h.1)) from (reader_map FieldFault.NeedMore f g Made is)

usual_integers : (u : Bool) (p : Presence) → IsReader FieldFault.NeedMore (integer_usually_at u p) (SpellsIntegerUsually u p)
usual_integers true Mandatory = reader_by (λ bytes. in_field (unsigned_at bytes)) IsUnsigned (λ n. Value (pos n)) (SpellsIntegerUsually true Mandatory) (reader_in_field unsigned_at IsUnsigned unsigned_forms) (λ b n h. h) mandatory_from
usual_integers true Optional =
    reader_by (λ bytes. in_field (unsigned_nullable_at bytes)) IsUnsignedNullable signless (SpellsIntegerUsually true Optional) (reader_in_field unsigned_nullable_at IsUnsignedNullable unsigned_nullable_forms) optional_to optional_from
usual_integers false Mandatory = reader_by (λ bytes. in_field (signed_at bytes)) IsSigned (λ z. Value z) (SpellsIntegerUsually false Mandatory) (reader_in_field signed_at IsSigned signed_forms) (λ b z h. h) signed_from
usual_integers false Optional = reader_in_field signed_nullable_at IsSignedNullable signed_nullable_forms

-- ---- strings and vectors

usual_parts : (k : Kind) → IsReader FieldFault.NeedMore (part_usually_at k) (SpellsPartUsually k)
usual_parts Kind.Ascii = reader_in_field ascii_at IsAscii ascii_forms
usual_parts k = reader_in_field vector_at IsVector vector_forms

part_begins : (k : Kind) (b s : List ℕ) → SpellsPartUsually k b s → BeginsWithin (entity_limit k) b
part_begins Kind.Ascii b s h = ascii_begins b s h
part_begins k b s h = vector_begins b s h

pub part_forms : (level : Level) (k : Kind) → IsReader FieldFault.NeedMore (part_at level k) (SpellsPart level k)
unfolding part_at
part_forms level k = judged_reader FieldFault.NeedMore (entity_limit k) (overlong_units k Mandatory) field_fault (overlong_fault k) (part_usually_at k) (SpellsPartUsually k) refl (part_begins k) (usual_parts k) level

units_from : (k : Kind) (b : List ℕ) (y : Nullable (List ℕ)) → SpellsUnitsUsually k Mandatory b y → (s : List ℕ) × SpellsPart Usual k b s × (Value s ≡ y)
units_from k b Null h = absurd h
units_from k b (Value s) h = (s, h, refl)

usual_units : (k : Kind) (p : Presence) → IsReader FieldFault.NeedMore (units_usually_at k p) (SpellsUnitsUsually k p)
usual_units k Mandatory = reader_by (part_at Usual k) (SpellsPart Usual k) (λ s. Value s) (SpellsUnitsUsually k Mandatory) (part_forms Usual k) (λ b s h. h) (units_from k)
usual_units Kind.Ascii Optional = reader_in_field ascii_nullable_at IsAsciiNullable ascii_nullable_forms
usual_units k Optional = reader_in_field vector_nullable_at IsVectorNullable vector_nullable_forms

units_begin : (k : Kind) (p : Presence) (b : List ℕ) (s : Nullable (List ℕ)) → SpellsUnitsUsually k p b s → BeginsWithin (entity_limit k) b
units_begin k Mandatory b Null h = absurd h
units_begin k Mandatory b (Value s) h = part_begins k b s h
units_begin Kind.Ascii Optional b s h = ascii_nullable_begins b s h
units_begin k Optional b s h = vector_nullable_begins b s h

pub units_forms : (level : Level) (k : Kind) (p : Presence) → IsReader FieldFault.NeedMore (units_at level k p) (SpellsUnits level k p)
unfolding units_at
units_forms level k p = judged_reader FieldFault.NeedMore (entity_limit k) (overlong_units k p) field_fault (overlong_fault k) (units_usually_at k p) (SpellsUnitsUsually k p) refl (units_begin k p) (usual_units k p) level

integer_begins : (u : Bool) (p : Presence) (b : List ℕ) (z : Nullable ℤ) → SpellsIntegerUsually u p b z → BeginsWithin 10 b
integer_begins true Mandatory b (Value (pos n)) h = unsigned_begins b n h
integer_begins true Optional b Null h = unsigned_nullable_begins b Null h
integer_begins true Optional b (Value (pos n)) h = unsigned_nullable_begins b (Value n) h
integer_begins false Mandatory b (Value z) h = signed_begins b z h
integer_begins false Optional b z h = signed_nullable_begins b z h
integer_begins u p b z h = absurd h

pub integer_forms : (level : Level) (u : Bool) (p : Presence) → IsReader FieldFault.NeedMore (integer_at level u p) (SpellsInteger level u p)
unfolding integer_at
integer_forms level u p = judged_reader FieldFault.NeedMore 10 (overlong_number u) field_fault FieldFault.R6 (integer_usually_at u p) (SpellsIntegerUsually u p) refl (integer_begins u p) (usual_integers u p) level

pub mantissa_entities : (level : Level) → IsReader FieldFault.NeedMore (mantissa_entity_at level) (SpellsMantissa level)
mantissa_entities level = judged_reader FieldFault.NeedMore 10 overlong_signed field_fault FieldFault.R6 (λ b. in_field (signed_at b)) IsSigned refl signed_begins (reader_in_field signed_at IsSigned signed_forms) level

-- ---- values

-- a value that a test lets through
pub if_ok : {A : Type 0} (t : Bool) (x y : A) (f : FieldFault) → (if t then Ok x else Err f) ≡ Ok y → (t ≡ true) × (x ≡ y)
if_ok true x y f e = (refl, ok_is x y e)
if_ok false x y f e = absurd cc

pub if_holds : {A : Type 0} (t : Bool) (x : A) (f : FieldFault) → t ≡ true → (if t then Ok x else Err f) ≡ Ok x
if_holds true x f e = refl
if_holds false x f e = absurd cc

pub integer_value_ok : (pt : Part) (k : Kind) (z : ℤ) (v : Scalar) → integer_value pt k z ≡ Ok v → IsTrue (in_range k z) × (of_integer k z ≡ v)
unfolding integer_value
integer_value_ok pt k z v e = if_ok (in_range k z) (of_integer k z) v (range_fault pt) e

pub integer_value_is : (pt : Part) (k : Kind) (z : ℤ) → IsTrue (in_range k z) → integer_value pt k z ≡ Ok (of_integer k z)
unfolding integer_value
integer_value_is pt k z h = if_holds (in_range k z) (of_integer k z) (range_fault pt) h

pub unit_value_ok : (k : Kind) (s : List ℕ) (v : Scalar) → unit_value k s ≡ Ok v → IsOfUnits k s v
unfolding unit_value
unit_value_ok Kind.Unicode s v e = let w = if_ok (is_utf8 s) (of_units Kind.Unicode s) v FieldFault.R2 e in (IsUtf8-from_is_utf8 s w.0, sym w.1)
unit_value_ok k s v e = sym (ok_is {F = FieldFault} (of_units k s) v e)

pub unit_value_is : (k : Kind) (s : List ℕ) (v : Scalar) → IsOfUnits k s v → unit_value k s ≡ Ok v
unfolding unit_value
unit_value_is Kind.Unicode s v h = rw h.1 (if_holds (is_utf8 s) (of_units Kind.Unicode s) FieldFault.R2 (is_utf8-from_IsUtf8 s h.0))
unit_value_is k s v h = rw h refl

pub decimal_value_ok : (e m : ℤ) (v : Scalar) → decimal_value e m ≡ Ok v → IsTrue (in_range Kind.Int64 m) × (Decimal e m ≡ v)
unfolding decimal_value
decimal_value_ok e m v h = if_ok (in_range Kind.Int64 m) (Decimal e m) v FieldFault.R1 h

pub decimal_value_is : (e m : ℤ) (v : Scalar) → IsTrue (in_range Kind.Int64 m) → v ≡ Decimal e m → decimal_value e m ≡ Ok v
unfolding decimal_value
decimal_value_is e m v h is = rw is (if_holds (in_range Kind.Int64 m) (Decimal e m) FieldFault.R1 h)

-- NULL, or a value that is made of what is spelled, by what each of the two is
pub made_forms : {A : Type 0} (r : List ℕ → Result (Nullable A × List ℕ) FieldFault) (First : List ℕ → Nullable A → Type 0) (make : A → Result Scalar FieldFault) (Form : List ℕ → Option Scalar → Type 0) → IsReader FieldFault.NeedMore r First
    → ((b : List ℕ) → First b Null → Form b None) → ((b : List ℕ) → Form b None → First b Null)
    → ((b : List ℕ) (x : A) (v : Scalar) → First b (Value x) → make x ≡ Ok v → Form b (Some v))
    → ((b : List ℕ) (v : Scalar) → Form b (Some v) → (x : A) × First b (Value x) × (make x ≡ Ok v))
    → IsReader FieldFault.NeedMore (λ bytes. r bytes >>= λ x. unless_null x (λ x. as_value (make x))) Form
made_forms {A} r First make Form is null_to null_from to from =
    reader_as FieldFault.NeedMore (λ bytes. r bytes >>= λ x. unless_null x (λ x. as_value (make x))) (Made First make) Form
    (λ b y. elim y as (λ y. Made First make b y → Form b y) [ None ↦ λ h. null_to b h | Some v ↦ λ h. to b h.0 v h.1 h.2 ])
    (λ b y. elim y as (λ y. Form b y → Made First make b y) [ None ↦ λ h. null_from b h | Some v ↦ λ h. from b v h ])
    (reader_made r First make is)

numbers : (level : Level) → (pt : Part) (k : Kind) (p : Presence) → IsReader FieldFault.NeedMore (integer_spelled_at level pt k p) (SpelledNumber level k p)
unfolding integer_spelled_at
numbers level pt k p =
    made_forms (integer_at level (is_unsigned k) p) (SpellsInteger level (is_unsigned k) p) (integer_value pt k) (SpelledNumber level k p) (integer_forms level (is_unsigned k) p) (λ b h. h) (λ b h. h)
    (λ b z v h e. let w = integer_value_ok pt k z v e in record { number = z; form = h; range = w.0; value = sym w.1 })
    (λ b v h. (h.number, h.form, rw h.value (integer_value_is pt k h.number h.range)))

strings : (level : Level) → (k : Kind) (p : Presence) → IsReader FieldFault.NeedMore (units_spelled_at level k p) (SpelledString level k p)
unfolding units_spelled_at
strings level k p =
    made_forms (units_at level k p) (SpellsUnits level k p) (unit_value k) (SpelledString level k p) (units_forms level k p) (λ b h. h) (λ b h. h)
    (λ b s v h e. record { string = s; form = h; value = unit_value_ok k s v e })
    (λ b v h. (h.string, h.form, unit_value_is k h.string v h.value))

-- ---- decimals

-- a mantissa behind an exponent
abbrev IsMantissa : (level : Level) → ℤ → List ℕ → Option Scalar → Type 0
IsMantissa level e b y = (exponent_in_range e ≡ true) × Both (SpellsMantissa level) (λ m. IsMade (decimal_value e m)) b y

mantissa_forms : (level : Level) → (e : ℤ) → IsReader FieldFault.NeedMore (mantissa_behind level e) (IsMantissa level e)
unfolding mantissa_behind
mantissa_forms level e =
    reader_check (exponent_in_range e) FieldFault.R1 (λ rest. mantissa_entity_at level rest >>= λ m. as_value (decimal_value e m.0) m.1) (Both (SpellsMantissa level) (λ m. IsMade (decimal_value e m)))
    (reader_then FieldFault.NeedMore (λ rest. mantissa_entity_at level rest) (λ m. as_value (decimal_value e m)) (SpellsMantissa level) (λ m. IsMade (decimal_value e m)) (mantissa_entities level) (λ m. reader_value (decimal_value e m)))

decimal_to : (level : Level) → (p : Presence) (b front back : List ℕ) (x : Nullable ℤ) (y : Option Scalar) → b ≡ front ++ back → SpellsInteger level false p front x → NullOr (IsMantissa level) x back y → SpelledDecimal level p b y
decimal_to level p b front back Null y parts first h = rw h.1 (subst (λ (z : List ℕ). SpellsInteger level false p z Null) (whole b front back parts h.0) first)
decimal_to level p b front back (Value e) y parts first h =
    let m = h.1 in
    let made = m.second.1 in
    let value = decimal_value_ok e m.x made.0 made.1 in
    let mantissa : SpellsMantissa level back m.x = subst (λ (z : List ℕ). SpellsMantissa level z m.x) (whole back m.front m.back m.parts m.second.0) m.first in
    rw made.2 (record { exponent = e; mantissa = m.x; form = record { front = front; back = back; parts = parts; exponent_form = first; mantissa_form = mantissa }; value = (h.0, value.0, sym value.1) })

decimal_from : (level : Level) → (p : Presence) (b : List ℕ) (y : Option Scalar) → SpelledDecimal level p b y → Both (SpellsInteger level false p) (NullOr (IsMantissa level)) b y
decimal_from level p b None h = record { x = Null; front = b; back = []; parts = sym (append-nil b); first = h; second = (refl, refl) }
decimal_from level p b (Some v) h =
    let pair = h.form in
    let made = decimal_value_is h.exponent h.mantissa v h.value.1 h.value.2 in record {
      x = Value h.exponent;
      front = pair.front;
      back = pair.back;
      parts = pair.parts;
      first = pair.exponent_form;
      second = (h.value.0, record { x = h.mantissa; front = pair.back; back = []; parts = sym (append-nil pair.back); first = pair.mantissa_form; second = (refl, (v, made, refl)) });
    }

decimals : (level : Level) → (p : Presence) → IsReader FieldFault.NeedMore (decimal_spelled_at level p) (SpelledDecimal level p)
unfolding decimal_spelled_at
decimals level p =
    reader_as FieldFault.NeedMore (λ bytes. integer_at level false p bytes >>= λ e. unless_null e (mantissa_behind level)) (Both (SpellsInteger level false p) (NullOr (IsMantissa level))) (SpelledDecimal level p)
    (λ b y h. decimal_to level p b h.front h.back h.x y h.parts h.first h.second)
    (decimal_from level p)
    (reader_then FieldFault.NeedMore (integer_at level false p) (λ x rest. unless_null (x, rest) (mantissa_behind level)) (SpellsInteger level false p) (NullOr (IsMantissa level)) (integer_forms level false p) (reader_null (mantissa_behind level) (IsMantissa level) (mantissa_forms level)))

-- ---- all types

pub spelled_forms : (level : Level) → (pt : Part) (k : Kind) (p : Presence) → IsReader FieldFault.NeedMore (spelled_at level pt k p) (Spelled level k p)
unfolding spelled_at
spelled_forms level pt Kind.Decimal p = decimals level p
spelled_forms level pt Kind.Ascii p = strings level Kind.Ascii p
spelled_forms level pt Kind.Unicode p = strings level Kind.Unicode p
spelled_forms level pt Kind.Bytes p = strings level Kind.Bytes p
spelled_forms level pt k p = numbers level pt k p
