-- How the functions that read fields behave, by one walk over them: what is read is read whatever follows, the strict
-- level answers as the usual one or a fault of its own, no fault is want of memory, what waits for more bytes has few,
-- and where the first bytes show that no entity is overlong both levels answer the same.
use Rattle.fast_field.proofs.Common.{◌≡◌, ◌≢◌, ℕ, zero, suc, ◌+◌, ◌%◌, ◌≤◌, ◌<◌, Bool, true, false, nat_eq, nat_le, List, [], ◌∷◌, ◌++◌, length, Result, Ok, Err, refl, sym, ap, subst, ◌∙◌, ◌⊎◌, arith, inl, inr, length-drop, ℤ, ◌+ℤ◌, pos, Option, Some, None, nat_lt, if◌then◌else◌, cases_lt, le-leb, nat_tests, groups, unsigned_of, signed_of, judged, verdict, overlong_unsigned, overlong_signed, overlong_ascii, received_unsigned, received_signed, units, GoesOn, ◌>>=◌, entity_at, unsigned_at, signed_at, unsigned_nullable_at, signed_nullable_at, characters, nullable_characters, ascii_at, ascii_nullable_at, bytes_at, vector_at, behind_length, vector_nullable_at, WireFault, Level, Usual, Strict, Nullable, Null, Value, entity_goes, goes_then, goes_ok, goes_map, unsigned_goes, signed_goes, unsigned_nullable_goes, signed_nullable_goes, ascii_goes, ascii_nullable_goes, vector_goes, vector_nullable_goes, done, ok_is, bytes_long, bytes_wait, bytes_ok, in_range, exponent_in_range, is_integer, Kind, Operator, Part, Presence, Mandatory, Optional, FieldPart, Scalar, Entry, FieldFault, ReadsAsUsual, JudgesOne, BeginsPlain, BeginsPair, is_decimal, field_fault, overlong_number, overlong_units, is_unsigned, exponent_of, mantissa_of, units_of, delta_base, predicted, removed_of, put_together, in_field, check, signless, as_value, unless_null, integer_at, integer_usually_at, mantissa_entity_at, entity_limit, part_at, part_usually_at, units_at, units_usually_at, integer_value, decimal_value, unit_value, limited_value, integer_spelled_at, mantissa_behind, decimal_spelled_at, units_spelled_at, spelled_at, integer_sum, integer_delta_at, mantissa_delta_behind, decimal_delta_at, new_part_behind, unit_delta_at, delta_at, ended_value, tail_at, whole_at, predicted_at, row_at, part_checked, field_at, IsFieldFault}
use Rattle.fast_field.proofs.ValueFaults.{NoWant, tested, integer_made, decimal_made, unit_made, few_made, base_of_delta, foretold, summed, ended, part_allowed}

-- ---- levels

-- a fault that only the strict level has
abbrev pub IsOfLevel : FieldFault → Type 0
IsOfLevel FieldFault.R6 = Unit {0}
IsOfLevel FieldFault.R9 = Unit {0}
IsOfLevel f = ⊥

abbrev pub Agrees : {A : Type 0} → Result A FieldFault → Result A FieldFault → Type 0
Agrees (Ok x) usual = usual ≡ Ok x
Agrees (Err f) usual = IsOfLevel f ⊎ (usual ≡ Err f)

same : {A : Type 0} (r : Result A FieldFault) → Agrees r r
same (Ok x) = refl
same (Err f) = inr refl

both : {A B : Type 0} (r s : Result A FieldFault) (k l : A → Result B FieldFault) → Agrees r s → ((x : A) → Agrees (k x) (l x)) → Agrees (r >>= k) (s >>= l)
both (Ok x) s k l h later = rw h (later x)
both (Err f) s k l (inl h) later = inl h
both (Err f) s k l (inr h) later = inr (rw h refl)

-- ---- bytes

-- no want of memory, and fewer than so many bytes where more are wanted
abbrev IsShort : ℕ → List ℕ → FieldFault → Type 0
IsShort most bytes FieldFault.NeedMore = length bytes < most
IsShort most bytes FieldFault.Memory = ⊥
IsShort most bytes f = Unit {0}

-- what is read takes at most so many
abbrev Bounded : {A F : Type 0} → (F → FieldFault) → ℕ → List ℕ → Result (A × List ℕ) F → Type 0
Bounded of_fault most bytes (Ok x) = length bytes ≤ most + length x.1
Bounded of_fault most bytes (Err f) = IsShort most bytes (of_fault f)

short_on : (first later most : ℕ) (bytes rest : List ℕ) (f : FieldFault) → length bytes ≤ first + length rest → first + later ≤ most → IsShort later rest f → IsShort most bytes f
short_on first later most bytes rest FieldFault.NeedMore took le h = omega arith
short_on first later most bytes rest f took le h = h

bounded_on : {A F : Type 0} (of_fault : F → FieldFault) (first later most : ℕ) (bytes rest : List ℕ) (r : Result (A × List ℕ) F) → length bytes ≤ first + length rest → first + later ≤ most → Bounded of_fault later rest r → Bounded of_fault most bytes r
bounded_on of_fault first later most bytes rest (Ok x) took le h = omega arith
bounded_on of_fault first later most bytes rest (Err f) took le h = short_on first later most bytes rest (of_fault f) took le h

bounded_then : {A B F : Type 0} (of_fault : F → FieldFault) (first later most : ℕ) (bytes : List ℕ) (r : Result (A × List ℕ) F) (k : A × List ℕ → Result (B × List ℕ) F) → first + later ≤ most → Bounded of_fault first bytes r
    → ((x : A × List ℕ) → Bounded of_fault later x.1 (k x)) → Bounded of_fault most bytes (r >>= k)
bounded_then of_fault first later most bytes (Ok x) k le h on = bounded_on of_fault first later most bytes x.1 (k x) h le (on x)
bounded_then of_fault first later most bytes (Err f) k le h on = short_on 0 first most bytes bytes (of_fault f) (omega arith) (omega arith) h

bounded_map : {A B F : Type 0} (of_fault : F → FieldFault) (most : ℕ) (bytes : List ℕ) (r : Result (A × List ℕ) F) (g : A → B) → Bounded of_fault most bytes r → Bounded of_fault most bytes (r >>= λ x. Ok (g x.0, x.1))
bounded_map of_fault most bytes (Ok x) g h = h
bounded_map of_fault most bytes (Err f) g h = h

-- ---- forms of bytes

-- a byte that ends the entity, or is followed by what is left of it
byte_bounded : (limit b : ℕ) (bs : List ℕ) (t : Bool) (r : Result (List ℕ × List ℕ) WireFault) → Bounded field_fault limit bs r → Bounded field_fault (suc limit) (b ∷ bs) (if t then Ok (b ∷ [], bs) else (r >>= λ e. Ok (b ∷ e.0, e.1)))
byte_bounded limit b bs true r h = omega arith
byte_bounded limit b bs false r h = bounded_on field_fault 1 limit (suc limit) (b ∷ bs) bs (r >>= λ e. Ok (b ∷ e.0, e.1)) (omega arith) (omega arith) (bounded_map field_fault limit bs r (λ (e : List ℕ). b ∷ e) h)

entity_bounded : (limit : ℕ) (bytes : List ℕ) → Bounded field_fault limit bytes (entity_at limit bytes)
unfolding entity_at
entity_bounded zero bytes = tt
entity_bounded (suc limit) [] = omega arith
entity_bounded (suc limit) (b ∷ bs) = byte_bounded limit b bs (nat_le 128 b) (entity_at limit bs) (entity_bounded limit bs)

unsigned_bounded : (bytes : List ℕ) → Bounded field_fault 10 bytes (unsigned_at bytes)
unfolding unsigned_at
unsigned_bounded bytes = bounded_map field_fault 10 bytes (entity_at 10 bytes) unsigned_of (entity_bounded 10 bytes)

signed_bounded : (bytes : List ℕ) → Bounded field_fault 10 bytes (signed_at bytes)
unfolding signed_at
signed_bounded bytes = bounded_map field_fault 10 bytes (entity_at 10 bytes) signed_of (entity_bounded 10 bytes)

unsigned_nullable_bounded : (bytes : List ℕ) → Bounded field_fault 10 bytes (unsigned_nullable_at bytes)
unfolding unsigned_nullable_at
unsigned_nullable_bounded bytes = bounded_map field_fault 10 bytes (unsigned_at bytes) received_unsigned (unsigned_bounded bytes)

signed_nullable_bounded : (bytes : List ℕ) → Bounded field_fault 10 bytes (signed_nullable_at bytes)
unfolding signed_nullable_at
signed_nullable_bounded bytes = bounded_map field_fault 10 bytes (signed_at bytes) received_signed (signed_bounded bytes)

limited : {V : Type 0} (t : Bool) (s : V) (rest : List ℕ) → Bounded field_fault 0 rest ((if t then Err WireFault.TooLong else Ok s) >>= λ s. Ok (s, rest))
limited true s rest = tt
limited false s rest = omega arith

ascii_bounded : (bytes : List ℕ) → Bounded field_fault 65545 bytes (ascii_at bytes)
unfolding ascii_at
ascii_bounded bytes = bounded_then field_fault 65540 0 65545 bytes (entity_at 65540 bytes) _ (omega arith) (entity_bounded 65540 bytes) (λ e. limited (nat_lt 65535 (length (characters (groups e.0)))) (characters (groups e.0)) e.1)

ascii_nullable_bounded : (bytes : List ℕ) → Bounded field_fault 65545 bytes (ascii_nullable_at bytes)
unfolding ascii_nullable_at
ascii_nullable_bounded bytes = bounded_then field_fault 65540 0 65545 bytes (entity_at 65540 bytes) _ (omega arith) (entity_bounded 65540 bytes) (λ e. limited (nat_lt 65535 (units (nullable_characters (groups e.0)))) (nullable_characters (groups e.0)) e.1)

-- the bytes of a length that is within the limit
bytes_bounded : (n : ℕ) (bytes : List ℕ) → Bounded field_fault 65535 bytes (bytes_at n bytes)
bytes_bounded n bytes = elim (cases_lt 65535 n) [
  | inl long ↦ rw (bytes_long n bytes long) tt
  | inr few ↦ elim (cases_lt (length bytes) n) [
    | inl short ↦ rw (bytes_wait n bytes few short) (omega (arith, short, few))
    | inr there ↦ rw (bytes_ok n bytes few there) (omega (arith, few, there, length-drop n bytes))
  ]
]

vector_bounded : (bytes : List ℕ) → Bounded field_fault 65545 bytes (vector_at bytes)
unfolding vector_at
vector_bounded bytes = bounded_then field_fault 10 65535 65545 bytes (unsigned_at bytes) _ (omega arith) (unsigned_bounded bytes) (λ n. bytes_bounded n.0 n.1)

behind_bounded : (n : Nullable ℕ) (rest : List ℕ) → Bounded field_fault 65535 rest (behind_length n rest)
unfolding behind_length
behind_bounded Null rest = omega arith
behind_bounded (Value n) rest = bounded_map field_fault 65535 rest (bytes_at n rest) (λ s. Value s) (bytes_bounded n rest)

vector_nullable_bounded : (bytes : List ℕ) → Bounded field_fault 65545 bytes (vector_nullable_at bytes)
unfolding vector_nullable_at
vector_nullable_bounded bytes = bounded_then field_fault 10 65535 65545 bytes (unsigned_nullable_at bytes) _ (omega arith) (unsigned_nullable_bounded bytes) (λ n. behind_bounded n.0 n.1)

-- ---- forms of fields at the usual level

-- what a reading does whose entities are not judged
record Usually {A : Type 0} (most : ℕ) (f : List ℕ → Result (A × List ℕ) FieldFault) : Type 0 where
  goes : GoesOn f
  bounded : (bytes : List ℕ) → Bounded (λ f. f) most bytes (f bytes)

in_field_bounded : {A : Type 0} (most : ℕ) (bytes : List ℕ) (r : Result (A × List ℕ) WireFault) → Bounded field_fault most bytes r → Bounded (λ f. f) most bytes (in_field r)
in_field_bounded most bytes (Ok x) h = h
in_field_bounded most bytes (Err f) h = h

in_field_goes : {A : Type 0} (f : List ℕ → Result (A × List ℕ) WireFault) → GoesOn f → GoesOn (λ bytes. in_field (f bytes))
in_field_goes {A} f goes bytes y rest more e = of_first (f bytes) refl e
  where
    of_first : (r : Result (A × List ℕ) WireFault) → f bytes ≡ r → in_field r ≡ Ok (y, rest) → in_field (f (bytes ++ more)) ≡ Ok (y, rest ++ more)
    of_first (Err w) h e = absurd cc
    of_first (Ok x) h e =
        let both = ok_is {F = FieldFault} x (y, rest) e in
        rw (goes bytes x.0 x.1 more h) (ap (λ (p : A × List ℕ). done {F = FieldFault} (p.0, p.1 ++ more)) both)

usual_form : {A : Type 0} (most : ℕ) (f : List ℕ → Result (A × List ℕ) WireFault) → GoesOn f → ((bytes : List ℕ) → Bounded field_fault most bytes (f bytes)) → Usually most (λ bytes. in_field (f bytes))
usual_form most f goes bounded = record { goes = in_field_goes f goes; bounded = λ bytes. in_field_bounded most bytes (f bytes) (bounded bytes) }

usual_map : {A B : Type 0} {most : ℕ} (f : List ℕ → Result (A × List ℕ) FieldFault) (g : A → B) → Usually most f → Usually most (λ bytes. f bytes >>= λ x. Ok (g x.0, x.1))
usual_map {most = most} f g h = record { goes = goes_map f g h.goes; bounded = λ bytes. bounded_map (λ f. f) most bytes (f bytes) g (h.bounded bytes) }

usual_signed : Usually 10 (λ bytes. in_field (signed_at bytes))
usual_signed = usual_form 10 signed_at signed_goes signed_bounded

usual_integer : (u : Bool) (p : Presence) → Usually 10 (integer_usually_at u p)
usual_integer true Mandatory = usual_map (λ bytes. in_field (unsigned_at bytes)) (λ n. Value (pos n)) (usual_form 10 unsigned_at unsigned_goes unsigned_bounded)
usual_integer true Optional = usual_map (λ bytes. in_field (unsigned_nullable_at bytes)) signless (usual_form 10 unsigned_nullable_at unsigned_nullable_goes unsigned_nullable_bounded)
usual_integer false Mandatory = usual_map (λ bytes. in_field (signed_at bytes)) (λ z. Value z) usual_signed
usual_integer false Optional = usual_form 10 signed_nullable_at signed_nullable_goes signed_nullable_bounded

usual_part : (k : Kind) → Usually 65545 (part_usually_at k)
usual_part Kind.Ascii = usual_form 65545 ascii_at ascii_goes ascii_bounded
usual_part k = usual_form 65545 vector_at vector_goes vector_bounded

usual_units : (k : Kind) (p : Presence) → Usually 65545 (units_usually_at k p)
unfolding part_at
usual_units k Mandatory = usual_map (part_usually_at k) (λ s. Value s) (usual_part k)
usual_units Kind.Ascii Optional = usual_form 65545 ascii_nullable_at ascii_nullable_goes ascii_nullable_bounded
usual_units k Optional = usual_form 65545 vector_nullable_at vector_nullable_goes vector_nullable_bounded

-- ---- the entity that a form begins with is the one that is judged

pub integer_starts : (u : Bool) (p : Presence) (bytes : List ℕ) (w : WireFault) → entity_at 10 bytes ≡ Err w → integer_usually_at u p bytes ≡ Err (field_fault w)
unfolding unsigned_at signed_at unsigned_nullable_at signed_nullable_at
integer_starts true Mandatory bytes w h = rw h refl
integer_starts false Mandatory bytes w h = rw h refl
integer_starts u p bytes w h = rw h refl

pub mantissa_starts : (bytes : List ℕ) (w : WireFault) → entity_at 10 bytes ≡ Err w → in_field (signed_at bytes) ≡ Err (field_fault w)
unfolding signed_at
mantissa_starts bytes w h = rw h refl

part_starts : (k : Kind) (bytes : List ℕ) (w : WireFault) → entity_at (entity_limit k) bytes ≡ Err w → part_usually_at k bytes ≡ Err (field_fault w)
unfolding ascii_at vector_at unsigned_at
part_starts Kind.Ascii bytes w h = rw h refl
part_starts k bytes w h = rw h refl

units_start : (k : Kind) (p : Presence) (bytes : List ℕ) (w : WireFault) → entity_at (entity_limit k) bytes ≡ Err w → units_usually_at k p bytes ≡ Err (field_fault w)
unfolding part_at ascii_nullable_at vector_nullable_at unsigned_nullable_at unsigned_at
units_start k Mandatory bytes w h = rw (part_starts k bytes w h) refl
units_start Kind.Ascii Optional bytes w h = rw h refl
units_start k Optional bytes w h = rw h refl

-- ---- entities that a first byte shows not to be overlong

-- no entity that begins with this byte is overlong
abbrev NeverLong : (List ℕ → Bool) → ℕ → Type 0
NeverLong overlong b = (overlong (b ∷ []) ≡ false) × (nat_le 128 b ≡ false → (bs : List ℕ) → overlong (b ∷ bs) ≡ false)

other_group : (b g : ℕ) → nat_le 128 b ≡ false → b ≢ g → nat_eq (b % 128) g ≡ false
other_group b g below other = grind (arith, nat_tests)

unsigned_behind : (b : ℕ) (bs : List ℕ) → nat_le 128 b ≡ false → b ≢ 0 → overlong_unsigned (b ∷ bs) ≡ false
unsigned_behind b [] below some = refl
unsigned_behind b (c ∷ bs) below some = other_group b 0 below some

signed_behind : (b : ℕ) (bs : List ℕ) → nat_le 128 b ≡ false → b ≢ 0 → b ≢ 127 → overlong_signed (b ∷ bs) ≡ false
signed_behind b [] below some few = refl
signed_behind b (c ∷ bs) below some few = rw (other_group b 0 below some) (rw (other_group b 127 below few) refl)

ascii_behind : (b : ℕ) (bs : List ℕ) (p : Bool) → nat_le 128 b ≡ false → b ≢ 0 → overlong_ascii (b ∷ bs) p ≡ false
ascii_behind b [] false below some = refl
ascii_behind b [] true below some = refl
ascii_behind b (c ∷ bs) false below some = rw (other_group b 0 below some) refl
ascii_behind b (c ∷ []) true below some = rw (other_group b 0 below some) refl
ascii_behind b (c ∷ d ∷ bs) true below some = rw (other_group b 0 below some) refl

number_short : (u : Bool) (b : ℕ) → b ≢ 0 → b ≢ 127 → NeverLong (overlong_number u) b
number_short true b some few = (refl, λ below bs. unsigned_behind b bs below some)
number_short false b some few = (refl, λ below bs. signed_behind b bs below some few)

units_short : (k : Kind) (p : Presence) (b : ℕ) → b ≢ 0 → NeverLong (overlong_units k p) b
units_short Kind.Ascii Mandatory b some = (refl, λ below bs. ascii_behind b bs false below some)
units_short Kind.Ascii Optional b some = (refl, λ below bs. ascii_behind b bs true below some)
units_short k p b some = (refl, λ below bs. unsigned_behind b bs below some)

abbrev begun : Bool → ℕ → List ℕ → Result (List ℕ × List ℕ) WireFault → Result (List ℕ × List ℕ) WireFault
begun ends b bs later = if ends then Ok (b ∷ [], bs) else (later >>= λ e. Ok (b ∷ e.0, e.1))

by_byte : {A : Type 0} (overlong : List ℕ → Bool) (d : FieldFault) (ends : Bool) (b : ℕ) (bs : List ℕ) (later : Result (List ℕ × List ℕ) WireFault) (r : Result A FieldFault)
    → overlong (b ∷ []) ≡ false → (ends ≡ false → (cs : List ℕ) → overlong (b ∷ cs) ≡ false)
    → ((w : WireFault) → begun ends b bs later ≡ Err w → r ≡ Err (field_fault w)) → (verdict overlong field_fault d (begun ends b bs later) >>= λ (ok : Unit {0}). r) ≡ r
by_byte overlong d true b bs later r one more starts = rw one refl
by_byte overlong d false b bs (Ok e) r one more starts = rw (more refl e.0) refl
by_byte overlong d false b bs (Err w) r one more starts = sym (starts w refl)

-- so judging changes nothing
judging : {A : Type 0} (limit : ℕ) (overlong : List ℕ → Bool) (d : FieldFault) (b : ℕ) (bs : List ℕ) (r : Result A FieldFault) → NeverLong overlong b
    → ((w : WireFault) → entity_at (suc limit) (b ∷ bs) ≡ Err w → r ≡ Err (field_fault w)) → (verdict overlong field_fault d (entity_at (suc limit) (b ∷ bs)) >>= λ (ok : Unit {0}). r) ≡ r
unfolding entity_at
judging limit overlong d b bs r short starts = by_byte overlong d (nat_le 128 b) b bs (entity_at limit bs) r short.0 short.1 starts

-- ---- how readings behave

-- What a reading does at each level. It judges one entity where One holds, and two at most.
record Behaves {A : Type 0} (One : Type 0) (most : ℕ) (f : Level → List ℕ → Result (A × List ℕ) FieldFault) : Type 0 where
  goes : (level : Level) → GoesOn (f level)
  agrees : (bytes : List ℕ) → Agrees (f Strict bytes) (f Usual bytes)
  bounded : (bytes : List ℕ) → Bounded (λ f. f) most bytes (f Usual bytes)
  one : One → (b : ℕ) (bs : List ℕ) → b ≢ 0 → b ≢ 127 → f Strict (b ∷ bs) ≡ f Usual (b ∷ bs)
  two : (b c : ℕ) (cs : List ℕ) → 128 ≤ b → c ≢ 0 → c ≢ 127 → f Strict (b ∷ c ∷ cs) ≡ f Usual (b ∷ c ∷ cs)

-- in fewer cases, with more bytes
weaker : {A One Other : Type 0} {least : ℕ} (most : ℕ) (f : Level → List ℕ → Result (A × List ℕ) FieldFault) → (Other → One) → least ≤ most → Behaves One least f → Behaves Other most f
weaker {least = least} most f to le h = record {
  goes = h.goes;
  agrees = h.agrees;
  bounded = λ bytes. bounded_on (λ f. f) 0 least most bytes bytes (f Usual bytes) (omega arith) (omega arith) (h.bounded bytes);
  one = λ o. h.one (to o);
  two = h.two;
}

-- ---- a form whose first entity is judged

judged_goes : {A : Type 0} (level : Level) (limit : ℕ) (overlong : List ℕ → Bool) (d : FieldFault) (read : List ℕ → Result (A × List ℕ) FieldFault) → GoesOn read → GoesOn (judged level limit overlong field_fault d read)
judged_goes Usual limit overlong d read on = on
judged_goes {A} Strict limit overlong d read on = λ bytes y rest more e. of_entity bytes y rest more (entity_at limit bytes) refl e
  where
    of_entity : (bytes : List ℕ) (y : A) (rest more : List ℕ) (r : Result (List ℕ × List ℕ) WireFault) → entity_at limit bytes ≡ r → (verdict overlong field_fault d r >>= λ (ok : Unit {0}). read bytes) ≡ Ok (y, rest)
        → judged Strict limit overlong field_fault d read (bytes ++ more) ≡ Ok (y, rest ++ more)
    of_entity bytes y rest more (Err w) h e = absurd cc
    of_entity bytes y rest more (Ok x) h e = rw (entity_goes limit bytes x.0 x.1 more h) (of_verdict (overlong x.0) e)
      where
        of_verdict : (t : Bool) → ((if t then Err d else Ok (tt {0})) >>= λ (ok : Unit {0}). read bytes) ≡ Ok (y, rest) → ((if t then Err d else Ok (tt {0})) >>= λ (ok : Unit {0}). read (bytes ++ more)) ≡ Ok (y, rest ++ more)
        of_verdict true e = absurd cc
        of_verdict false e = on bytes y rest more e

by_verdict : {A : Type 0} (t : Bool) (d : FieldFault) (r : Result A FieldFault) → IsOfLevel d → Agrees ((if t then Err d else Ok (tt {0})) >>= λ (ok : Unit {0}). r) r
by_verdict true d r h = inl h
by_verdict false d r h = same r

by_entity : {A : Type 0} (overlong : List ℕ → Bool) (d : FieldFault) (e : Result (List ℕ × List ℕ) WireFault) (r : Result A FieldFault) → IsOfLevel d → ((w : WireFault) → e ≡ Err w → r ≡ Err (field_fault w))
    → Agrees (verdict overlong field_fault d e >>= λ (ok : Unit {0}). r) r
by_entity overlong d (Ok x) r h starts = by_verdict (overlong x.0) d r h
by_entity overlong d (Err w) r h starts = inr (starts w refl)

of_judged : {A : Type 0} {most : ℕ} (limit : ℕ) (overlong : List ℕ → Bool) (d : FieldFault) (read : List ℕ → Result (A × List ℕ) FieldFault) → IsOfLevel d → Usually most read
    → ((bytes : List ℕ) (w : WireFault) → entity_at (suc limit) bytes ≡ Err w → read bytes ≡ Err (field_fault w)) → ((b : ℕ) → b ≢ 0 → b ≢ 127 → NeverLong overlong b)
    → Behaves (Unit {0}) most (λ level bytes. judged level (suc limit) overlong field_fault d read bytes)
of_judged limit overlong d read level usual starts short = record {
  goes = λ level. judged_goes level (suc limit) overlong d read usual.goes;
  agrees = λ bytes. by_entity overlong d (entity_at (suc limit) bytes) (read bytes) level (starts bytes);
  bounded = usual.bounded;
  one = λ o b bs m n. judging limit overlong d b bs (read (b ∷ bs)) (short b m n) (starts (b ∷ bs));
  two = λ b c cs h m n. judging limit overlong d b (c ∷ cs) (read (b ∷ c ∷ cs)) (short b (λ is. absurd (omega (arith, h, is))) (λ is. absurd (omega (arith, h, is)))) (starts (b ∷ c ∷ cs));
}

integer : (u : Bool) (p : Presence) → Behaves (Unit {0}) 10 (λ level bytes. integer_at level u p bytes)
unfolding integer_at
integer u p = of_judged 9 (overlong_number u) FieldFault.R6 (integer_usually_at u p) tt (usual_integer u p) (integer_starts u p) (number_short u)

mantissa_entity : Behaves (Unit {0}) 10 mantissa_entity_at
mantissa_entity = of_judged 9 overlong_signed FieldFault.R6 (λ b. in_field (signed_at b)) tt usual_signed mantissa_starts (number_short false)

part : (k : Kind) → Behaves (Unit {0}) 65545 (λ level bytes. part_at level k bytes)
unfolding part_at
part Kind.Ascii = of_judged 65539 (overlong_units Kind.Ascii Mandatory) FieldFault.R9 (part_usually_at Kind.Ascii) tt (usual_part Kind.Ascii) (part_starts Kind.Ascii) (λ b m n. units_short Kind.Ascii Mandatory b m)
part k = of_judged 9 (overlong_units k Mandatory) FieldFault.R6 (part_usually_at k) tt (usual_part k) (part_starts k) (λ b m n. units_short k Mandatory b m)

units_behave : (k : Kind) (p : Presence) → Behaves (Unit {0}) 65545 (λ level bytes. units_at level k p bytes)
unfolding units_at
units_behave Kind.Ascii p = of_judged 65539 (overlong_units Kind.Ascii p) FieldFault.R9 (units_usually_at Kind.Ascii p) tt (usual_units Kind.Ascii p) (units_start Kind.Ascii p) (λ b m n. units_short Kind.Ascii p b m)
units_behave k p = of_judged 9 (overlong_units k p) FieldFault.R6 (units_usually_at k p) tt (usual_units k p) (units_start k p) (λ b m n. units_short k p b m)

-- ---- what takes no bytes

free_made : {A B : Type 0} (g : A → B) (m : Result A FieldFault) → NoWant m → Usually 0 (λ rest. m >>= λ x. Ok (g x, rest))
free_made g (Ok x) h = record { goes = goes_ok g x; bounded = λ rest. omega arith }
free_made g (Err d) h = record { goes = λ bytes y rest more e. absurd cc; bounded = λ rest. refused d rest h }
  where
    refused : (d : FieldFault) (rest : List ℕ) → NoWant {A = Unit {0}} (Err d) → IsShort 0 rest d
    refused FieldFault.NeedMore rest h = absurd h
    refused d rest h = h

free_value : (m : Result Scalar FieldFault) → NoWant m → Usually 0 (as_value m)
free_value = free_made (λ v. Some v)

free_null : {A : Type 0} (make : A → Result Scalar FieldFault) → ((a : A) → NoWant (make a)) → (x : Nullable A) → Usually 0 (λ rest. unless_null (x, rest) (λ a. as_value (make a)))
free_null make h Null = free_made (λ v. v) (Ok None) tt
free_null make h (Value a) = free_value (make a) (h a)

-- no entity is judged
free : {A One : Type 0} {most : ℕ} (f : List ℕ → Result (A × List ℕ) FieldFault) → Usually 0 f → Behaves One most (λ level bytes. f bytes)
free {most = most} f h = record {
  goes = λ level. h.goes;
  agrees = λ bytes. same (f bytes);
  bounded = λ bytes. bounded_on (λ f. f) 0 0 most bytes bytes (f bytes) (omega arith) (omega arith) (h.bounded bytes);
  one = λ o b bs m n. refl;
  two = λ b c cs h m n. refl;
}

-- ---- one step and then another

-- a value that is made of what was read
then_free : {A B One : Type 0} {most : ℕ} (f : Level → List ℕ → Result (A × List ℕ) FieldFault) (k : A × List ℕ → Result (B × List ℕ) FieldFault) → Behaves One most f → ((x : A) → Usually 0 (λ rest. k (x, rest)))
    → Behaves One most (λ level bytes. f level bytes >>= k)
then_free {most = most} f k h on = record {
  goes = λ level. goes_then (f level) (λ x rest. k (x, rest)) (h.goes level) (λ x. (on x).goes);
  agrees = λ bytes. both (f Strict bytes) (f Usual bytes) k k (h.agrees bytes) (λ x. same (k x));
  bounded = λ bytes. bounded_then (λ f. f) most 0 most bytes (f Usual bytes) k (omega arith) (h.bounded bytes) (λ x. (on x.0).bounded x.1);
  one = λ o b bs m n. rw (h.one o b bs m n) refl;
  two = λ b c cs h' m n. rw (h.two b c cs h' m n) refl;
}

-- a step that looks at no bytes, before the rest
after : {A B One : Type 0} {most : ℕ} (m : Result A FieldFault) (k : A → Level → List ℕ → Result (B × List ℕ) FieldFault) → NoWant m → ((x : A) → Behaves One most (k x)) → Behaves One most (λ level bytes. m >>= λ x. k x level bytes)
after (Ok x) k h on = on x
after {B = B} (Err d) k h on = free (λ bytes. Err d) (free_made {B = B} (λ x. x) (Err d) h)

null : {A One : Type 0} {most : ℕ} (k : Level → A → List ℕ → Result (Option Scalar × List ℕ) FieldFault) → ((a : A) → Behaves One most (λ level. k level a)) → (x : Nullable A) → Behaves One most (λ level rest. unless_null (x, rest) (k level))
null k on Null = free (λ rest. Ok (None, rest)) (free_made (λ v. v) (Ok None) tt)
null k on (Value a) = on a

-- one byte that ends a number with a sign
first_is : (p : Presence) (b : ℕ) (bs : List ℕ) → nat_le 128 b ≡ true → (z : Nullable ℤ) × (integer_at Usual false p (b ∷ bs) ≡ Ok (z, bs))
unfolding integer_at signed_at signed_nullable_at entity_at
first_is Mandatory b bs h = (Value (signed_of (b ∷ [])), rw h refl)
first_is Optional b bs h = (received_signed (signed_of (b ∷ [])), rw h refl)

in_turn : {A B : Type 0} (r s : Result A FieldFault) (x : A) (k l : A → Result B FieldFault) → r ≡ s → s ≡ Ok x → k x ≡ l x → (r >>= k) ≡ (s >>= l)
in_turn r s x k l first is later = rw (first, is) later

-- what stands behind such a number
behind : {later : ℕ} (p : Presence) (k : Level → ℤ → List ℕ → Result (Option Scalar × List ℕ) FieldFault) → ((z : ℤ) → Behaves (Unit {0}) later (λ level. k level z))
    → Behaves ⊥ (10 + later) (λ level bytes. integer_at level false p bytes >>= λ x. unless_null x (k level))
behind {later} p k on =
    let first = integer false p in
    let rest = null k on in record {
      goes = λ level. goes_then (integer_at level false p) (λ x rest. unless_null (x, rest) (k level)) (first.goes level) (λ x. (rest x).goes level);
      agrees = λ bytes. both (integer_at Strict false p bytes) (integer_at Usual false p bytes) _ _ (first.agrees bytes) (λ x. (rest x.0).agrees x.1);
      bounded = λ bytes. bounded_then (λ f. f) 10 later (10 + later) bytes (integer_at Usual false p bytes) _ (omega arith) (first.bounded bytes) (λ x. (rest x.0).bounded x.1);
      one = λ o. absurd o;
      two = λ b c cs h m n.
          let z = first_is p b (c ∷ cs) (le-leb 128 b h) in
          in_turn (integer_at Strict false p (b ∷ c ∷ cs)) (integer_at Usual false p (b ∷ c ∷ cs)) (z.0, c ∷ cs) (λ x. unless_null x (k Strict)) (λ x. unless_null x (k Usual)) (first.two b c cs h m n) z.1 ((rest z.0).one tt c cs m n);
    }

-- ---- what stands whole

number : (pt : Part) (k : Kind) (p : Presence) → Behaves (Unit {0}) 10 (λ level bytes. integer_spelled_at level pt k p bytes)
unfolding integer_spelled_at
number pt k p = then_free (λ level bytes. integer_at level (is_unsigned k) p bytes) _ (integer (is_unsigned k) p) (free_null (integer_value pt k) (integer_made pt k))

mantissa : (e : ℤ) → Behaves (Unit {0}) 10 (λ level rest. mantissa_behind level e rest)
unfolding mantissa_behind
mantissa e = after (check (exponent_in_range e) FieldFault.R1) _ (tested (exponent_in_range e) FieldFault.R1 tt) (λ ok. then_free mantissa_entity_at _ mantissa_entity (λ m. free_value (decimal_value e m) (decimal_made e m)))

decimal : (p : Presence) → Behaves ⊥ 20 (λ level bytes. decimal_spelled_at level p bytes)
unfolding decimal_spelled_at
decimal p = behind p (λ level. mantissa_behind level) mantissa

string : (k : Kind) (p : Presence) → Behaves (Unit {0}) 65545 (λ level bytes. units_spelled_at level k p bytes)
unfolding units_spelled_at
string k p = then_free (λ level bytes. units_at level k p bytes) _ (units_behave k p) (free_null (unit_value k) (unit_made k))

whole : (i : FieldPart) (k : Kind) → Behaves (is_decimal k ≡ false) 65555 (λ level bytes. spelled_at level i.part k i.presence bytes)
unfolding spelled_at
whole i Kind.Decimal = weaker 65555 _ (λ e. absurd cc) (omega arith) (decimal i.presence)
whole i Kind.Ascii = weaker 65555 _ (λ e. tt) (omega arith) (string Kind.Ascii i.presence)
whole i Kind.Unicode = weaker 65555 _ (λ e. tt) (omega arith) (string Kind.Unicode i.presence)
whole i Kind.Bytes = weaker 65555 _ (λ e. tt) (omega arith) (string Kind.Bytes i.presence)
whole i k = weaker 65555 _ (λ e. tt) (omega arith) (number i.part k i.presence)

-- ---- deltas and tails

number_delta : (i : FieldPart) (e : Entry) → Behaves (Unit {0}) 10 (λ level bytes. integer_delta_at level i e bytes)
unfolding integer_delta_at
number_delta i e = then_free (λ level bytes. integer_at level false i.presence bytes) _ (integer false i.presence) (free_null (integer_sum i e) (summed i e))

mantissa_delta : (e base : ℤ) → Behaves (Unit {0}) 10 (λ level rest. mantissa_delta_behind level e base rest)
unfolding mantissa_delta_behind
mantissa_delta e base =
    after (check (exponent_in_range e) FieldFault.R1) _ (tested (exponent_in_range e) FieldFault.R1 tt)
    (λ ok. then_free mantissa_entity_at _ mantissa_entity (λ d. free_value (decimal_value e (base +ℤ d)) (decimal_made e (base +ℤ d))))

decimal_delta : (i : FieldPart) (e : Entry) → Behaves ⊥ 20 (λ level bytes. decimal_delta_at level i e bytes)
unfolding decimal_delta_at
decimal_delta i e =
    behind i.presence (λ level d rest. delta_base i e >>= λ base. mantissa_delta_behind level (exponent_of base +ℤ d) (mantissa_of base) rest)
    (λ d. after (delta_base i e) _ (base_of_delta i e) (λ base. mantissa_delta (exponent_of base +ℤ d) (mantissa_of base)))

new_part : (k : Kind) (removal : ℤ) (base : List ℕ) → Behaves (Unit {0}) 65545 (λ level rest. new_part_behind level k removal base rest)
unfolding new_part_behind
new_part k removal base =
    after (check (nat_le (removed_of removal) (length base)) FieldFault.D7) _ (tested (nat_le (removed_of removal) (length base)) FieldFault.D7 tt)
    (λ ok. then_free (λ level rest. part_at level k rest) _ (part k) (λ s. free_value (limited_value k (put_together removal base s)) (few_made k (put_together removal base s))))

unit_delta : (i : FieldPart) (e : Entry) → Behaves ⊥ 65555 (λ level bytes. unit_delta_at level i e bytes)
unfolding unit_delta_at
unit_delta i e =
    behind i.presence (λ level removal rest. check (in_range Kind.Int32 removal) FieldFault.D7 >>= λ fits. (delta_base i e >>= λ base. new_part_behind level i.kind removal (units_of base) rest))
    (λ removal. after (check (in_range Kind.Int32 removal) FieldFault.D7) _ (tested (in_range Kind.Int32 removal) FieldFault.D7 tt) (λ fits. after (delta_base i e) _ (base_of_delta i e) (λ base. new_part i.kind removal (units_of base))))

delta : (k : Kind) (i : FieldPart) (e : Entry) → Behaves (is_integer k ≡ true) 65555 (λ level bytes. delta_at level k i e bytes)
unfolding delta_at
delta Kind.Decimal i e = weaker 65555 _ (λ e. absurd cc) (omega arith) (decimal_delta i e)
delta Kind.Ascii i e = weaker 65555 _ (λ e. absurd cc) (omega arith) (unit_delta i e)
delta Kind.Unicode i e = weaker 65555 _ (λ e. absurd cc) (omega arith) (unit_delta i e)
delta Kind.Bytes i e = weaker 65555 _ (λ e. absurd cc) (omega arith) (unit_delta i e)
delta k i e = weaker 65555 _ (λ e. tt) (omega arith) (number_delta i e)

tail : {One : Type 0} (i : FieldPart) (e : Entry) → Behaves One 65555 (λ level bytes. tail_at level i e bytes)
unfolding tail_at
tail i e = weaker 65555 _ (λ o. tt) (omega arith) (then_free (λ level bytes. units_at level i.kind i.presence bytes) _ (units_behave i.kind i.presence) (free_null (ended_value i e) (ended i e)))

-- ---- fields

given : {One : Type 0} (v : Option Scalar) → Behaves One 65555 (λ level bytes. Ok (v, bytes))
given v = free (λ bytes. Ok (v, bytes)) (free_made (λ v. v) (Ok v) tt)

row : (o : Operator) (i : FieldPart) (e : Entry) (bit : Bool) → Behaves (JudgesOne o i.kind) 65555 (λ level bytes. row_at level o i e bit bytes)
unfolding row_at whole_at predicted_at
row Operator.Plain i e bit = whole i i.kind
row Operator.Constant i e false = given None
row Operator.Constant i e true = given i.initial
row Operator.Default i e false = given i.initial
row Operator.Delta i e bit = delta i.kind i e
row Operator.Tail i e true = tail i e
row o i e false = free (predicted_at i e) (free_made (λ v. v) (predicted i e) (foretold i e))
row o i e true = whole i i.kind

field : (i : FieldPart) (e : Entry) (bit : Bool) → Behaves (JudgesOne i.operator i.kind) 65555 (λ level bytes. field_at level i e bit bytes)
unfolding field_at
field i e bit = then_free (λ level bytes. row_at level i.operator i e bit bytes) _ (row i.operator i e bit) (λ v. free_made (λ v. v) (part_checked i.part v) (part_allowed i.part v))

-- ---- what follows

pub field_goes : (level : Level) → (i : FieldPart) (e : Entry) (bit : Bool) → GoesOn (field_at level i e bit)
field_goes level i e bit = (field i e bit).goes level

levels_agree : (level : Level) (i : FieldPart) (e : Entry) (bit : Bool) (bytes : List ℕ) → Agrees (field_at level i e bit bytes) (field_at Usual i e bit bytes)
levels_agree Usual i e bit bytes = same (field_at Usual i e bit bytes)
levels_agree Strict i e bit bytes = (field i e bit).agrees bytes

of_error : {A : Type 0} (r s : Result A FieldFault) (f : FieldFault) → Agrees r s → r ≡ Err f → (IsOfLevel f → ⊥) → s ≡ Err f
of_error (Ok x) s f h e other = absurd cc
of_error (Err d) s f (inl h) e other = let is : d ≡ f = cc in absurd (other (subst IsOfLevel is h))
of_error (Err d) s f (inr h) e other = h ∙ e

of_value : {A : Type 0} (r s : Result A FieldFault) (x : A) → Agrees r s → r ≡ Ok x → s ≡ Ok x
of_value (Ok y) s x h e = h ∙ e
of_value (Err d) s x h e = absurd cc

-- a fault that is not the level's own is one at the usual level
pub fault_usually : (level : Level) (i : FieldPart) (e : Entry) (bit : Bool) (bytes : List ℕ) (f : FieldFault) → field_at level i e bit bytes ≡ Err f → (IsOfLevel f → ⊥) → field_at Usual i e bit bytes ≡ Err f
fault_usually level i e bit bytes f = of_error (field_at level i e bit bytes) (field_at Usual i e bit bytes) f (levels_agree level i e bit bytes)

pub field_no_memory : (level : Level) (i : FieldPart) (e : Entry) (bit : Bool) (bytes : List ℕ) → IsFieldFault level i e bit bytes FieldFault.Memory → ⊥
field_no_memory level i e bit bytes h =
    subst (λ (r : Result (Option Scalar × List ℕ) FieldFault). Bounded (λ f. f) 65555 bytes r) (fault_usually level i e bit bytes FieldFault.Memory h (λ o. o)) ((field i e bit).bounded bytes)

pub field_waits : (level : Level) (i : FieldPart) (e : Entry) (bit : Bool) (bytes : List ℕ) → IsFieldFault level i e bit bytes FieldFault.NeedMore → length bytes ≤ 65554
field_waits level i e bit bytes h =
    let short = subst (λ (r : Result (Option Scalar × List ℕ) FieldFault). Bounded (λ f. f) 65555 bytes r) (fault_usually level i e bit bytes FieldFault.NeedMore h (λ o. o)) ((field i e bit).bounded bytes) in
    omega (arith, short)

-- what is read is read at the usual level
pub read_usually : (level : Level) (i : FieldPart) (e : Entry) (bit : Bool) (bytes : List ℕ) (x : Option Scalar × List ℕ) → field_at level i e bit bytes ≡ Ok x → field_at Usual i e bit bytes ≡ Ok x
read_usually level i e bit bytes x = of_value (field_at level i e bit bytes) (field_at Usual i e bit bytes) x (levels_agree level i e bit bytes)

pub not_of_level : (f : FieldFault) → (f ≡ FieldFault.R6 → ⊥) → (f ≡ FieldFault.R9 → ⊥) → IsOfLevel f → ⊥
not_of_level FieldFault.R6 a b h = a refl
not_of_level FieldFault.R9 a b h = b refl
not_of_level f a b h = h

pub integer_as_usual : (u : Bool) (p : Presence) (b : ℕ) (bs : List ℕ) → b ≢ 0 → b ≢ 127 → integer_at Strict u p (b ∷ bs) ≡ integer_at Usual u p (b ∷ bs)
integer_as_usual u p = (integer u p).one tt

pub reads_as_usual : (i : FieldPart) (bytes : List ℕ) → JudgesOne i.operator i.kind → BeginsPlain bytes → ReadsAsUsual Strict i bytes
reads_as_usual i (b ∷ bs) one plain = λ e more. (field i e true).one one b (bs ++ more) plain.0 plain.1
reads_as_usual i [] one plain = absurd plain

pub pair_as_usual : (i : FieldPart) (bytes : List ℕ) → BeginsPair bytes → ReadsAsUsual Strict i bytes
pair_as_usual i (b ∷ c ∷ cs) h = λ e more. (field i e true).two b c (cs ++ more) h.0 h.1.0 h.1.1
pair_as_usual i (b ∷ []) h = absurd h.1
pair_as_usual i [] h = absurd h
