-- What vectors rest on that were sent whole, at any level.
use Rattle.std.proofs.Common.{◌≡◌, ℕ, ◌+◌, ◌-◌, ◌<◌, ◌≤◌, Bool, true, false, List, [], ◌++◌, ◌∷◌, zero, suc, length, take, drop, slice_range, Option, None, Some, Result, Ok, Err, refl, sym, ap, subst, ◌∙◌, not, ℤ, pos, negsuc, if◌then◌else◌, arith}
use Rattle.std.proofs.lemmas.Bool.{le-ltb, lt-ltb}
use Rattle.std.proofs.lemmas.List.{drop-drop}
use Rattle.fast_wire.specs.Level.{judge}
use Rattle.fast_wire.specs.Reader.{IsBytes}
use Rattle.fast_wire.specs.Reading.{◌>>=◌}
unfoldable use Rattle.fast_wire.specs.Reading.{behind_length, bytes_at, unsigned_at, unsigned_nullable_at, vector_at, vector_nullable_at}
use Rattle.fast_wire.specs.declared.fault.WireFault.{WireFault}
use Rattle.fast_wire.specs.declared.level.Level.{Level}
use Rattle.fast_wire.specs.declared.level.Level.TheVariants.{Usual}
use Rattle.fast_wire.specs.declared.nullable.Nullable.{Nullable}
use Rattle.fast_wire.specs.declared.nullable.Nullable.TheVariants.{Null, Value}
use Rattle.fast_value.specs.declared.kind.Kind.{Kind}
use Rattle.fast_value.specs.declared.kind.Operator.{Operator}
use Rattle.fast_value.specs.declared.kind.Part.{Part}
use Rattle.fast_value.specs.declared.kind.Presence.{Presence}
use Rattle.fast_value.specs.declared.kind.Presence.TheVariants.{Mandatory, Optional}
use Rattle.fast_value.specs.declared.scalar.Scalar.{Scalar}
use Rattle.fast_template.specs.declared.resolved.FieldPart.{FieldPart}
use Rattle.fast_dictionary.specs.declared.entry.Entry.{Entry}
unfoldable use Rattle.fast_field.specs.FieldReading.{field_at, integer_at, part_at, part_checked, row_at, spelled_at, unit_value, units_at, units_spelled_at, whole_at}
use Rattle.fast_field.specs.FieldReading.{in_field, integer_usually_at, signless, units_usually_at}
use Rattle.fast_field.specs.Faults.{field_fault}
use Rattle.fast_field.specs.Spelled.{overlong_number}
use Rattle.fast_field.specs.declared.fault.FieldFault.{FieldFault}
use Rattle.fast_field.proofs.FieldForms.{checked_is}
use Rattle.fast_take.specs.Numbers.{SpellsWhole}
use Rattle.fast_take.specs.Judged.{under}
use Rattle.fast_take.specs.Texts.{IsText, IsVectorKind}
use Rattle.fast_take.proofs.Ranges.{range_split}
use Rattle.fast_take.proofs.Standing.{shortest_unsigned}
use Rattle.fast_take.proofs.NumberRelaying.{whole_first}
use Rattle.fast_take.proofs.TextRelaying.{whole_within}
use Rattle.fast_take.proofs.VectorTexts.{fits}
use Rattle.std.specs.Str.{is_utf8}
use Rattle.std.proofs.lemmas.Str.{IsUtf8-from_is_utf8}
use Rattle.std.proofs.lemmas.List.{length-take-le}
use Rattle.std.proofs.Common.{length-append, length-drop}
use Rattle.fast_wire.specs.Integer.{IsUnsigned}
use Rattle.fast_wire.specs.Vector.{IsCounted, IsLengthNullable}
use Rattle.fast_wire.specs.Writing.{IsShortest}
use Rattle.fast_wire.specs.Level.{overlong_unsigned}
use Rattle.fast_value.specs.declared.scalar.Scalar.TheVariants.{Bytes, Unicode}
use Rattle.fast_field.specs.Bases.{next as after}
use Rattle.fast_field.specs.Best.{IsBest}
use Rattle.fast_field.specs.Chosen.{ShortestUnits, ShortestUnsigned}
use Rattle.fast_field.specs.Fields.{IsWithin}
use Rattle.fast_field.specs.Parts.{IsKindOfPart}
use Rattle.fast_field.specs.Planning.{left_out_of}
use Rattle.fast_field.specs.Spelled.{Spelled, SpellsIntegerUsually}
use Rattle.fast_field.specs.Values.{of_units}
use Rattle.fast_field.proofs.BestForms.{bit_zero_is_best}
use Rattle.fast_field.proofs.BestValues.{best_under_one, left_out}
use Rattle.fast_field.proofs.FieldsBehave.{field_goes}
use Rattle.fast_field.proofs.Shortest.{whole_shortest}
use Rattle.fast_field.proofs.SpelledForms.{if_ok}
use Rattle.fast_wire.proofs.Readers.{ok_is}
use Rattle.fast_take.specs.Takes.{IsTook, is_there, value_aside, value_taken}
use Rattle.fast_take.specs.declared.took.Unkept.TheVariants.{Units}
use Rattle.fast_take.specs.declared.took.Aside.{Aside}
use Rattle.fast_take.specs.declared.took.Took.{Took}
use Rattle.fast_take.proofs.TakenIntegers.{SpellsSame, null_is_zero, null_judged, null_optional, stands, tells_absent, tells_there}
use Rattle.fast_take.proofs.TakenDecimals.{Tells}
use Rattle.fast_take.specs.Sent.{IsBehind}
use Rattle.std.proofs.Common.{◌≤ℤ◌, inl, inr}
use Rattle.std.proofs.lemmas.Int.{ints}

-- ---- a length, and so many bytes

abbrev pub told : List ℕ × List ℕ → Result (Nullable (List ℕ) × List ℕ) FieldFault
told x = Ok (Value x.0, x.1)

-- what follows a length that was read
abbrev pub counted : Nullable ℤ × List ℕ → Result (Nullable (List ℕ) × List ℕ) FieldFault
counted (Null, rest) = Ok (Null, rest)
counted (Value (pos n), rest) = in_field (bytes_at n rest) >>= told
counted (Value (negsuc n), rest) = Err FieldFault.Limit

abbrev number : ℕ × List ℕ → Result (Nullable ℤ × List ℕ) FieldFault
number x = Ok (Value (pos x.0), x.1)

abbrev number_or_null : Nullable ℕ × List ℕ → Result (Nullable ℤ × List ℕ) FieldFault
number_or_null x = Ok (signless x.0, x.1)

mandatory : (r : Result (ℕ × List ℕ) WireFault) → (in_field (r >>= λ n. bytes_at n.0 n.1) >>= told) ≡ ((in_field r >>= number) >>= counted)
mandatory (Ok (n, rest)) = refl
mandatory (Err w) = refl

in_value : (r : Result (List ℕ × List ℕ) WireFault) → in_field (r >>= λ s. Ok (Value s.0, s.1)) ≡ (in_field r >>= told)
in_value (Ok s) = refl
in_value (Err w) = refl

optional : (r : Result (Nullable ℕ × List ℕ) WireFault) → in_field (r >>= λ n. behind_length n.0 n.1) ≡ ((in_field r >>= number_or_null) >>= counted)
unfolding behind_length
optional (Ok (Null, rest)) = refl
optional (Ok (Value n, rest)) = in_value (bytes_at n rest)
optional (Err w) = refl

judged_first : (j : Result (Unit {0}) FieldFault) (u : Result (Nullable (List ℕ) × List ℕ) FieldFault) (n : Result (Nullable ℤ × List ℕ) FieldFault) → u ≡ (n >>= counted) → (j >>= λ _. u) ≡ ((j >>= λ _. n) >>= counted)
judged_first (Ok x) u n h = h
judged_first (Err f) u n h = refl

units_row : (level : Level) (k : Kind) (p : Presence) (bytes : List ℕ) → IsVectorKind k → units_at level k p bytes ≡ (integer_at level true p bytes >>= counted)
unfolding units_at integer_at part_at vector_at vector_nullable_at
units_row level Kind.Unicode Mandatory bytes is = judged_first (judge level 10 (overlong_number true) field_fault FieldFault.R6 bytes) (units_usually_at Kind.Unicode Mandatory bytes) (integer_usually_at true Mandatory bytes) (mandatory (unsigned_at bytes))
units_row level Kind.Bytes Mandatory bytes is = judged_first (judge level 10 (overlong_number true) field_fault FieldFault.R6 bytes) (units_usually_at Kind.Bytes Mandatory bytes) (integer_usually_at true Mandatory bytes) (mandatory (unsigned_at bytes))
units_row level Kind.Unicode Optional bytes is = judged_first (judge level 10 (overlong_number true) field_fault FieldFault.R6 bytes) (units_usually_at Kind.Unicode Optional bytes) (integer_usually_at true Optional bytes) (optional (unsigned_nullable_at bytes))
units_row level Kind.Bytes Optional bytes is = judged_first (judge level 10 (overlong_number true) field_fault FieldFault.R6 bytes) (units_usually_at Kind.Bytes Optional bytes) (integer_usually_at true Optional bytes) (optional (unsigned_nullable_at bytes))
units_row level k p bytes is = absurd is

pub too_many : (n : ℕ) (rest : List ℕ) → 65535 < n → counted (Value (pos n), rest) ≡ Err FieldFault.Limit
unfolding bytes_at
too_many n rest lt = rw (lt-ltb 65535 n lt) refl

pub too_few : (n : ℕ) (rest : List ℕ) → n ≤ 65535 → length rest < n → counted (Value (pos n), rest) ≡ Err FieldFault.NeedMore
unfolding bytes_at
too_few n rest few lt = rw (le-ltb 65535 n few, lt-ltb (length rest) n lt) refl

pub enough : (n : ℕ) (rest : List ℕ) → n ≤ 65535 → n ≤ length rest → counted (Value (pos n), rest) ≡ Ok (Value (take n rest), drop n rest)
unfolding bytes_at
enough n rest few le = rw (le-ltb 65535 n few, le-ltb (length rest) n le) refl

-- ---- the row of a field

spelled_as : (level : Level) (pt : Part) (k : Kind) (p : Presence) (bytes : List ℕ) → IsVectorKind k → spelled_at level pt k p bytes ≡ units_spelled_at level k p bytes
unfolding spelled_at
spelled_as level pt Kind.Unicode p bytes h = refl
spelled_as level pt Kind.Bytes p bytes h = refl
spelled_as level pt k p bytes h = absurd h

row_is : (level : Level) (o : Operator) (i : FieldPart) (e : Entry) (bytes : List ℕ) → SpellsWhole o → IsVectorKind i.kind → row_at level o i e true bytes ≡ units_spelled_at level i.kind i.presence bytes
unfolding row_at whole_at
row_is level Operator.Plain i e bytes o h = spelled_as level i.part i.kind i.presence bytes h
row_is level Operator.Default i e bytes o h = spelled_as level i.part i.kind i.presence bytes h
row_is level Operator.Copy i e bytes o h = spelled_as level i.part i.kind i.presence bytes h
row_is level Operator.Increment i e bytes o h = spelled_as level i.part i.kind i.presence bytes h
row_is level o i e bytes s h = absurd s

pub first_fails : (level : Level) (i : FieldPart) (e : Entry) (bytes : List ℕ) (f : FieldFault) → SpellsWhole i.operator → IsVectorKind i.kind → integer_at level true i.presence bytes ≡ Err f → field_at level i e true bytes ≡ Err f
unfolding field_at units_spelled_at
first_fails level i e bytes f o k h = rw (row_is level i.operator i e bytes o k, units_row level i.kind i.presence bytes k, h) refl

pub null_read : (level : Level) (i : FieldPart) (e : Entry) (bytes rest : List ℕ) → SpellsWhole i.operator → IsVectorKind i.kind → integer_at level true i.presence bytes ≡ Ok (Null, rest) → field_at level i e true bytes ≡ Ok (None, rest)
unfolding field_at units_spelled_at
null_read level i e bytes rest o k h = rw (row_is level i.operator i e bytes o k, units_row level i.kind i.presence bytes k, h, checked_is i.part None tt) refl

pub count_fails : (level : Level) (i : FieldPart) (e : Entry) (bytes rest : List ℕ) (z : Nullable ℤ) (f : FieldFault) → SpellsWhole i.operator → IsVectorKind i.kind → integer_at level true i.presence bytes ≡ Ok (z, rest) → counted (z, rest) ≡ Err f → field_at level i e true bytes ≡ Err f
unfolding field_at units_spelled_at
count_fails level i e bytes rest z f o k h c = rw (row_is level i.operator i e bytes o k, units_row level i.kind i.presence bytes k, h, c) refl

pub text_fails : (level : Level) (i : FieldPart) (e : Entry) (bytes rest s tail : List ℕ) (z : Nullable ℤ) (f : FieldFault) → SpellsWhole i.operator → IsVectorKind i.kind → integer_at level true i.presence bytes ≡ Ok (z, rest) → counted (z, rest) ≡ Ok (Value s, tail) → unit_value i.kind s ≡ Err f
    → field_at level i e true bytes ≡ Err f
unfolding field_at units_spelled_at
text_fails level i e bytes rest s tail z f o k h c u = rw (row_is level i.operator i e bytes o k, units_row level i.kind i.presence bytes k, h, c, u) refl

pub text_read : (level : Level) (i : FieldPart) (e : Entry) (bytes rest s tail : List ℕ) (z : Nullable ℤ) (v : Scalar) → SpellsWhole i.operator → IsVectorKind i.kind → IsWithin i.part (Some v) → integer_at level true i.presence bytes ≡ Ok (z, rest) → counted (z, rest) ≡ Ok (Value s, tail) → unit_value i.kind s ≡ Ok v
    → field_at level i e true bytes ≡ Ok (Some v, tail)
unfolding field_at units_spelled_at
text_read level i e bytes rest s tail z v o k is h c u = rw (row_is level i.operator i e bytes o k, units_row level i.kind i.presence bytes k, h, c, u, checked_is i.part (Some v) is) refl

-- ---- values

text_of : (k : Kind) (s : List ℕ) (v : Scalar) → IsVectorKind k → IsBytes s → length s ≤ 65535 → unit_value k s ≡ Ok v → IsText k (of_units k s) × (v ≡ of_units k s)
unfolding unit_value
text_of Kind.Unicode s v is fits few h =
    let w = if_ok (is_utf8 s) (Unicode s) v FieldFault.R2 h in
    (record { of_units = tt; of_kind = refl; within = (few, fits, IsUtf8-from_is_utf8 s w.0) }, sym w.1)
text_of Kind.Bytes s v is fits few h = (record { of_units = tt; of_kind = refl; within = (few, fits) }, sym (ok_is {F = FieldFault} (Bytes s) v h))
text_of k s v is fits few h = absurd is

-- ---- the best form

counted_shortest : (IsLength : List ℕ → ℕ → Type 0) (front s : List ℕ) → IsLength front (length s) → ((other : List ℕ) → IsLength other (length s) → length front ≤ length other) → IsBytes s × (length s ≤ 65535) → IsShortest (IsCounted IsLength) (front ++ s) s
counted_shortest IsLength front s form least fit = record {
  form = record { front = front; parts = refl; length_form = form; bytes_fit = fit.0; limit = fit.1 };
  least = λ other h. omega (arith, least h.front h.length_form, ap length h.parts, length-append h.front s, length-append front s);
}

behind_its_length : (k : Kind) (p : Presence) (front s : List ℕ) → IsVectorKind k → IsText k (of_units k s) → ShortestUnsigned p (length s) front → ShortestUnits k p s (front ++ s)
behind_its_length Kind.Unicode Mandatory front s is t h = counted_shortest IsUnsigned front s h.form h.least (fits Kind.Unicode s is t)
behind_its_length Kind.Bytes Mandatory front s is t h = counted_shortest IsUnsigned front s h.form h.least (fits Kind.Bytes s is t)
behind_its_length Kind.Unicode Optional front s is t h = let c = counted_shortest IsLengthNullable front s h.form h.least (fits Kind.Unicode s is t) in record { form = c.form; least = c.least }
behind_its_length Kind.Bytes Optional front s is t h = let c = counted_shortest IsLengthNullable front s h.form h.least (fits Kind.Bytes s is t) in record { form = c.form; least = c.least }
behind_its_length k p front s is t h = absurd is

typed_shortest : (k : Kind) (p : Presence) (s b : List ℕ) → IsVectorKind k → IsText k (of_units k s) → ShortestUnits k p s b → IsShortest (Spelled Usual k p) b (Some (of_units k s))
typed_shortest Kind.Unicode p s b is t h = whole_shortest Kind.Unicode p (Unicode s) b (t.of_kind, t.within) h
typed_shortest Kind.Bytes p s b is t h = whole_shortest Kind.Bytes p (Bytes s) b (t.of_kind, t.within) h
typed_shortest k p s b is t h = absurd is

vector_judged : (given : Bool) (i : FieldPart) (e : Entry) (s front : List ℕ) → SpellsWhole i.operator → IsVectorKind i.kind → IsWithin i.part (Some (of_units i.kind s)) → IsText i.kind (of_units i.kind s) → left_out_of i.operator i e (Some (of_units i.kind s)) ≡ given → ShortestUnsigned i.presence (length s) front
    → IsBest i e (not given) (under (not given) (front ++ s)) (Some (of_units i.kind s))
vector_judged true i e s front o k is t out h = bit_zero_is_best i e (Some (of_units i.kind s)) (record { row = left_out i.operator i e (Some (of_units i.kind s)) out; within = is })
vector_judged false i e s front o k is t out h =
    best_under_one i e (Some (of_units i.kind s)) (front ++ s) is (whole_first i.operator i e (Some (of_units i.kind s)) (front ++ s) o (typed_shortest i.kind i.presence s (front ++ s) k t (behind_its_length i.kind i.presence front s k t h))) out

-- ---- a vector that was taken

whole_part : (pt : Part) (k : Kind) → IsKindOfPart pt k → IsVectorKind k → pt ≡ Part.Whole
whole_part Part.Whole k h v = refl
whole_part Part.Exponent k h v = absurd (rw h at v)
whole_part Part.Mantissa k h v = absurd (rw h at v)
whole_part Part.Length k h v = absurd (rw h at v)

pub within : (i : FieldPart) (v : Scalar) → IsKindOfPart i.part i.kind → IsVectorKind i.kind → IsWithin i.part (Some v)
within i v is k = whole_within i.part v (whole_part i.part i.kind is k)

pub between : (bytes : List ℕ) (start n to : ℕ) → to ≡ start + n → take n (drop start bytes) ≡ slice_range bytes start to
between bytes start n to is = let on : to - start ≡ n = omega (arith, is) in ap (λ (m : ℕ). take m (drop start bytes)) (sym on)

all_take : (n : ℕ) (xs : List ℕ) → IsBytes xs → IsBytes (take n xs)
all_take zero xs h = tt
all_take (suc n) [] h = tt
all_take (suc n) (x ∷ xs) h = (h.0, all_take n xs h.1)

pub vector_took : (level : Level) (i : FieldPart) (old new : Entry) (bytes : List ℕ) (at first start to n : ℕ) (given : Bool) (v : Scalar) (a : Aside) (t : Took)
    → SpellsWhole i.operator → IsVectorKind i.kind → IsKindOfPart i.part i.kind → IsBytes (drop at bytes) → IsBytes (drop start bytes) → at ≤ first → first ≤ start → at ≤ start → start ≤ length bytes
    → integer_at level true i.presence (drop at bytes) ≡ Ok (Value (pos n), drop start bytes) → n ≤ 65535 → n ≤ length bytes - start → to ≡ start + n → unit_value i.kind (slice_range bytes start to) ≡ Ok v
    → SpellsSame true (slice_range bytes at start) (slice_range bytes first start) → overlong_unsigned (slice_range bytes first start) ≡ false
    → left_out_of i.operator i old (Some v) ≡ given → new ≡ after i old (Some v) → is_there t a ≡ true → Tells i new bytes at to given (slice_range bytes first to) a t (Some v) → IsTook level i old new true bytes at a t
vector_took level i old new bytes at first start to n given v a t o k part fit later le_first first_le le within_start read few enough_there is made same short out entry there tells =
    let s = slice_range bytes start to in
    let cut = between bytes start n to is in
    let long : n ≡ length s = omega (arith, is, enough_there, within_start, length-drop start bytes, length-take-le (to - start) (drop start bytes) (omega (arith, is, enough_there, within_start, length-drop start bytes))) in
    let bytes_fit : IsBytes s = all_take (to - start) (drop start bytes) later in
    let w = text_of i.kind s v k bytes_fit (omega (arith, long, few)) made in
    let inside = within i v part k in
    let found : counted (Value (pos n), drop start bytes) ≡ Ok (Value s, drop to bytes) =
    enough n (drop start bytes) few (omega (arith, enough_there, length-drop start bytes)) ∙ rw cut (ap (λ (r : List ℕ). told (s, r)) (drop-drop n start bytes ∙ ap (λ (m : ℕ). drop m bytes) (sym is))) in
    let stood = stands level true i.presence bytes at start (Value (pos n)) fit le within_start read in
    let front = same i.presence (pos n) stood in
    let length_shortest : ShortestUnsigned i.presence (length s) (slice_range bytes first start) = subst (λ (m : ℕ). ShortestUnsigned i.presence m (slice_range bytes first start)) long (shortest_unsigned i.presence n (slice_range bytes first start) front short) in
    let both : slice_range bytes first to ≡ slice_range bytes first start ++ s = range_split bytes first start to first_le (omega (arith, is)) in
    record {
      place = rw (tells.place) (omega (arith, is, le), omega (arith, is, enough_there, within_start));
      first = rw (tells.place) tells.ahead;
      read = λ more. rw (tells.found, tells.place) (field_goes level i old true (drop at bytes) (Some v) (drop to bytes) more (text_read level i old (drop at bytes) (drop start bytes) s (drop to bytes) (Value (pos n)) v o k inside read found made));
      entry = rw (tells.found) entry;
      there = tells_there (is_there t a) (value_taken i new true bytes a t) v there tells.found;
      best = rw (tells.bit, tells.best, tells.found, both, w.1) (vector_judged given i old s (slice_range bytes first start) o k (within i (of_units i.kind s) part k) w.0 (rw (w.1) at out) length_shortest);
    }

pub null_took : (level : Level) (i : FieldPart) (old new : Entry) (bytes : List ℕ) (at first to : ℕ) (given : Bool) (a : Aside) (t : Took)
    → SpellsWhole i.operator → IsVectorKind i.kind → IsBytes (drop at bytes) → at ≤ to → to ≤ length bytes → integer_at level true i.presence (drop at bytes) ≡ Ok (Null, drop to bytes)
    → SpellsSame true (slice_range bytes at to) (slice_range bytes first to) → overlong_unsigned (slice_range bytes first to) ≡ false → left_out_of i.operator i old None ≡ given → new ≡ after i old None
    → is_there t a ≡ false → Tells i new bytes at to given (slice_range bytes first to) a t None → IsTook level i old new true bytes at a t
null_took level i old new bytes at first to given a t o k fits le within read same short out entry gone tells =
    let spelt = stands level true i.presence bytes at to Null fits le within read in
    let zero = same Mandatory (pos 0) (null_is_zero true i.presence (slice_range bytes at to) spelt) in
    record {
      place = rw (tells.place) (le, within);
      first = rw (tells.place) tells.ahead;
      read = λ more. rw (tells.found, tells.place) (field_goes level i old true (drop at bytes) None (drop to bytes) more (null_read level i old (drop at bytes) (drop to bytes) o k read));
      entry = rw (tells.found) entry;
      there = tells_absent (is_there t a) (value_taken i new true bytes a t) gone tells.found;
      best = rw (tells.bit, tells.best, tells.found) (null_judged given true i old (slice_range bytes first to) (null_optional true i.presence (slice_range bytes at to) spelt) out zero short);
    }

-- ---- by the length that was sent

no_sign : (p : Presence) (b : List ℕ) (z : ℤ) → SpellsIntegerUsually true p b (Value z) → (n : ℕ) × (z ≡ pos n)
no_sign Mandatory b (pos n) h = (n, refl)
no_sign Optional b (pos n) h = (n, refl)
no_sign Mandatory b (negsuc n) h = absurd h
no_sign Optional b (negsuc n) h = absurd h

pub count_is : (level : Level) (p : Presence) (bytes : List ℕ) (at to : ℕ) (z : ℤ) → IsBytes (drop at bytes) → at ≤ to → to ≤ length bytes → integer_at level true p (drop at bytes) ≡ Ok (Value z, drop to bytes) → pos 0 ≤ℤ z
count_is level p bytes at to z fits le within h = let n = no_sign p (slice_range bytes at to) z (stands level true p bytes at to (Value z) fits le within h) in rw (n.1) (omega (arith, ints))

-- the units that stand behind a length
units_there : (bytes : List ℕ) (start to n : ℕ) → n ≤ 65535 → n ≤ length bytes - start → start ≤ length bytes → to ≡ start + n → counted (Value (pos n), drop start bytes) ≡ Ok (Value (slice_range bytes start to), drop to bytes)
units_there bytes start to n few enough_there within_start is =
    enough n (drop start bytes) few (omega (arith, enough_there, length-drop start bytes)) ∙ rw (between bytes start n to is) (ap (λ (r : List ℕ). told (slice_range bytes start to, r)) (drop-drop n start bytes ∙ ap (λ (m : ℕ). drop m bytes) (sym is)))

pub behind_fails : (level : Level) (i : FieldPart) (e : Entry) (bytes : List ℕ) (at start : ℕ) (z : ℤ) (f : FieldFault) → SpellsWhole i.operator → IsVectorKind i.kind → start ≤ length bytes → integer_at level true i.presence (drop at bytes) ≡ Ok (Value z, drop start bytes) → IsBehind z bytes start (Err f)
    → field_at level i e true (drop at bytes) ≡ Err f
behind_fails level i e bytes at start (pos n) f o k within_start h (inl b) = rw (b.1) (count_fails level i e (drop at bytes) (drop start bytes) (Value (pos n)) FieldFault.Limit o k h (too_many n (drop start bytes) b.0))
behind_fails level i e bytes at start (pos n) f o k within_start h (inr b) = rw (b.2) (count_fails level i e (drop at bytes) (drop start bytes) (Value (pos n)) FieldFault.NeedMore o k h (too_few n (drop start bytes) b.0 (omega (arith, b.1, length-drop start bytes))))
behind_fails level i e bytes at start (negsuc n) f o k within_start h b = absurd b

pub value_fails : (level : Level) (i : FieldPart) (e : Entry) (bytes : List ℕ) (at start to : ℕ) (z : ℤ) (f : FieldFault) → SpellsWhole i.operator → IsVectorKind i.kind → start ≤ length bytes → integer_at level true i.presence (drop at bytes) ≡ Ok (Value z, drop start bytes) → IsBehind z bytes start (Ok to)
    → unit_value i.kind (slice_range bytes start to) ≡ Err f → field_at level i e true (drop at bytes) ≡ Err f
value_fails level i e bytes at start to (pos n) f o k within_start h b u = text_fails level i e (drop at bytes) (drop start bytes) (slice_range bytes start to) (drop to bytes) (Value (pos n)) f o k h (units_there bytes start to n b.0 b.1 within_start b.2) u
value_fails level i e bytes at start to (negsuc n) f o k within_start h b u = absurd b

needs_no_more : (k : Kind) (s : List ℕ) → unit_value k s ≡ Err FieldFault.NeedMore → ⊥
unfolding unit_value
needs_no_more Kind.Unicode s h = elim (is_utf8 s) as (λ t. (if t then Ok (Unicode s) else Err FieldFault.R2) ≡ Err FieldFault.NeedMore → ⊥) [ true ↦ λ e. cc | false ↦ λ e. cc ] h
needs_no_more Kind.Bytes s h = cc
needs_no_more k s h = cc

abbrev stops : FieldFault → Result (Option Scalar × List ℕ) FieldFault
stops f = Err f

-- a value that was there waits for nothing
pub no_waiting : (level : Level) (i : FieldPart) (e : Entry) (bytes : List ℕ) (at start to : ℕ) (z : ℤ) (r : Result Scalar FieldFault) → SpellsWhole i.operator → IsVectorKind i.kind → IsKindOfPart i.part i.kind → start ≤ length bytes → integer_at level true i.presence (drop at bytes) ≡ Ok (Value z, drop start bytes) → IsBehind z bytes start (Ok to)
    → unit_value i.kind (slice_range bytes start to) ≡ r → field_at level i e true (drop at bytes) ≡ Err FieldFault.NeedMore → ⊥
no_waiting level i e bytes at start to (pos n) (Ok v) o k part within_start h b u waits =
    let read = text_read level i e (drop at bytes) (drop start bytes) (slice_range bytes start to) (drop to bytes) (Value (pos n)) v o k (within i v part k) h (units_there bytes start to n b.0 b.1 within_start b.2) u in
    let both : Ok (Some v, drop to bytes) ≡ Err FieldFault.NeedMore = sym read ∙ waits in cc
no_waiting level i e bytes at start to (pos n) (Err f) o k part within_start h b u waits =
    let read = text_fails level i e (drop at bytes) (drop start bytes) (slice_range bytes start to) (drop to bytes) (Value (pos n)) f o k h (units_there bytes start to n b.0 b.1 within_start b.2) u in
    let both : stops f ≡ stops FieldFault.NeedMore = sym read ∙ waits in
    let same : f ≡ FieldFault.NeedMore = cc in
    needs_no_more i.kind (slice_range bytes start to) (rw same at u)
no_waiting level i e bytes at start to (negsuc n) r o k part within_start h b u waits = b

pub vector_taken : (level : Level) (i : FieldPart) (old new : Entry) (bytes : List ℕ) (at first start to : ℕ) (z : ℤ) (given : Bool) (v : Scalar) (a : Aside) (t : Took)
    → SpellsWhole i.operator → IsVectorKind i.kind → IsKindOfPart i.part i.kind → IsBytes (drop at bytes) → IsBytes (drop start bytes) → at ≤ first → first ≤ start → at ≤ start → start ≤ length bytes
    → integer_at level true i.presence (drop at bytes) ≡ Ok (Value z, drop start bytes) → IsBehind z bytes start (Ok to) → unit_value i.kind (slice_range bytes start to) ≡ Ok v
    → SpellsSame true (slice_range bytes at start) (slice_range bytes first start) → overlong_unsigned (slice_range bytes first start) ≡ false
    → left_out_of i.operator i old (Some v) ≡ given → new ≡ after i old (Some v) → is_there t a ≡ true → Tells i new bytes at to given (slice_range bytes first to) a t (Some v) → IsTook level i old new true bytes at a t
vector_taken level i old new bytes at first start to (pos n) given v a t o k part fit later le_first first_le le within_start read b made same short out entry there tells =
    vector_took level i old new bytes at first start to n given v a t o k part fit later le_first first_le le within_start read b.0 b.1 b.2 made same short out entry there tells
vector_taken level i old new bytes at first start to (negsuc n) given v a t o k part fit later le_first first_le le within_start read b made same short out entry there tells = absurd b

-- the value by where it stands
pub units_aside : (k : Kind) (bytes : List ℕ) (start to : ℕ) (v : Scalar) → IsVectorKind k → unit_value k (slice_range bytes start to) ≡ Ok v → value_aside k bytes (Units (record { start = start; end = to })) ≡ v
unfolding unit_value
units_aside Kind.Unicode bytes start to v is h = (if_ok (is_utf8 (slice_range bytes start to)) (Unicode (slice_range bytes start to)) v FieldFault.R2 h).1
units_aside Kind.Bytes bytes start to v is h = ok_is {F = FieldFault} (Bytes (slice_range bytes start to)) v h
units_aside k bytes start to v is h = absurd is
