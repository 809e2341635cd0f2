-- What decimals rest on that were sent, at any level.
use Rattle.std.proofs.Common.{◌≡◌, ℕ, ◌≤◌, Bool, true, false, List, ◌++◌, length, drop, slice_range, Option, None, Some, Result, Ok, Err, refl, sym, ap, subst, ◌∙◌, not, ℤ, pos, ◌+ℤ◌, ◌-ℤ◌, IsTrue, if◌then◌else◌, arith}
use Rattle.fast_wire.specs.Integer.{IsSigned}
use Rattle.fast_wire.specs.Level.{overlong_signed}
use Rattle.fast_wire.specs.Reader.{IsBytes}
use Rattle.fast_wire.specs.Reading.{◌>>=◌}
use Rattle.fast_wire.specs.declared.level.Level.{Level}
use Rattle.fast_wire.specs.declared.level.Level.TheVariants.{Usual}
use Rattle.fast_wire.specs.declared.nullable.Nullable.TheVariants.{Null, Value}
use Rattle.fast_value.specs.Scalar.{exponent_in_range, in_range, is_of}
use Rattle.fast_value.specs.declared.kind.Kind.{Kind}
use Rattle.fast_value.specs.declared.kind.Operator.{Operator}
use Rattle.fast_value.specs.declared.kind.Part.{Part}
use Rattle.fast_value.specs.declared.kind.Presence.{Presence}
use Rattle.fast_value.specs.declared.kind.Presence.TheVariants.{Mandatory}
use Rattle.fast_value.specs.declared.scalar.Scalar.{Scalar}
use Rattle.fast_value.specs.declared.scalar.Scalar.TheVariants.{Decimal}
use Rattle.fast_template.specs.declared.resolved.FieldPart.{FieldPart}
use Rattle.fast_dictionary.specs.declared.entry.Entry.{Entry}
use Rattle.fast_field.specs.Bases.{delta_base, next as after}
use Rattle.fast_field.specs.Best.{IsBest}
use Rattle.fast_field.specs.Chosen.{ShortestPair}
use Rattle.fast_field.specs.Deltas.{uncut}
unfoldable use Rattle.fast_field.specs.FieldReading.{decimal_delta_at, decimal_spelled_at, decimal_value, delta_at, field_at, integer_at, mantissa_behind, mantissa_delta_behind, part_checked, row_at, spelled_at, whole_at}
use Rattle.fast_field.specs.FieldReading.{as_value, check, mantissa_entity_at}
use Rattle.fast_field.specs.Fields.{FormOf, IsWithin}
use Rattle.fast_field.specs.Parts.{IsKindOfPart}
use Rattle.fast_field.specs.Planning.{left_out_of}
use Rattle.fast_field.specs.Spelled.{Spelled, SpellsIntegerUsually, SpellsMantissa}
use Rattle.fast_field.specs.Values.{exponent_of, mantissa_of}
use Rattle.fast_field.specs.declared.fault.FieldFault.{FieldFault}
use Rattle.fast_field.proofs.BestDeltas.{IsFirst}
use Rattle.fast_field.proofs.BestForms.{bit_zero_is_best}
use Rattle.fast_field.proofs.BestValues.{best_under_one, delta_is_first, left_out, whole_is_first}
use Rattle.fast_field.proofs.ChosenForms.{decimal_value as decimal_is_first}
use Rattle.fast_field.proofs.FieldForms.{checked_is}
use Rattle.fast_field.proofs.FieldsBehave.{field_goes}
use Rattle.fast_field.proofs.ReadFields.{found_here}
use Rattle.fast_field.proofs.Shortest.{whole_shortest}
use Rattle.fast_field.proofs.SpelledForms.{if_ok, mantissa_entities}
use Rattle.fast_take.specs.Judged.{under}
use Rattle.fast_take.proofs.DecimalRelaying.{of_type}
use Rattle.fast_take.proofs.Ranges.{range_split}
use Rattle.fast_take.proofs.Standing.{shortest_signed}
use Rattle.fast_take.proofs.NumberRelaying.{added_back}
use Rattle.fast_take.specs.Sent.{IsNumeric, SendsNumber, made_decimal, made_exponent, near}
use Rattle.fast_take.specs.Takes.{IsTook, best_bit, best_form, first_of, is_there, place_of, value_taken}
use Rattle.fast_take.specs.declared.took.Aside.{Aside}
use Rattle.fast_take.specs.declared.took.Took.{Took}
use Rattle.fast_take.proofs.TakenIntegers.{SpellsSame, null_is_zero, null_judged, null_optional, stands, tells_absent, tells_there, usually}

-- ---- the row of a field

spelled_as : (level : Level) (pt : Part) (k : Kind) (p : Presence) (bytes : List ℕ) → k ≡ Kind.Decimal → spelled_at level pt k p bytes ≡ decimal_spelled_at level p bytes
unfolding spelled_at
spelled_as level pt Kind.Decimal p bytes h = refl
spelled_as level pt k p bytes h = absurd cc

delta_as : (level : Level) (k : Kind) (i : FieldPart) (e : Entry) (bytes : List ℕ) → k ≡ Kind.Decimal → delta_at level k i e bytes ≡ decimal_delta_at level i e bytes
unfolding delta_at
delta_as level Kind.Decimal i e bytes h = refl
delta_as level k i e bytes h = absurd cc

-- the mantissa behind an exponent, and the decimal of both
abbrev behind : Level → Operator → FieldPart → Entry → List ℕ → ℤ → Result (Option Scalar × List ℕ) FieldFault
behind level o i e mid x = mantissa_entity_at level mid >>= λ m. as_value (made_decimal o i e x m.0) m.1

checked : (t : Bool) (x : ℤ) (w : Result ℤ FieldFault) (k : ℤ → Result (Option Scalar × List ℕ) FieldFault) → (if t then Ok x else Err FieldFault.R1) ≡ w → (check t FieldFault.R1 >>= λ ok. k x) ≡ (w >>= k)
checked true x w k h = rw (sym h) refl
checked false x w k h = rw (sym h) refl

whole_behind : (level : Level) (mid : List ℕ) (z : ℤ) (w : Result ℤ FieldFault) → near z ≡ w → mantissa_behind level z mid ≡ (w >>= λ x. mantissa_entity_at level mid >>= λ m. as_value (decimal_value x m.0) m.1)
unfolding mantissa_behind
whole_behind level mid z w h = checked (exponent_in_range z) z w (λ x. mantissa_entity_at level mid >>= λ m. as_value (decimal_value x m.0) m.1) h

delta_behind : (level : Level) (r : Result Scalar FieldFault) (mid : List ℕ) (z : ℤ) (w : Result ℤ FieldFault) → (r >>= λ base. near (exponent_of base +ℤ z)) ≡ w
    → (r >>= λ base. mantissa_delta_behind level (exponent_of base +ℤ z) (mantissa_of base) mid) ≡ (w >>= λ x. mantissa_entity_at level mid >>= λ m. as_value (r >>= λ base. decimal_value x (mantissa_of base +ℤ m.0)) m.1)
unfolding mantissa_delta_behind
delta_behind level (Ok base) mid z w h = checked (exponent_in_range (exponent_of base +ℤ z)) (exponent_of base +ℤ z) w (λ x. mantissa_entity_at level mid >>= λ m. as_value (decimal_value x (mantissa_of base +ℤ m.0)) m.1) h
delta_behind level (Err f) mid z w h = rw (sym h) refl

whole_row : (level : Level) (i : FieldPart) (bytes mid : List ℕ) (z : ℤ) (w : Result ℤ FieldFault) → i.kind ≡ Kind.Decimal → integer_at level false i.presence bytes ≡ Ok (Value z, mid) → near z ≡ w
    → spelled_at level i.part i.kind i.presence bytes ≡ (w >>= λ x. mantissa_entity_at level mid >>= λ m. as_value (decimal_value x m.0) m.1)
unfolding decimal_spelled_at
whole_row level i bytes mid z w k h m = spelled_as level i.part i.kind i.presence bytes k ∙ rw h (whole_behind level mid z w m)

delta_row : (level : Level) (i : FieldPart) (e : Entry) (bytes mid : List ℕ) (z : ℤ) (w : Result ℤ FieldFault) → i.kind ≡ Kind.Decimal → integer_at level false i.presence bytes ≡ Ok (Value z, mid) → (delta_base i e >>= λ base. near (exponent_of base +ℤ z)) ≡ w
    → delta_at level i.kind i e bytes ≡ (w >>= behind level Operator.Delta i e mid)
unfolding decimal_delta_at
delta_row level i e bytes mid z w k h m = delta_as level i.kind i e bytes k ∙ rw h (delta_behind level (delta_base i e) mid z w m)

row_is : (level : Level) (o : Operator) (i : FieldPart) (e : Entry) (bytes mid : List ℕ) (z : ℤ) (w : Result ℤ FieldFault) → SendsNumber o → i.kind ≡ Kind.Decimal → integer_at level false i.presence bytes ≡ Ok (Value z, mid) → made_exponent o i e z ≡ w
    → row_at level o i e true bytes ≡ (w >>= behind level o i e mid)
unfolding row_at whole_at
row_is level Operator.Plain i e bytes mid z w o k h m = whole_row level i bytes mid z w k h m
row_is level Operator.Default i e bytes mid z w o k h m = whole_row level i bytes mid z w k h m
row_is level Operator.Copy i e bytes mid z w o k h m = whole_row level i bytes mid z w k h m
row_is level Operator.Increment i e bytes mid z w o k h m = whole_row level i bytes mid z w k h m
row_is level Operator.Delta i e bytes mid z w o k h m = delta_row level i e bytes mid z w k h m
row_is level o i e bytes mid z w s k h m = absurd s

-- the first entity alone
first_row : (level : Level) (o : Operator) (i : FieldPart) (e : Entry) (bytes : List ℕ) (f : FieldFault) → SendsNumber o → i.kind ≡ Kind.Decimal → integer_at level false i.presence bytes ≡ Err f → row_at level o i e true bytes ≡ Err f
unfolding row_at whole_at decimal_spelled_at decimal_delta_at
first_row level Operator.Plain i e bytes f o k h = spelled_as level i.part i.kind i.presence bytes k ∙ rw h refl
first_row level Operator.Default i e bytes f o k h = spelled_as level i.part i.kind i.presence bytes k ∙ rw h refl
first_row level Operator.Copy i e bytes f o k h = spelled_as level i.part i.kind i.presence bytes k ∙ rw h refl
first_row level Operator.Increment i e bytes f o k h = spelled_as level i.part i.kind i.presence bytes k ∙ rw h refl
first_row level Operator.Delta i e bytes f o k h = delta_as level i.kind i e bytes k ∙ rw h refl
first_row level o i e bytes f s k h = absurd s

null_row : (level : Level) (o : Operator) (i : FieldPart) (e : Entry) (bytes rest : List ℕ) → SendsNumber o → i.kind ≡ Kind.Decimal → integer_at level false i.presence bytes ≡ Ok (Null, rest) → row_at level o i e true bytes ≡ Ok (None, rest)
unfolding row_at whole_at decimal_spelled_at decimal_delta_at
null_row level Operator.Plain i e bytes rest o k h = spelled_as level i.part i.kind i.presence bytes k ∙ rw h refl
null_row level Operator.Default i e bytes rest o k h = spelled_as level i.part i.kind i.presence bytes k ∙ rw h refl
null_row level Operator.Copy i e bytes rest o k h = spelled_as level i.part i.kind i.presence bytes k ∙ rw h refl
null_row level Operator.Increment i e bytes rest o k h = spelled_as level i.part i.kind i.presence bytes k ∙ rw h refl
null_row level Operator.Delta i e bytes rest o k h = delta_as level i.kind i e bytes k ∙ rw h refl
null_row level o i e bytes rest s k h = absurd s

-- a decimal is no part of another field
whole_part : (pt : Part) (k : Kind) → IsKindOfPart pt k → k ≡ Kind.Decimal → pt ≡ Part.Whole
whole_part Part.Whole k h e = refl
whole_part Part.Exponent k h e = absurd (let both : Kind.Int32 ≡ Kind.Decimal = sym h ∙ e in cc)
whole_part Part.Mantissa k h e = absurd (let both : Kind.Int64 ≡ Kind.Decimal = sym h ∙ e in cc)
whole_part Part.Length k h e = absurd (let both : Kind.UInt32 ≡ Kind.Decimal = sym h ∙ e in cc)

within_whole : (pt : Part) (v : Scalar) → pt ≡ Part.Whole → IsWithin pt (Some v)
within_whole pt v h = rw h refl

pub within : (i : FieldPart) (v : Scalar) → IsKindOfPart i.part i.kind → i.kind ≡ Kind.Decimal → IsWithin i.part (Some v)
within i v is k = within_whole i.part v (whole_part i.part i.kind is k)

-- ---- what is read

pub first_fails : (level : Level) (i : FieldPart) (e : Entry) (bytes : List ℕ) (f : FieldFault) → SendsNumber i.operator → i.kind ≡ Kind.Decimal → integer_at level false i.presence bytes ≡ Err f → field_at level i e true bytes ≡ Err f
unfolding field_at
first_fails level i e bytes f o k h = rw (first_row level i.operator i e bytes f o k h) refl

pub null_read : (level : Level) (i : FieldPart) (e : Entry) (bytes rest : List ℕ) → SendsNumber i.operator → i.kind ≡ Kind.Decimal → integer_at level false i.presence bytes ≡ Ok (Null, rest) → field_at level i e true bytes ≡ Ok (None, rest)
unfolding field_at
null_read level i e bytes rest o k h = rw (null_row level i.operator i e bytes rest o k h, checked_is i.part None tt) refl

pub exponent_fails : (level : Level) (i : FieldPart) (e : Entry) (bytes mid : List ℕ) (z : ℤ) (f : FieldFault) → SendsNumber i.operator → i.kind ≡ Kind.Decimal → integer_at level false i.presence bytes ≡ Ok (Value z, mid) → made_exponent i.operator i e z ≡ Err f → field_at level i e true bytes ≡ Err f
unfolding field_at
exponent_fails level i e bytes mid z f o k h m = rw (row_is level i.operator i e bytes mid z (Err f) o k h m) refl

pub mantissa_fails : (level : Level) (i : FieldPart) (e : Entry) (bytes mid : List ℕ) (z x : ℤ) (f : FieldFault) → SendsNumber i.operator → i.kind ≡ Kind.Decimal → integer_at level false i.presence bytes ≡ Ok (Value z, mid) → made_exponent i.operator i e z ≡ Ok x → mantissa_entity_at level mid ≡ Err f
    → field_at level i e true bytes ≡ Err f
unfolding field_at
mantissa_fails level i e bytes mid z x f o k h m r = rw (row_is level i.operator i e bytes mid z (Ok x) o k h m, r) refl

pub decimal_fails : (level : Level) (i : FieldPart) (e : Entry) (bytes mid rest : List ℕ) (z x y : ℤ) (f : FieldFault) → SendsNumber i.operator → i.kind ≡ Kind.Decimal → integer_at level false i.presence bytes ≡ Ok (Value z, mid) → made_exponent i.operator i e z ≡ Ok x → mantissa_entity_at level mid ≡ Ok (y, rest)
    → made_decimal i.operator i e x y ≡ Err f → field_at level i e true bytes ≡ Err f
unfolding field_at
decimal_fails level i e bytes mid rest z x y f o k h m r d = rw (row_is level i.operator i e bytes mid z (Ok x) o k h m, r, d) refl

pub decimal_read : (level : Level) (i : FieldPart) (e : Entry) (bytes mid rest : List ℕ) (z x y : ℤ) (v : Scalar) → SendsNumber i.operator → i.kind ≡ Kind.Decimal → IsWithin i.part (Some v) → integer_at level false i.presence bytes ≡ Ok (Value z, mid) → made_exponent i.operator i e z ≡ Ok x → mantissa_entity_at level mid ≡ Ok (y, rest)
    → made_decimal i.operator i e x y ≡ Ok v → field_at level i e true bytes ≡ Ok (Some v, rest)
unfolding field_at
decimal_read level i e bytes mid rest z x y v o k is h m r d = rw (row_is level i.operator i e bytes mid z (Ok x) o k h m, r, d, checked_is i.part (Some v) is) refl

-- ---- its best form under bit 1

near_is : (z x : ℤ) → near z ≡ Ok x → (exponent_in_range z ≡ true) × (z ≡ x)
near_is z x h = if_ok (exponent_in_range z) z x FieldFault.R1 h

decimal_is : (x m : ℤ) (v : Scalar) → decimal_value x m ≡ Ok v → (in_range Kind.Int64 m ≡ true) × (Decimal x m ≡ v)
unfolding decimal_value
decimal_is x m v h = if_ok (in_range Kind.Int64 m) (Decimal x m) v FieldFault.R1 h

whole_first : (i : FieldPart) (z x y : ℤ) (v : Scalar) (b : List ℕ) → i.kind ≡ Kind.Decimal → near z ≡ Ok x → decimal_value x y ≡ Ok v → ShortestPair i.presence z y b → IsFirst (λ c b. (c ≡ uncut) × Spelled Usual i.kind i.presence b (Some v)) b
whole_first i z x y v b k n d s =
    let e = near_is z x n in
    let w = decimal_is x y v d in
    let is : v ≡ Decimal z y = sym w.1 ∙ ap (λ (a : ℤ). Decimal a y) (sym e.1) in
    rw is (whole_is_first i.kind i.presence (Some (Decimal z y)) b (whole_shortest i.kind i.presence (Decimal z y) b (of_type i.kind z y k e.0 w.0) s))

record OnBase (i : FieldPart) (e : Entry) (z x y : ℤ) (v : Scalar) : Type 0 where
  base : Scalar
  is : delta_base i e ≡ Ok base
  near_by : near (exponent_of base +ℤ z) ≡ Ok x
  value : decimal_value x (mantissa_of base +ℤ y) ≡ Ok v

on_base : (i : FieldPart) (e : Entry) (r : Result Scalar FieldFault) (z x y : ℤ) (v : Scalar) → delta_base i e ≡ r → (r >>= λ base. near (exponent_of base +ℤ z)) ≡ Ok x → (r >>= λ base. decimal_value x (mantissa_of base +ℤ y)) ≡ Ok v → OnBase i e z x y v
on_base i e (Ok base) z x y v is n d = record { base = base; is = is; near_by = n; value = d }
on_base i e (Err f) z x y v is n d = absurd cc

delta_first : (i : FieldPart) (e : Entry) (z x y : ℤ) (v : Scalar) (b : List ℕ) → i.kind ≡ Kind.Decimal → OnBase i e z x y v → ShortestPair i.presence z y b → IsFirst (λ c b. FormOf Usual Operator.Delta i e true c b (Some v)) b
delta_first i e z x y v b k o s =
    let base = o.base in
    let a = exponent_of base in
    let c = mantissa_of base in
    let n = near_is (a +ℤ z) x o.near_by in
    let w = decimal_is x (c +ℤ y) v o.value in
    let is : v ≡ Decimal (a +ℤ z) (c +ℤ y) = sym w.1 ∙ ap (λ (q : ℤ). Decimal q (c +ℤ y)) (sym n.1) in
    let one = subst (λ (q : ℤ). ShortestPair i.presence q y b) (added_back a z) s in
    let both = subst (λ (q : ℤ). ShortestPair i.presence ((a +ℤ z) -ℤ a) q b) (added_back c y) one in
    rw is (delta_is_first i e base (Decimal (a +ℤ z) (c +ℤ y)) b o.is (decimal_is_first i.kind i.presence base (Decimal (a +ℤ z) (c +ℤ y)) b k (of_type i.kind (a +ℤ z) (c +ℤ y) k n.0 w.0) both))

sent_first : (o : Operator) (i : FieldPart) (e : Entry) (z x y : ℤ) (v : Scalar) (b : List ℕ) → SendsNumber o → i.kind ≡ Kind.Decimal → made_exponent o i e z ≡ Ok x → made_decimal o i e x y ≡ Ok v → ShortestPair i.presence z y b
    → IsFirst (λ c b. FormOf Usual o i e true c b (Some v)) b
sent_first Operator.Plain i e z x y v b o k n d s = whole_first i z x y v b k n d s
sent_first Operator.Default i e z x y v b o k n d s = whole_first i z x y v b k n d s
sent_first Operator.Copy i e z x y v b o k n d s = whole_first i z x y v b k n d s
sent_first Operator.Increment i e z x y v b o k n d s = whole_first i z x y v b k n d s
sent_first Operator.Delta i e z x y v b o k n d s = delta_first i e z x y v b k (on_base i e (delta_base i e) z x y v refl n d) s
sent_first o i e z x y v b c k n d s = absurd c

pub decimal_judged : (given : Bool) (i : FieldPart) (e : Entry) (z x y : ℤ) (v : Scalar) (b : List ℕ) → SendsNumber i.operator → i.kind ≡ Kind.Decimal → IsWithin i.part (Some v) → made_exponent i.operator i e z ≡ Ok x → made_decimal i.operator i e x y ≡ Ok v → left_out_of i.operator i e (Some v) ≡ given
    → ShortestPair i.presence z y b → IsBest i e (not given) (under (not given) b) (Some v)
decimal_judged true i e z x y v b o k is n d out s = bit_zero_is_best i e (Some v) (record { row = left_out i.operator i e (Some v) out; within = is })
decimal_judged false i e z x y v b o k is n d out s = best_under_one i e (Some v) b is (sent_first i.operator i e z x y v b o k n d s) out

-- ---- what stands

pub mantissa_stands : (level : Level) (bytes : List ℕ) (at to : ℕ) (z : ℤ) → IsBytes (drop at bytes) → at ≤ to → to ≤ length bytes → mantissa_entity_at level (drop at bytes) ≡ Ok (z, drop to bytes) → SpellsIntegerUsually false Mandatory (slice_range bytes at to) (Value z)
mantissa_stands level bytes at to z fits le within h =
    usually level overlong_signed IsSigned (slice_range bytes at to) z (found_here (mantissa_entity_at level) (SpellsMantissa level) (mantissa_entities level) bytes at z to fits le within h).2

pub pair : (p : Presence) (z y : ℤ) (front back : List ℕ) → SpellsIntegerUsually false p front (Value z) → overlong_signed front ≡ false → SpellsIntegerUsually false Mandatory back (Value y) → overlong_signed back ≡ false → ShortestPair p z y (front ++ back)
pair p z y front back f short g less = record { front = front; back = back; parts = refl; first = shortest_signed p z front f short; second = shortest_signed Mandatory y back g less }

pub no_form : (given : Bool) (b c : List ℕ) → given ≡ true → under (not given) b ≡ under (not given) c
no_form given b c h = rw h refl

pub one_form : (bytes : List ℕ) (first middle second to : ℕ) → first ≤ middle → middle ≤ to → second ≡ middle → slice_range bytes first to ≡ slice_range bytes first middle ++ slice_range bytes second to
one_form bytes first middle second to le more is = rw is (range_split bytes first middle to le more)

-- ---- a decimal that was taken

-- how an answer tells a value and its best form
pub record Tells (i : FieldPart) (new : Entry) (bytes : List ℕ) (at to : ℕ) (given : Bool) (form : List ℕ) (a : Aside) (t : Took) (v : Option Scalar) : Type 0 where
  pub found : value_taken i new true bytes a t ≡ v
  pub place : place_of t ≡ to
  pub ahead : first_of at a t ≤ to
  pub bit : best_bit true a t ≡ not given
  pub best : best_form bytes at a t ≡ under (not given) form

pub null_took : (level : Level) (i : FieldPart) (old new : Entry) (bytes : List ℕ) (at first to : ℕ) (given : Bool) (a : Aside) (t : Took)
    → SendsNumber i.operator → i.kind ≡ Kind.Decimal → IsBytes (drop at bytes) → at ≤ to → to ≤ length bytes → integer_at level false i.presence (drop at bytes) ≡ Ok (Null, drop to bytes)
    → SpellsSame false (slice_range bytes at to) (slice_range bytes first to) → overlong_signed (slice_range bytes first to) ≡ false → left_out_of i.operator i old None ≡ given → new ≡ after i old None
    → is_there t a ≡ false → Tells i new bytes at to given (slice_range bytes first to) a t None → IsTook level i old new true bytes at a t
null_took level i old new bytes at first to given a t o k fits le within read same short out entry gone tells =
    let spelt = stands level false i.presence bytes at to Null fits le within read in
    let zero = same Mandatory (pos 0) (null_is_zero false i.presence (slice_range bytes at to) spelt) in
    record {
      place = rw (tells.place) (le, within);
      first = rw (tells.place) tells.ahead;
      read = λ more. rw (tells.found, tells.place) (field_goes level i old true (drop at bytes) None (drop to bytes) more (null_read level i old (drop at bytes) (drop to bytes) o k read));
      entry = rw (tells.found) entry;
      there = tells_absent (is_there t a) (value_taken i new true bytes a t) gone tells.found;
      best = rw (tells.bit, tells.best, tells.found) (null_judged given false i old (slice_range bytes first to) (null_optional false i.presence (slice_range bytes at to) spelt) out zero short);
    }

pub decimal_took : (level : Level) (i : FieldPart) (old new : Entry) (bytes : List ℕ) (at first mid second to : ℕ) (given : Bool) (z x y : ℤ) (v : Scalar) (a : Aside) (t : Took)
    → SendsNumber i.operator → i.kind ≡ Kind.Decimal → IsKindOfPart i.part i.kind → IsBytes (drop at bytes) → IsBytes (drop mid bytes) → at ≤ mid → mid ≤ to → to ≤ length bytes
    → integer_at level false i.presence (drop at bytes) ≡ Ok (Value z, drop mid bytes) → made_exponent i.operator i old z ≡ Ok x → mantissa_entity_at level (drop mid bytes) ≡ Ok (y, drop to bytes) → made_decimal i.operator i old x y ≡ Ok v
    → SpellsSame false (slice_range bytes at mid) (slice_range bytes first mid) → overlong_signed (slice_range bytes first mid) ≡ false → SpellsSame false (slice_range bytes mid to) (slice_range bytes second to) → overlong_signed (slice_range bytes second to) ≡ false
    → left_out_of i.operator i old (Some v) ≡ given → new ≡ after i old (Some v) → is_there t a ≡ true → Tells i new bytes at to given (slice_range bytes first mid ++ slice_range bytes second to) a t (Some v) → IsTook level i old new true bytes at a t
decimal_took level i old new bytes at first mid second to given z x y v a t o k part fits later le more within_to read n entity d same short other less out entry there tells =
    let is = within i v part k in
    let front = same i.presence z (stands level false i.presence bytes at mid (Value z) fits le (omega arith) read) in
    let back = other Mandatory y (mantissa_stands level bytes mid to y later more within_to entity) in
    record {
      place = rw (tells.place) (omega arith, within_to);
      first = rw (tells.place) tells.ahead;
      read = λ rest. rw (tells.found, tells.place) (field_goes level i old true (drop at bytes) (Some v) (drop to bytes) rest (decimal_read level i old (drop at bytes) (drop mid bytes) (drop to bytes) z x y v o k is read n entity d));
      entry = rw (tells.found) entry;
      there = tells_there (is_there t a) (value_taken i new true bytes a t) v there tells.found;
      best = rw (tells.bit, tells.best, tells.found) (decimal_judged given i old z x y v (slice_range bytes first mid ++ slice_range bytes second to) o k is n d out (pair i.presence z y (slice_range bytes first mid) (slice_range bytes second to) front short back less));
    }

pub decimal_kind : (o : Operator) (i : FieldPart) (e : Entry) (x y : ℤ) (v : Scalar) → i.kind ≡ Kind.Decimal → made_decimal o i e x y ≡ Ok v → IsTrue (is_of i.kind v)
decimal_kind Operator.Delta i e x y v k h = elim (delta_base i e) as (λ (r : Result Scalar FieldFault). (r >>= λ base. decimal_value x (mantissa_of base +ℤ y)) ≡ Ok v → IsTrue (is_of i.kind v))
    [ Ok base ↦ λ d. let w = decimal_is x (mantissa_of base +ℤ y) v d in rw (k, sym w.1) refl | Err f ↦ λ d. absurd cc ] h
decimal_kind o i e x y v k h = let w = decimal_is x y v h in rw (k, sym w.1) refl

pub decimal_numeric : (k : Kind) → k ≡ Kind.Decimal → IsNumeric k
decimal_numeric k h = rw h tt
