-- What integers rest on that were sent, at any level.
use Rattle.std.proofs.Common.{◌≡◌, ℕ, ◌≤◌, Bool, true, false, List, [], ◌∷◌, length, drop, slice_range, ◌+◌, Option, None, Some, Result, Ok, Err, refl, sym, ap, subst, ◌∙◌, not, ℤ, pos, ◌+ℤ◌, ◌-ℤ◌, IsTrue, arith}
use Rattle.fast_wire.proofs.FormSizes.{signed_sizes}
use Rattle.fast_wire.proofs.UnsignedForms.{entity_some}
use Rattle.fast_wire.specs.Integer.{IsSigned}
use Rattle.fast_wire.specs.Level.{AtLevel, overlong_signed}
use Rattle.fast_wire.specs.Nullable.{IsUnsignedNullable}
use Rattle.fast_wire.specs.Reader.{IsBytes}
use Rattle.fast_wire.specs.Reading.{◌>>=◌}
use Rattle.fast_wire.specs.Writing.{IsShortest}
use Rattle.fast_wire.specs.declared.level.Level.{Level}
use Rattle.fast_wire.specs.declared.level.Level.TheVariants.{Usual, Strict}
use Rattle.fast_wire.specs.declared.nullable.Nullable.{Nullable}
use Rattle.fast_wire.specs.declared.nullable.Nullable.TheVariants.{Null, Value}
use Rattle.fast_value.specs.Scalar.{in_range, is_integer, is_of, of_integer}
use Rattle.fast_value.specs.declared.kind.Kind.{Kind}
use Rattle.fast_value.specs.declared.kind.Operator.{Operator}
use Rattle.fast_value.specs.declared.kind.Part.{Part}
use Rattle.fast_value.specs.declared.kind.Presence.{Presence}
use Rattle.fast_value.specs.declared.kind.Presence.TheVariants.{Mandatory, Optional}
use Rattle.fast_value.specs.declared.scalar.Scalar.{Scalar}
use Rattle.fast_template.specs.declared.resolved.FieldPart.{FieldPart}
use Rattle.fast_dictionary.specs.declared.entry.Entry.{Entry}
use Rattle.fast_field.specs.Bases.{delta_base}
use Rattle.fast_field.specs.Best.{IsBest}
use Rattle.fast_field.specs.Chosen.{ShortestSigned}
unfoldable use Rattle.fast_field.specs.FieldReading.{delta_at, field_at, integer_at, integer_delta_at, integer_spelled_at, integer_sum, integer_value, part_checked, row_at, spelled_at, whole_at}
use Rattle.fast_field.specs.FieldReading.{as_value, range_fault, unless_null}
use Rattle.fast_field.specs.Fields.{FormOf, within_part}
use Rattle.fast_field.specs.Numbers.{IsNumber}
use Rattle.fast_field.specs.Planning.{left_out_of}
use Rattle.fast_field.specs.Deltas.{uncut}
use Rattle.fast_field.specs.Spelled.{Spelled, SpellsInteger, SpellsIntegerUsually, overlong_number}
use Rattle.fast_field.specs.Values.{integer_of, is_unsigned}
use Rattle.fast_field.specs.declared.fault.FieldFault.{FieldFault}
use Rattle.fast_field.proofs.BestDeltas.{IsFirst}
use Rattle.fast_field.proofs.BestForms.{bit_zero_is_best}
use Rattle.fast_field.proofs.BestValues.{best_under_one, delta_is_first, left_out, unsigned_null, whole_is_first}
use Rattle.fast_field.proofs.ChosenForms.{null_best, number_value}
use Rattle.fast_field.proofs.FieldForms.{checked_is}
use Rattle.fast_field.proofs.Passing.{number_back, of_type}
use Rattle.fast_field.proofs.ReadFields.{found_here}
use Rattle.fast_field.proofs.Shortest.{whole_shortest}
use Rattle.fast_field.proofs.SpelledForms.{if_ok, integer_forms}
use Rattle.fast_field.specs.AsUsual.{ReadsAsUsual}
use Rattle.fast_take.specs.Judged.{sent_unsigned, under}
use Rattle.fast_take.proofs.Needless.{behind_needless}
use Rattle.fast_take.proofs.Standing.{shortest_signed, shortest_unsigned, shortest_whole}
use Rattle.fast_take.proofs.NumberRelaying.{added_back}
use Rattle.fast_field.specs.Bases.{next as after}
use Rattle.std.specs.Option.{is_some}
use Rattle.fast_field.specs.Bases.{next_of}
use Rattle.fast_field.proofs.FieldsBehave.{field_goes}
use Rattle.fast_take.specs.Takes.{IsTook, best_bit, best_form, first_of, is_there, place_of, value_aside, value_taken, value_there}
use Rattle.fast_take.specs.declared.took.Unkept.{Unkept}
use Rattle.fast_take.specs.declared.took.Aside.{Aside}
use Rattle.fast_take.specs.declared.took.Took.{Took}
use Rattle.fast_take.specs.Sent.{IsNumeric, SendsNumber, made, valued}
use Rattle.fast_take.specs.Numbers.{SpellsWhole}

-- ---- the row of a field

spelled_as : (level : Level) (pt : Part) (k : Kind) (p : Presence) (bytes : List ℕ) → IsTrue (is_integer k) → spelled_at level pt k p bytes ≡ integer_spelled_at level pt k p bytes
unfolding spelled_at
spelled_as level pt Kind.UInt32 p bytes h = refl
spelled_as level pt Kind.Int32 p bytes h = refl
spelled_as level pt Kind.UInt64 p bytes h = refl
spelled_as level pt Kind.Int64 p bytes h = refl
spelled_as level pt k p bytes h = absurd cc

delta_as : (level : Level) (k : Kind) (i : FieldPart) (e : Entry) (bytes : List ℕ) → IsTrue (is_integer k) → delta_at level k i e bytes ≡ integer_delta_at level i e bytes
unfolding delta_at
delta_as level Kind.UInt32 i e bytes h = refl
delta_as level Kind.Int32 i e bytes h = refl
delta_as level Kind.UInt64 i e bytes h = refl
delta_as level Kind.Int64 i e bytes h = refl
delta_as level k i e bytes h = absurd cc

-- a number is read, and a value made of it
abbrev sent_at : (level : Level) → Operator → FieldPart → Entry → List ℕ → Result (Option Scalar × List ℕ) FieldFault
sent_at level o i e bytes = integer_at level (sent_unsigned o i.kind) i.presence bytes >>= λ x. unless_null x (λ z. as_value (made o i e z))

row_is : (level : Level) (o : Operator) (i : FieldPart) (e : Entry) (bytes : List ℕ) → SendsNumber o → IsTrue (is_integer i.kind) → row_at level o i e true bytes ≡ sent_at level o i e bytes
unfolding row_at whole_at integer_spelled_at integer_delta_at
row_is level Operator.Plain i e bytes o h = spelled_as level i.part i.kind i.presence bytes h
row_is level Operator.Default i e bytes o h = spelled_as level i.part i.kind i.presence bytes h
row_is level Operator.Copy i e bytes o h = spelled_as level i.part i.kind i.presence bytes h
row_is level Operator.Increment i e bytes o h = spelled_as level i.part i.kind i.presence bytes h
row_is level Operator.Delta i e bytes o h = delta_as level i.kind i e bytes h
row_is level o i e bytes s h = absurd s

pub sent_fails : (level : Level) (i : FieldPart) (e : Entry) (bytes : List ℕ) (f : FieldFault) → SendsNumber i.operator → IsTrue (is_integer i.kind) → integer_at level (sent_unsigned i.operator i.kind) i.presence bytes ≡ Err f → field_at level i e true bytes ≡ Err f
unfolding field_at
sent_fails level i e bytes f o is h = rw (row_is level i.operator i e bytes o is, h) refl

pub null_read : (level : Level) (i : FieldPart) (e : Entry) (bytes rest : List ℕ) → SendsNumber i.operator → IsTrue (is_integer i.kind) → integer_at level (sent_unsigned i.operator i.kind) i.presence bytes ≡ Ok (Null, rest) → field_at level i e true bytes ≡ Ok (None, rest)
unfolding field_at
null_read level i e bytes rest o is h = rw (row_is level i.operator i e bytes o is, h, checked_is i.part None tt) refl

abbrev before : List ℕ → Option Scalar → Result (Option Scalar × List ℕ) FieldFault
before rest v = Ok (v, rest)

joined : (r : Result Scalar FieldFault) (pt : Part) (rest : List ℕ) (w : Result (Option Scalar) FieldFault) → (r >>= λ v. part_checked pt (Some v)) ≡ w → (as_value r rest >>= λ x. part_checked pt x.0 >>= before x.1) ≡ (w >>= before rest)
joined (Ok v) pt rest w h = rw h refl
joined (Err f) pt rest w h = rw (sym h) refl

value_row : (level : Level) (i : FieldPart) (e : Entry) (bytes rest : List ℕ) (z : ℤ) (w : Result (Option Scalar) FieldFault) → SendsNumber i.operator → IsTrue (is_integer i.kind) → integer_at level (sent_unsigned i.operator i.kind) i.presence bytes ≡ Ok (Value z, rest)
    → valued i.operator i e z ≡ w → field_at level i e true bytes ≡ (w >>= before rest)
unfolding field_at
value_row level i e bytes rest z w o is h m = rw (row_is level i.operator i e bytes o is, h) (joined (made i.operator i e z) i.part rest w m)

pub value_read : (level : Level) (i : FieldPart) (e : Entry) (bytes rest : List ℕ) (z : ℤ) (v : Scalar) → SendsNumber i.operator → IsTrue (is_integer i.kind) → integer_at level (sent_unsigned i.operator i.kind) i.presence bytes ≡ Ok (Value z, rest)
    → valued i.operator i e z ≡ Ok (Some v) → field_at level i e true bytes ≡ Ok (Some v, rest)
value_read level i e bytes rest z v o is h m = value_row level i e bytes rest z (Ok (Some v)) o is h m

pub value_fails : (level : Level) (i : FieldPart) (e : Entry) (bytes rest : List ℕ) (z : ℤ) (f : FieldFault) → SendsNumber i.operator → IsTrue (is_integer i.kind) → integer_at level (sent_unsigned i.operator i.kind) i.presence bytes ≡ Ok (Value z, rest)
    → valued i.operator i e z ≡ Err f → field_at level i e true bytes ≡ Err f
value_fails level i e bytes rest z f o is h m = value_row level i e bytes rest z (Err f) o is h m

-- ---- what was made

of_value : (i : FieldPart) (z : ℤ) (v : Scalar) → IsTrue (is_integer i.kind) → integer_value i.part i.kind z ≡ Ok v → IsNumber i.kind z × (v ≡ of_integer i.kind z)
unfolding integer_value
of_value i z v is h = let w = if_ok (in_range i.kind z) (of_integer i.kind z) v (range_fault i.part) h in (record { integer = is; range = w.0 }, sym w.1)

of_base : (i : FieldPart) (r : Result Scalar FieldFault) (z : ℤ) (v : Scalar) → (r >>= λ base. integer_value i.part i.kind (integer_of base +ℤ z)) ≡ Ok v → (base : Scalar) × (r ≡ Ok base) × (integer_value i.part i.kind (integer_of base +ℤ z) ≡ Ok v)
of_base i (Ok base) z v h = (base, refl, h)
of_base i (Err f) z v h = absurd cc

of_sum : (i : FieldPart) (e : Entry) (z : ℤ) (v : Scalar) → integer_sum i e z ≡ Ok v → (base : Scalar) × (delta_base i e ≡ Ok base) × (integer_value i.part i.kind (integer_of base +ℤ z) ≡ Ok v)
unfolding integer_sum
of_sum i e z v h = of_base i (delta_base i e) z v h

pub made_kind : (o : Operator) (i : FieldPart) (e : Entry) (z : ℤ) (v : Scalar) → SendsNumber o → IsTrue (is_integer i.kind) → made o i e z ≡ Ok v → IsTrue (is_of i.kind v)
made_kind Operator.Plain i e z v s is h = let n = of_value i z v is h in rw (n.1) (of_type i.kind z n.0).0
made_kind Operator.Default i e z v s is h = let n = of_value i z v is h in rw (n.1) (of_type i.kind z n.0).0
made_kind Operator.Copy i e z v s is h = let n = of_value i z v is h in rw (n.1) (of_type i.kind z n.0).0
made_kind Operator.Increment i e z v s is h = let n = of_value i z v is h in rw (n.1) (of_type i.kind z n.0).0
made_kind Operator.Delta i e z v s is h = let m = of_sum i e z v h in let y = integer_of m.0 +ℤ z in let n = of_value i y v is m.2 in rw (n.1) (of_type i.kind y n.0).0
made_kind o i e z v s is h = absurd s

pub integer_numeric : (k : Kind) → IsTrue (is_integer k) → IsNumeric k
integer_numeric Kind.UInt32 h = tt
integer_numeric Kind.Int32 h = tt
integer_numeric Kind.UInt64 h = tt
integer_numeric Kind.Int64 h = tt
integer_numeric k h = absurd cc

-- ---- its best form under bit 1

delta_first : (i : FieldPart) (e : Entry) (z : ℤ) (v : Scalar) (b : List ℕ) → IsTrue (is_integer i.kind) → integer_sum i e z ≡ Ok v → SpellsIntegerUsually false i.presence b (Value z) → overlong_signed b ≡ false → IsFirst (λ c b. FormOf Usual Operator.Delta i e true c b (Some v)) b
delta_first i e z v b is h f short =
    let s = of_sum i e z v h in
    let base = s.0 in
    let n = of_value i (integer_of base +ℤ z) v is s.2 in
    let back : integer_of v ≡ integer_of base +ℤ z = ap integer_of n.1 ∙ number_back i.kind (integer_of base +ℤ z) n.0 in
    let apart : z ≡ integer_of v -ℤ integer_of base = rw back (added_back (integer_of base) z) in
    delta_is_first i e base v b s.1 (number_value i.kind i.presence base v b is (rw (n.1) (of_type i.kind (integer_of base +ℤ z) n.0)) (subst (λ (x : ℤ). ShortestSigned i.presence x b) apart (shortest_signed i.presence z b f short)))

whole_first : (i : FieldPart) (z : ℤ) (v : Scalar) (b : List ℕ) → IsTrue (is_integer i.kind) → integer_value i.part i.kind z ≡ Ok v → SpellsIntegerUsually (is_unsigned i.kind) i.presence b (Value z) → overlong_number (is_unsigned i.kind) b ≡ false
    → IsFirst (λ c b. (c ≡ uncut) × Spelled Usual i.kind i.presence b (Some v)) b
whole_first i z v b is h f short =
    let n = of_value i z v is h in
    let l = of_type i.kind z n.0 in
    rw (n.1) (whole_is_first i.kind i.presence (Some (of_integer i.kind z)) b (whole_shortest i.kind i.presence (of_integer i.kind z) b l (shortest_whole i.kind i.presence z b is f short)))

sent_first : (o : Operator) (i : FieldPart) (e : Entry) (z : ℤ) (v : Scalar) (b : List ℕ) → SendsNumber o → IsTrue (is_integer i.kind) → made o i e z ≡ Ok v → SpellsIntegerUsually (sent_unsigned o i.kind) i.presence b (Value z) → overlong_number (sent_unsigned o i.kind) b ≡ false
    → IsFirst (λ c b. FormOf Usual o i e true c b (Some v)) b
sent_first Operator.Plain i e z v b o is h f short = whole_first i z v b is h f short
sent_first Operator.Default i e z v b o is h f short = whole_first i z v b is h f short
sent_first Operator.Copy i e z v b o is h f short = whole_first i z v b is h f short
sent_first Operator.Increment i e z v b o is h f short = whole_first i z v b is h f short
sent_first Operator.Delta i e z v b o is h f short = delta_first i e z v b is h f short
sent_first o i e z v b s is h f short = absurd s

within_of : (pt : Part) (v : Scalar) → part_checked pt (Some v) ≡ Ok (Some v) → IsTrue (within_part pt v)
unfolding part_checked
within_of Part.Exponent v h = (if_ok (within_part Part.Exponent v) (Some v) (Some v) FieldFault.R1 h).0
within_of Part.Length v h = (if_ok (within_part Part.Length v) (Some v) (Some v) FieldFault.Limit h).0
within_of pt v h = refl

checked_of : (o : Operator) (i : FieldPart) (e : Entry) (z : ℤ) (v : Scalar) → made o i e z ≡ Ok v → valued o i e z ≡ Ok (Some v) → part_checked i.part (Some v) ≡ Ok (Some v)
checked_of o i e z v m h = rw m at h

-- the best form of a value that was sent: what is needed of it, or bit 0
pub value_judged : (given : Bool) (i : FieldPart) (e : Entry) (z : ℤ) (v : Scalar) (b : List ℕ) → SendsNumber i.operator → IsTrue (is_integer i.kind) → made i.operator i e z ≡ Ok v → valued i.operator i e z ≡ Ok (Some v) → left_out_of i.operator i e (Some v) ≡ given
    → SpellsIntegerUsually (sent_unsigned i.operator i.kind) i.presence b (Value z) → overlong_number (sent_unsigned i.operator i.kind) b ≡ false → IsBest i e (not given) (under (not given) b) (Some v)
value_judged true i e z v b o is m h out f short = bit_zero_is_best i e (Some v) (record { row = left_out i.operator i e (Some v) out; within = within_of i.part v (checked_of i.operator i e z v m h) })
value_judged false i e z v b o is m h out f short = best_under_one i e (Some v) b (within_of i.part v (checked_of i.operator i e z v m h)) (sent_first i.operator i e z v b o is m f short) out

-- ---- NULL

pub null_optional : (u : Bool) (p : Presence) (b : List ℕ) → SpellsIntegerUsually u p b Null → p ≡ Optional
null_optional u Optional b f = refl
null_optional true Mandatory b f = absurd f
null_optional false Mandatory b f = absurd f

-- it is spelled as the number 0 of a field that is always there
pub null_is_zero : (u : Bool) (p : Presence) (b : List ℕ) → SpellsIntegerUsually u p b Null → SpellsIntegerUsually u Mandatory b (Value (pos 0))
null_is_zero true Optional b f = f
null_is_zero false Optional b f = f
null_is_zero true Mandatory b f = absurd f
null_is_zero false Mandatory b f = absurd f

signed_zero : IsSigned (128 ∷ []) (pos 0)
signed_zero = record { entity = (omega arith, omega arith); short = omega arith; value = refl }

null_shortest : (u : Bool) (b : List ℕ) → SpellsIntegerUsually u Mandatory b (Value (pos 0)) → overlong_number u b ≡ false → IsShortest IsUnsignedNullable b Null
null_shortest true b f short = let s = shortest_unsigned Mandatory 0 b f short in record { form = s.form; least = s.least }
null_shortest false b f short =
    let s = shortest_signed Mandatory (pos 0) b f short in
    let most = s.least (128 ∷ []) signed_zero in
    let some = entity_some b s.form.entity in
    let one : b ≡ 128 ∷ [] = signed_sizes.one b (128 ∷ []) (pos 0) s.form signed_zero (omega (arith, most, some)) in
    subst (λ (x : List ℕ). IsShortest IsUnsignedNullable x Null) (sym one) (record { form = unsigned_null; least = λ o h. entity_some o h.entity })

pub null_judged : (given : Bool) (u : Bool) (i : FieldPart) (e : Entry) (b : List ℕ) → i.presence ≡ Optional → left_out_of i.operator i e None ≡ given → SpellsIntegerUsually u Mandatory b (Value (pos 0)) → overlong_number u b ≡ false
    → IsBest i e (not given) (under (not given) b) None
null_judged true u i e b optional out f short = bit_zero_is_best i e None (record { row = left_out i.operator i e None out; within = tt })
null_judged false u i e b optional out f short = null_best i e None refl (rw optional refl) out b (null_shortest u b f short)

-- ---- what stands

pub usually : {V : Type 0} (level : Level) (overlong : List ℕ → Bool) (Form : List ℕ → V → Type 0) (b : List ℕ) (v : V) → AtLevel level overlong Form b v → Form b v
usually Usual overlong Form b v h = h
usually Strict overlong Form b v h = h.1

pub stands : (level : Level) (u : Bool) (p : Presence) (bytes : List ℕ) (at next : ℕ) (z : Nullable ℤ) → IsBytes (drop at bytes) → at ≤ next → next ≤ length bytes → integer_at level u p (drop at bytes) ≡ Ok (z, drop next bytes) → SpellsIntegerUsually u p (slice_range bytes at next) z
stands level u p bytes at next z fits le within h =
    usually level (overlong_number u) (SpellsIntegerUsually u p) (slice_range bytes at next) z (found_here (integer_at level u p) (SpellsInteger level u p) (integer_forms level u p) bytes at z next fits le within h).2

-- what is needed of it spells the same
abbrev pub SpellsSame : Bool → List ℕ → List ℕ → Type 0
SpellsSame u b c = (p : Presence) (z : ℤ) → SpellsIntegerUsually u p b (Value z) → SpellsIntegerUsually u p c (Value z)

pub one_less : (u : Bool) (bytes : List ℕ) (at first next : ℕ) → overlong_number u (slice_range bytes first next) ≡ true → SpellsSame u (slice_range bytes at next) (slice_range bytes first next) → SpellsSame u (slice_range bytes at next) (slice_range bytes (first + 1) next)
one_less u bytes at first next long same p z f = (behind_needless u p bytes first next z (same p z f) long).1

pub one_further : (u : Bool) (bytes : List ℕ) (first next : ℕ) (p : Presence) (z : ℤ) → SpellsIntegerUsually u p (slice_range bytes first next) (Value z) → overlong_number u (slice_range bytes first next) ≡ true → first + 2 ≤ next
one_further u bytes first next p z f long = (behind_needless u p bytes first next z f long).0

-- ---- a number that was taken

-- under bit 1 something is sent
abbrev pub Sends : Operator → Type 0
Sends Operator.Constant = ⊥
Sends o = Unit {0}

pub number_sent : (o : Operator) → SendsNumber o → Sends o
number_sent Operator.Constant h = h
number_sent o h = tt

pub whole_sent : (o : Operator) → SpellsWhole o → Sends o
whole_sent Operator.Constant h = h
whole_sent o h = tt

-- the value lies where its operator says
sent_there : (o : Operator) (i : FieldPart) (old new : Entry) (bytes : List ℕ) (u : Unkept) (v : Scalar) → Sends o → value_aside i.kind bytes u ≡ v → new ≡ next_of o old (Some v) → value_there o i new true u bytes ≡ Some v
sent_there Operator.Plain i old new bytes u v s aside entry = ap (λ (w : Scalar). Some w) aside
sent_there Operator.Default i old new bytes u v s aside entry = ap (λ (w : Scalar). Some w) aside
sent_there Operator.Copy i old new bytes u v s aside entry = rw entry refl
sent_there Operator.Increment i old new bytes u v s aside entry = rw entry refl
sent_there Operator.Delta i old new bytes u v s aside entry = rw entry refl
sent_there Operator.Tail i old new bytes u v s aside entry = rw entry refl
sent_there Operator.Constant i old new bytes u v s aside entry = absurd s

pub value_is : (i : FieldPart) (old new : Entry) (bytes : List ℕ) (a : Aside) (t : Took) (u : Unkept) (v : Scalar) → Sends i.operator → is_there t a ≡ true → a.unkept ≡ u → value_aside i.kind bytes u ≡ v → new ≡ after i old (Some v) → value_taken i new true bytes a t ≡ Some v
value_is i old new bytes a t u v s there same aside entry = rw (there, same) (sent_there i.operator i old new bytes u v s aside entry)

pub none_is : (i : FieldPart) (new : Entry) (bit : Bool) (bytes : List ℕ) (a : Aside) (t : Took) → is_there t a ≡ false → value_taken i new bit bytes a t ≡ None
none_is i new bit bytes a t there = rw there refl

pub tells_there : (b : Bool) (o : Option Scalar) (v : Scalar) → b ≡ true → o ≡ Some v → is_some o ≡ b
tells_there b o v h e = rw (h, e) refl

pub tells_absent : (b : Bool) (o : Option Scalar) → b ≡ false → o ≡ None → is_some o ≡ b
tells_absent b o h e = rw (h, e) refl

-- how an answer tells a value and its best form
pub record Tells (i : FieldPart) (new : Entry) (bytes : List ℕ) (at first to : ℕ) (given : Bool) (a : Aside) (t : Took) (v : Option Scalar) : Type 0 where
  pub found : value_taken i new true bytes a t ≡ v
  pub place : place_of t ≡ to
  pub ahead : first_of at a t ≤ to
  pub bit : best_bit true a t ≡ not given
  pub form : best_form bytes at a t ≡ under (not given) (slice_range bytes first to)

pub value_took : (level : Level) (i : FieldPart) (old new : Entry) (bytes : List ℕ) (at first to : ℕ) (u given : Bool) (z : ℤ) (v : Scalar) (a : Aside) (t : Took)
    → SendsNumber i.operator → IsTrue (is_integer i.kind) → u ≡ sent_unsigned i.operator i.kind → IsBytes (drop at bytes) → at ≤ to → to ≤ length bytes → integer_at level u i.presence (drop at bytes) ≡ Ok (Value z, drop to bytes)
    → SpellsSame u (slice_range bytes at to) (slice_range bytes first to) → overlong_number u (slice_range bytes first to) ≡ false
    → made i.operator i old z ≡ Ok v → valued i.operator i old z ≡ Ok (Some v) → left_out_of i.operator i old (Some v) ≡ given → new ≡ after i old (Some v)
    → is_there t a ≡ true → Tells i new bytes at first to given a t (Some v) → IsTook level i old new true bytes at a t
value_took level i old new bytes at first to u given z v a t o is sign fits le within read same short m h out entry there tells =
    let sent = rw sign at read in
    let form = rw sign at (same i.presence z (stands level u i.presence bytes at to (Value z) fits le within read)) in
    record {
      place = rw (tells.place) (le, within);
      first = rw (tells.place) tells.ahead;
      read = λ more. rw (tells.found, tells.place) (field_goes level i old true (drop at bytes) (Some v) (drop to bytes) more (value_read level i old (drop at bytes) (drop to bytes) z v o is sent h));
      entry = rw (tells.found) entry;
      there = tells_there (is_there t a) (value_taken i new true bytes a t) v there tells.found;
      best = rw (tells.bit, tells.form, tells.found) (value_judged given i old z v (slice_range bytes first to) o is m h out form (rw sign at short));
    }

pub null_took : (level : Level) (i : FieldPart) (old new : Entry) (bytes : List ℕ) (at first to : ℕ) (u given : Bool) (a : Aside) (t : Took)
    → SendsNumber i.operator → IsTrue (is_integer i.kind) → u ≡ sent_unsigned i.operator i.kind → IsBytes (drop at bytes) → at ≤ to → to ≤ length bytes → integer_at level u i.presence (drop at bytes) ≡ Ok (Null, drop to bytes)
    → SpellsSame u (slice_range bytes at to) (slice_range bytes first to) → overlong_number u (slice_range bytes first to) ≡ false
    → left_out_of i.operator i old None ≡ given → new ≡ after i old None
    → is_there t a ≡ false → Tells i new bytes at first to given a t None → IsTook level i old new true bytes at a t
null_took level i old new bytes at first to u given a t o is sign fits le within read same short out entry gone tells =
    let sent = rw sign at read in
    let spelt = stands level u i.presence bytes at to Null fits le within read in
    let zero = same Mandatory (pos 0) (null_is_zero u i.presence (slice_range bytes at to) spelt) in
    record {
      place = rw (tells.place) (le, within);
      first = rw (tells.place) tells.ahead;
      read = λ more. rw (tells.found, tells.place) (field_goes level i old true (drop at bytes) None (drop to bytes) more (null_read level i old (drop at bytes) (drop to bytes) o is sent));
      entry = rw (tells.found) entry;
      there = tells_absent (is_there t a) (value_taken i new true bytes a t) gone tells.found;
      best = rw (tells.bit, tells.form, tells.found) (null_judged given u i old (slice_range bytes first to) (null_optional u i.presence (slice_range bytes at to) spelt) out zero short);
    }

-- whatever was read is spelled as a number
pub spelt_so : (level : Level) (u : Bool) (p : Presence) (bytes : List ℕ) (at to : ℕ) (z : Nullable ℤ) → IsBytes (drop at bytes) → at ≤ to → to ≤ length bytes → integer_at level u p (drop at bytes) ≡ Ok (z, drop to bytes)
    → (q : Presence) × (x : ℤ) × SpellsIntegerUsually u q (slice_range bytes at to) (Value x)
spelt_so level u p bytes at to Null fits le within h = (Mandatory, pos 0, null_is_zero u p (slice_range bytes at to) (stands level u p bytes at to Null fits le within h))
spelt_so level u p bytes at to (Value z) fits le within h = (p, z, stands level u p bytes at to (Value z) fits le within h)

-- ---- where a level reads as the usual one

pub usually_took : {level : Level} {i : FieldPart} {old new : Entry} {bytes : List ℕ} {at : ℕ} {a : Aside} {t : Took} → ReadsAsUsual level i (drop at bytes) → IsTook Usual i old new true bytes at a t → IsTook level i old new true bytes at a t
usually_took {old = old} usual h = record {
  place = h.place;
  first = h.first;
  read = λ more. usual old more ∙ h.read more;
  entry = h.entry;
  there = h.there;
  best = h.best;
}
