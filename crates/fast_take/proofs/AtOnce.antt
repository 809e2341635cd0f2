-- What is judged as it stands was taken.
use Rattle.std.proofs.Common.{◌≡◌, ◌≢◌, ℕ, ◌≤◌, Bool, true, false, List, [], ◌++◌, length, drop, slice_range, Option, None, Some, Result, Ok, refl, sym, ap, ◌∙◌, arith, ℤ, append-nil, IfSome, MatchOption}
use Rattle.std.specs.Option.{is_some}
use Rattle.fast_wire.specs.declared.level.Level.{Level}
use Rattle.fast_wire.specs.declared.level.Level.TheVariants.{Usual}
use Rattle.fast_wire.proofs.Readers.{ok_is}
use Rattle.fast_value.specs.Scalar.{is_integer, of_integer}
use Rattle.fast_value.specs.declared.kind.Part.{Part}
use Rattle.fast_value.specs.declared.scalar.Scalar.TheVariants.{Ascii}
use Rattle.fast_wire.specs.Entity.{groups}
use Rattle.fast_wire.specs.Plain.{IsPlain}
use Rattle.fast_value.specs.declared.kind.Kind.{Kind}
use Rattle.fast_value.specs.declared.kind.Operator.{Operator}
use Rattle.fast_value.specs.declared.scalar.Scalar.{Scalar}
use Rattle.fast_template.specs.declared.resolved.FieldPart.{FieldPart}
use Rattle.fast_dictionary.specs.declared.entry.Entry.{Entry}
use Rattle.fast_field.specs.AsUsual.{ReadsAsUsual}
unfoldable use Rattle.fast_field.specs.FieldReading.{field_at, row_at}
use Rattle.fast_field.specs.Numbers.{IsFieldNumber}
use Rattle.fast_field.specs.Parts.{IsBitOf, IsKindOfPart}
use Rattle.fast_field.specs.Passed.{Passes}
use Rattle.fast_field.specs.Values.{is_unsigned}
use Rattle.fast_field.specs.declared.fault.FieldFault.{FieldFault}
use Rattle.fast_take.specs.Judged.{IsJudged, JudgedTo, sent_unsigned}
use Rattle.fast_take.specs.Numbers.{KeepsNothing, Spelt}
use Rattle.fast_take.specs.Best.{HasBest, form_of}
use Rattle.fast_take.specs.Relayed.{IsThere, Takes}
use Rattle.fast_take.specs.declared.best.Best.{Best}
use Rattle.fast_take.specs.declared.judged.Judged.{Judged}
use Rattle.fast_take.specs.declared.judged.Judged.TheVariants.{Stands as judged_stands, Behind, BehindTwo, Given as judged_given, Elsewhere}
use Rattle.fast_take.proofs.NumberRelaying.{number_aside}
use Rattle.fast_take.proofs.TextTaking.{aside_takes}
use Rattle.fast_take.specs.LaidAside.{IfJudged, LaysAside}
use Rattle.fast_take.specs.Takes.{IsTakenAs, IsTook, LiesAside, best_bit, best_form, first_of, is_there, place_of, value_aside}
use Rattle.fast_take.specs.declared.took.Aside.{Aside}
use Rattle.fast_take.specs.declared.took.Took.{Took}
use Rattle.fast_take.specs.declared.took.Took.TheVariants.{Stands, Absent}
use Rattle.fast_take.specs.declared.took.Unkept.{Unkept}
use Rattle.fast_take.specs.declared.took.Unkept.TheVariants.{Units}
use Rattle.fast_take.proofs.Generally.{generally_took, none_between}
use Rattle.fast_take.proofs.TakenIntegers.{usually_took}

-- ---- bit 0

passed : (level : Level) (i : FieldPart) (old new : Entry) (bytes : List ℕ) (at : ℕ) (a : Aside) (t : Took) (v : Option Scalar) → at ≤ length bytes → IsBitOf i false → Passes i old new v → place_of t ≡ at → first_of at a t ≤ at → is_there t a ≡ is_some v → best_bit false a t ≡ false → best_form bytes at a t ≡ slice_range bytes at at
    → IsTook level i old new false bytes at a t
passed level i old new bytes at a t v within needs h place ahead there bit form =
    generally_took level i old new false bytes at at a t v (omega arith, within) place ahead needs (h.read level (drop at bytes)) (λ more. h.read level (drop at bytes ++ more)) h.entry there (λ w is sent. absurd cc) (rw (bit, form) (none_between i old bytes at v h.best))

pub present_took : (level : Level) (i : FieldPart) (old new : Entry) (bytes : List ℕ) (at : ℕ) (a : Aside) (v : Scalar) → at ≤ length bytes → IsBitOf i false → Passes i old new (Some v) → IsTook level i old new false bytes at a (Stands at)
present_took level i old new bytes at a v within needs h = passed level i old new bytes at a (Stands at) (Some v) within needs h refl (omega arith) refl refl refl

pub absent_took : (level : Level) (i : FieldPart) (old new : Entry) (bytes : List ℕ) (at : ℕ) (a : Aside) → at ≤ length bytes → IsBitOf i false → Passes i old new None → IsTook level i old new false bytes at a (Absent at)
absent_took level i old new bytes at a within needs h = passed level i old new bytes at a (Absent at) None within needs h refl (omega arith) refl refl refl

-- ---- what was read is read in one way

abbrev ends : Option Scalar → List ℕ → Result (Option Scalar × List ℕ) FieldFault
ends v bytes = Ok (v, bytes)

pub here : (i : FieldPart) (e : Entry) (bytes rest : List ℕ) (v : Option Scalar) → ((more : List ℕ) → field_at Usual i e true (bytes ++ more) ≡ Ok (v, rest ++ more)) → field_at Usual i e true bytes ≡ Ok (v, rest)
here i e bytes rest v h = rw (append-nil bytes, append-nil rest) at (h [])

same : (i : FieldPart) (e : Entry) (bytes rest other : List ℕ) (v w : Scalar) → field_at Usual i e true bytes ≡ Ok (Some v, rest) → field_at Usual i e true bytes ≡ Ok (Some w, other) → v ≡ w
same i e bytes rest other v w h g =
    let both : ends (Some v) rest ≡ ends (Some w) other = sym h ∙ g in
    let one = ok_is {F = FieldFault} (Some v, rest) (Some w, other) both in
    let value : Some v ≡ Some w = ap (λ (x : Option Scalar × List ℕ). x.0) one in cc

-- ---- what lies aside

pub if_judged : (j : Judged) (p : Type 0) → p → IfJudged j p
if_judged Elsewhere p h = tt
if_judged (judged_stands n) p h = h
if_judged (judged_given n) p h = h
if_judged (Behind n) p h = h
if_judged (BehindTwo n) p h = h

keeps_sign : (o : Operator) (k : Kind) → KeepsNothing o → sent_unsigned o k ≡ is_unsigned k
keeps_sign Operator.Plain k h = refl
keeps_sign Operator.Default k h = refl
keeps_sign o k h = absurd h

pub number_lays : (k : Kind) (i : FieldPart) (e : Entry) (z : ℤ) (bytes : List ℕ) (at to : ℕ) (u : Unkept) → k ≡ i.kind → Spelt (sent_unsigned i.operator k) i.presence (drop at bytes) z (drop to bytes)
    → (KeepsNothing i.operator → IsFieldNumber k i.part z × ((m : Kind) (b : List ℕ) → value_aside m b u ≡ of_integer k z)) → LaysAside i e bytes at u
number_lays k i e z bytes at to u is read h = λ v rest found keeps.
    let n = h keeps in
    let t = number_aside k i e z (drop at bytes) (drop to bytes) is keeps n.0 (rw (keeps_sign i.operator k keeps) at read) in
    n.1 i.kind bytes ∙ sym (same i e (drop at bytes) rest (drop to bytes) v (of_integer k z) found (here i e (drop at bytes) (drop to bytes) (Some (of_integer k z)) t.read))

pub kept_lays : (i : FieldPart) (e : Entry) (bytes : List ℕ) (at : ℕ) (u : Unkept) → (KeepsNothing i.operator → ⊥) → LaysAside i e bytes at u
kept_lays i e bytes at u kept = λ v rest found keeps. absurd (kept keeps)

pub text_lays : (i : FieldPart) (e : Entry) (bytes : List ℕ) (at first to : ℕ) → i.kind ≡ Kind.Ascii → i.part ≡ Part.Whole → IsPlain (drop at bytes) (slice_range bytes first to) (drop to bytes) → LaysAside i e bytes at (Units (record { start = first; end = to }))
text_lays i e bytes at first to is whole plain = λ v rest found keeps.
    let text = Ascii (groups (slice_range bytes first to)) in
    let t : Takes i e e text (drop at bytes) (drop to bytes) = aside_takes is whole keeps plain in
    let lies : value_aside i.kind bytes (Units (record { start = first; end = to })) ≡ text = rw is refl in
    lies ∙ sym (same i e (drop at bytes) rest (drop to bytes) v text found (here i e (drop at bytes) (drop to bytes) (Some text) t.read))

-- only a whole field is a string, a vector or a decimal
pub whole_part : (p : Part) (k : Kind) → IsKindOfPart p k → is_integer k ≡ false → p ≡ Part.Whole
whole_part Part.Whole k is other = refl
whole_part Part.Exponent k is other = absurd (let integer = rw is at other in cc)
whole_part Part.Mantissa k is other = absurd (let integer = rw is at other in cc)
whole_part Part.Length k is other = absurd (let integer = rw is at other in cc)

-- ---- what was judged was taken

stands_taken : (i : FieldPart) (old new : Entry) (bytes : List ℕ) (at to : ℕ) (a : Aside) → JudgedTo true i old new bytes at at to → (v : Scalar) × IsTakenAs Usual i old new true bytes at a (Stands to) (Some v)
stands_taken i old new bytes at to a j =
    let judges = j.gives.1.1 in
    (j.gives.0, record { place = (j.place, j.within); first = j.place; read = judges.read; entry = judges.entry; there = refl; best = judges.best })

-- where its value was laid aside, it is told
lies_took : (i : FieldPart) (old new : Entry) (bytes : List ℕ) (at : ℕ) (a : Aside) (t : Took) (v : Scalar) → LaysAside i old bytes at a.unkept → IsTakenAs Usual i old new true bytes at a t (Some v) → IsTook Usual i old new true bytes at a t
lies_took i old new bytes at a t v lays h =
    let to = place_of t in
    let found = here i old (drop at bytes) (drop to bytes) (Some v) h.read in
    generally_took Usual i old new true bytes at to a t (Some v) h.place refl h.first (λ none. refl) found h.read h.entry (sym h.there) (λ w is sent keeps. lays w (drop to bytes) (rw is at found) keeps) h.best

was_judged : (j : Judged) (p : Type 0) → j ≢ Elsewhere → IfJudged j p → p
was_judged Elsewhere p some h = absurd (some refl)
was_judged (judged_stands n) p some h = h
was_judged (judged_given n) p some h = h
was_judged (Behind n) p some h = h
was_judged (BehindTwo n) p some h = h

-- what was judged, laid aside and told
pub told_took : (level : Level) (i : FieldPart) (old new : Entry) (bytes : List ℕ) (at : ℕ) (j : Judged) (a : Aside) (r : Option Took) → (j ≢ Elsewhere → ReadsAsUsual level i (drop at bytes)) → IsJudged i old new bytes at j → IfJudged j (LaysAside i old bytes at a.unkept)
    → MatchOption r (j ≡ Elsewhere) (λ t. j ≢ Elsewhere) → IfSome r (λ t. (v : Scalar) × IsTakenAs Usual i old new true bytes at a t (Some v)) → MatchOption r (new ≡ old) (IsTook level i old new true bytes at a)
told_took level i old new bytes at j a None usual was lays is taken = rw is at was
told_took level i old new bytes at j a (Some t) usual was lays some taken = usually_took (usual some) (lies_took i old new bytes at a t taken.0 (was_judged j _ some lays) taken.1)

-- ---- whatever its value is

pub usually_taken : {level : Level} {i : FieldPart} {old new : Entry} {bytes : List ℕ} {at : ℕ} {a : Aside} {t : Took} {v : Option Scalar} → ReadsAsUsual level i (drop at bytes) → IsTakenAs Usual i old new true bytes at a t v → IsTakenAs level i old new true bytes at a t v
usually_taken {old = old} usual h = record {
  place = h.place;
  first = h.first;
  read = λ more. usual old more ∙ h.read more;
  entry = h.entry;
  there = h.there;
  best = h.best;
}

-- ---- constants

constant_row : (level : Level) (o : Operator) (i : FieldPart) (e : Entry) (bytes : List ℕ) → o ≡ Operator.Constant → row_at level o i e true bytes ≡ row_at Usual o i e true bytes
unfolding row_at
constant_row level Operator.Constant i e bytes is = refl
constant_row level o i e bytes is = absurd cc

pub constant_usual : (level : Level) (i : FieldPart) (bytes : List ℕ) → i.operator ≡ Operator.Constant → ReadsAsUsual level i bytes
unfolding field_at
constant_usual level i bytes is = λ e more. rw (constant_row level i.operator i e (bytes ++ more) is) refl

keeps_constant : (o : Operator) → o ≡ Operator.Constant → KeepsNothing o → ⊥
keeps_constant Operator.Constant is h = h
keeps_constant o is h = absurd cc

pub constant_took : (level : Level) (i : FieldPart) (e : Entry) (bytes : List ℕ) (at to : ℕ) (a : Aside) → i.operator ≡ Operator.Constant → JudgedTo true i e e bytes at at to → IsTook level i e e true bytes at a (Stands to)
constant_took level i e bytes at to a is j =
    let t = stands_taken i e e bytes at to a j in
    usually_took (constant_usual level i (drop at bytes) is) (lies_took i e e bytes at a (Stands to) t.0 (λ v rest found keeps. absurd (keeps_constant i.operator is keeps)) t.1)

-- ---- NULL, and strings that were sent as a difference

there_some : (k : Kind) (b : Bool) (v : Option Scalar) → IsThere k b v → b ≡ is_some v
there_some k true v h = rw (h.1) refl
there_some k false v h = rw h refl

absent_none : (k : Kind) (b : Bool) (v : Option Scalar) → IsThere k b v → b ≡ false → v ≡ None
absent_none k true v h b = absurd cc
absent_none k false v h b = h

lies_nowhere : (i : FieldPart) (b : Bool) (bytes : List ℕ) (u : Unkept) (v : Option Scalar) → IsThere i.kind b v → (KeepsNothing i.operator → b ≡ false) → LiesAside i true bytes u v
lies_nowhere i b bytes u v there absent = λ w is sent keeps. absurd (let none : v ≡ None = absent_none i.kind b v there (absent keeps) in cc)

pub best_took : (i : FieldPart) (old new : Entry) (bytes : List ℕ) (at : ℕ) (b : Best) (a : Aside) (t : Took) → HasBest i old new bytes at b → (KeepsNothing i.operator → b.there ≡ false) → place_of t ≡ b.next → first_of at a t ≤ b.next → is_there t a ≡ b.there → best_bit true a t ≡ b.bit
    → best_form bytes at a t ≡ form_of bytes b → IsTook Usual i old new true bytes at a t
best_took i old new bytes at b a t h absent place ahead there bit form =
    generally_took Usual i old new true bytes at b.next a t h.value (h.place, h.within) place ahead (λ none. refl) (here i old (drop at bytes) (drop b.next bytes) h.value h.judges.read) h.judges.read h.judges.entry (there ∙ there_some i.kind b.there h.value h.is_there)
    (lies_nowhere i b.there bytes a.unkept h.value h.is_there absent) (rw (bit, form) h.judges.best)
