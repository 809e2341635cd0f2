-- What the general way rests on: what bit 0 gives stands there, and what was read has a form.
use Rattle.std.proofs.Common.{◌≡◌, ℕ, ◌≤◌, Bool, false, true, List, [], ◌++◌, length, drop, Option, None, Some, Result, Ok, Err, if◌then◌else◌, refl, sym, ap, ◌∙◌, inl, inr, slice_range}
use Rattle.std.specs.Borrow.{Bor}
use Rattle.std.specs.Option.{is_some, option_copied}
use Rattle.fast_wire.specs.Reader.{IsBytes}
use Rattle.fast_wire.specs.declared.level.Level.{Level}
use Rattle.fast_wire.specs.declared.level.Level.TheVariants.{Usual}
use Rattle.fast_value.specs.declared.scalar.Scalar.{Scalar}
use Rattle.fast_template.specs.declared.resolved.FieldPart.{FieldPart}
use Rattle.fast_dictionary.specs.declared.entry.Entry.{Entry}
use Rattle.fast_field.specs.Bases.{next, next_of}
use Rattle.fast_field.specs.Best.{IsBest}
use Rattle.fast_field.specs.Deltas.{Cut}
unfoldable use Rattle.fast_field.specs.FieldReading.{field_at, part_checked, row_at, spelled_at, unit_value, units_at, units_spelled_at, whole_at}
use Rattle.fast_field.specs.FieldReading.{as_value, unless_null}
use Rattle.fast_field.specs.Values.{IsUnitKind, of_units}
use Rattle.fast_field.proofs.SpelledForms.{if_ok}
use Rattle.fast_wire.specs.Reading.{◌>>=◌}
use Rattle.fast_wire.specs.declared.nullable.Nullable.{Nullable}
use Rattle.fast_wire.specs.declared.nullable.Nullable.TheVariants.{Null, Value}
use Rattle.fast_wire.proofs.Readers.{ok_is}
use Rattle.fast_value.specs.declared.kind.Kind.{Kind}
use Rattle.fast_value.specs.declared.kind.Operator.{Operator}
use Rattle.fast_value.specs.declared.kind.Part.{Part}
use Rattle.fast_template.specs.Resolved.{operator_needs_bit}
use Rattle.fast_take.specs.Numbers.{KeepsNothing}
use Rattle.std.specs.Str.{is_utf8}
use Rattle.fast_take.specs.Takes.{IsTook, LiesAside, best_bit, best_form, first_of, is_there, place_of, value_aside, value_taken, value_there}
use Rattle.fast_take.specs.declared.took.Aside.{Aside}
use Rattle.fast_take.specs.declared.took.Took.{Took}
use Rattle.fast_take.specs.declared.took.Unkept.{Unkept}
use Rattle.fast_field.specs.Fields.{FormBy, within_part}
use Rattle.fast_field.specs.Parts.{HasDefault, IsBitOf, IsFieldPart}
use Rattle.fast_field.specs.Within.{HoldsScalar}
use Rattle.fast_field.specs.Written.{IsRefusal}
use Rattle.fast_field.specs.declared.fault.FieldFault.{FieldFault}
use Rattle.fast_field.specs.declared.fault.FieldRefusal.{FieldRefusal}
use Rattle.fast_field.proofs.BestForms.{bit_zero_is_best, bit_zero_row}
use Rattle.fast_field.proofs.FieldForms.{field_forms}
use Rattle.fast_field.proofs.FieldsBehave.{read_usually}
use Rattle.fast_field.proofs.FieldsWithin.{value_kind}
use Rattle.fast_field.proofs.Refused.{not_refused}
use Rattle.fast_field.specs.Sent.{units_in}
use Rattle.fast_wire.specs.declared.span.Span.{Span}
use Rattle.fast_value.specs.Scalar.{is_of}
use Rattle.std.proofs.Common.{◌⊎◌, IfSome, IsTrue}
use Rattle.fast_take.proofs.Ranges.{range_none}

zero_form : (i : FieldPart) (e : Entry) (b : List ℕ) (cut : Cut) (v : Option Scalar) → FormBy Usual i e false cut b v → (b ≡ []) × IsBest i e false [] v
zero_form i e b cut v h = let z = bit_zero_row i.operator i e cut b v h.row in (z.1, bit_zero_is_best i e v (rw (z.0, z.1) at h))

-- what bit 0 gives takes no byte, and bit 0 is its best form
pub zero_best : (level : Level) (i : FieldPart) (e : Entry) (bytes rest : List ℕ) (v : Option Scalar) → IsBitOf i false → HasDefault i → IsBytes bytes → field_at level i e false bytes ≡ Ok (v, rest)
    → (rest ≡ bytes) × IsBest i e false [] v
zero_best level i e bytes rest v bit default fits is =
    let t = (field_forms Usual i e false bit default).found bytes v rest fits (read_usually level i e false bytes (v, rest) is) in
    let z = zero_form i e t.front t.form.0 v t.form.1 in
    (sym (t.parts ∙ ap (λ (x : List ℕ). x ++ rest) z.0), z.1)

pub none_between : (i : FieldPart) (e : Entry) (bytes : List ℕ) (at : ℕ) (v : Option Scalar) → IsBest i e false [] v → IsBest i e false (slice_range bytes at at) v
none_between i e bytes at v h = rw (range_none bytes at) h

-- what was read has a form, so that it is refused for want of memory alone
pub only_memory : (level : Level) (i : FieldPart) (e : Entry) (v : Option Scalar) (bytes rest : List ℕ) (f : FieldRefusal) → IsBytes bytes → IsFieldPart i → HoldsScalar e
    → field_at level i e true bytes ≡ Ok (v, rest) → IsRefusal i e v f → f ≡ FieldRefusal.Memory
only_memory level i e v bytes rest f fits is holds read (inr h) = h.1
only_memory level i e v bytes rest f fits is holds read (inl h) =
    let t = (field_forms Usual i e true (λ none. refl) is.typed.default_has_value).found bytes v rest fits (read_usually level i e true bytes (v, rest) read) in
    let none = not_refused i e true t.front v is holds t.form in
    absurd (let both : None ≡ Some f = sym none ∙ h in cc)

-- ---- where the value lies

abbrev ends : Option Scalar → List ℕ → Result (Option Scalar × List ℕ) FieldFault
ends v bytes = Ok (v, bytes)

both : {v w : Option Scalar} {bytes rest : List ℕ} → ends v bytes ≡ ends w rest → (v ≡ w) × (bytes ≡ rest)
both {v} {w} {bytes} {rest} h = let p = ok_is {F = FieldFault} (v, bytes) (w, rest) h in (ap (λ (x : Option Scalar × List ℕ). x.0) p, ap (λ (x : Option Scalar × List ℕ). x.1) p)

no_value : {w : Scalar} {bytes rest : List ℕ} → ends None bytes ≡ ends (Some w) rest → ⊥
no_value h = let none = (both h).0 in cc

checked_same : (p : Part) (v : Option Scalar) (w : Scalar) (bytes rest : List ℕ) → (part_checked p v >>= λ x. ends x bytes) ≡ ends (Some w) rest → (v ≡ Some w) × (bytes ≡ rest)
unfolding part_checked
checked_same p None w bytes rest h = absurd (no_value h)
checked_same Part.Whole (Some v) w bytes rest h = both h
checked_same Part.Mantissa (Some v) w bytes rest h = both h
checked_same Part.Exponent (Some v) w bytes rest h =
    elim (within_part Part.Exponent v) as (λ t. ((if t then Ok (Some v) else Err FieldFault.R1) >>= λ x. ends x bytes) ≡ ends (Some w) rest → (Some v ≡ Some w) × (bytes ≡ rest)) [ true ↦ λ e. both e | false ↦ λ e. absurd cc ] h
checked_same Part.Length (Some v) w bytes rest h =
    elim (within_part Part.Length v) as (λ t. ((if t then Ok (Some v) else Err FieldFault.Limit) >>= λ x. ends x bytes) ≡ ends (Some w) rest → (Some v ≡ Some w) × (bytes ≡ rest)) [ true ↦ λ e. both e | false ↦ λ e. absurd cc ] h

row_of : (r : Result (Option Scalar × List ℕ) FieldFault) (p : Part) (w : Scalar) (rest : List ℕ) → (r >>= λ x. part_checked p x.0 >>= λ v. ends v x.1) ≡ ends (Some w) rest → r ≡ ends (Some w) rest
row_of (Err f) p w rest h = absurd cc
row_of (Ok (v, bytes)) p w rest h = let same = checked_same p v w bytes rest h in rw (same.0, same.1) refl

read_row : (level : Level) (i : FieldPart) (e : Entry) (bit : Bool) (bytes rest : List ℕ) (w : Scalar) → field_at level i e bit bytes ≡ ends (Some w) rest → row_at level i.operator i e bit bytes ≡ ends (Some w) rest
unfolding field_at
read_row level i e bit bytes rest w h = row_of (row_at level i.operator i e bit bytes) i.part w rest h

there_by : (level : Level) (o : Operator) (i : FieldPart) (old new : Entry) (bit : Bool) (bytes rest whole : List ℕ) (u : Unkept) (w : Scalar) → row_at level o i old bit bytes ≡ ends (Some w) rest → new ≡ next_of o old (Some w) → (operator_needs_bit o i.presence ≡ false → bit ≡ true)
    → (bit ≡ true → KeepsNothing o → value_aside i.kind whole u ≡ w) → value_there o i new bit u whole ≡ Some w
unfolding row_at
there_by level Operator.Plain i old new bit bytes rest whole u w row entry needs aside = ap (λ (x : Scalar). Some x) (aside (needs refl) tt)
there_by level Operator.Constant i old new true bytes rest whole u w row entry needs aside = (both row).0
there_by level Operator.Constant i old new false bytes rest whole u w row entry needs aside = absurd (no_value row)
there_by level Operator.Default i old new true bytes rest whole u w row entry needs aside = ap (λ (x : Scalar). Some x) (aside refl tt)
there_by level Operator.Default i old new false bytes rest whole u w row entry needs aside = (both row).0
there_by level Operator.Copy i old new bit bytes rest whole u w row entry needs aside = rw entry refl
there_by level Operator.Increment i old new bit bytes rest whole u w row entry needs aside = rw entry refl
there_by level Operator.Delta i old new bit bytes rest whole u w row entry needs aside = rw entry refl
there_by level Operator.Tail i old new bit bytes rest whole u w row entry needs aside = rw entry refl

value_lies : (level : Level) (i : FieldPart) (old new : Entry) (bit : Bool) (bytes rest whole : List ℕ) (a : Aside) (t : Took) (v : Option Scalar) → field_at level i old bit bytes ≡ ends v rest → new ≡ next i old v → IsBitOf i bit → is_there t a ≡ is_some v → LiesAside i bit whole a.unkept v
    → value_taken i new bit whole a t ≡ v
value_lies level i old new bit bytes rest whole a t None read entry needs there aside = rw there refl
value_lies level i old new bit bytes rest whole a t (Some w) read entry needs there aside =
    rw there (there_by level i.operator i old new bit bytes rest whole a.unkept w (read_row level i old bit bytes rest w read) entry needs (aside w refl))

-- what was read in the general way was taken
pub generally_took : (level : Level) (i : FieldPart) (old new : Entry) (bit : Bool) (bytes : List ℕ) (at to : ℕ) (a : Aside) (t : Took) (v : Option Scalar) → (at ≤ to) × (to ≤ length bytes) → place_of t ≡ to → first_of at a t ≤ to → IsBitOf i bit → field_at level i old bit (drop at bytes) ≡ Ok (v, drop to bytes)
    → ((more : List ℕ) → field_at level i old bit (drop at bytes ++ more) ≡ Ok (v, drop to bytes ++ more)) → new ≡ next i old v → is_there t a ≡ is_some v → LiesAside i bit bytes a.unkept v → IsBest i old (best_bit bit a t) (best_form bytes at a t) v → IsTook level i old new bit bytes at a t
generally_took level i old new bit bytes at to a t v place is ahead needs here read entry there aside best =
    let found = value_lies level i old new bit (drop at bytes) (drop to bytes) bytes a t v here entry needs there aside in
    record {
      place = rw is place;
      first = rw is ahead;
      read = λ more. rw (found, is) (read more);
      entry = rw found entry;
      there = rw found (sym there);
      best = rw found best;
    }

pub copied_some : (o : Option (Bor Scalar)) (v : Option Scalar) (b : Bool) → b ≡ is_some o → option_copied o ≡ v → b ≡ is_some v
copied_some None v b is same = rw (sym same) is
copied_some (Some w) v b is same = rw (sym same) is

-- ---- a string or vector that no entry keeps, by where it stands

abbrev ok_units : Nullable (List ℕ) × List ℕ → Result (Nullable (List ℕ) × List ℕ) FieldFault
ok_units x = Ok x

made_is : (u : Result Scalar FieldFault) (tail rest : List ℕ) (w : Scalar) → as_value u tail ≡ ends (Some w) rest → u ≡ Ok w
made_is (Ok v) tail rest w h = let same = (both h).0 in cc
made_is (Err f) tail rest w h = absurd cc

units_are : (k : Kind) (s : List ℕ) (w : Scalar) → unit_value k s ≡ Ok w → w ≡ of_units k s
unfolding unit_value
units_are Kind.Unicode s w h = sym (if_ok (is_utf8 s) (of_units Kind.Unicode s) w FieldFault.R2 h).1
units_are k s w h = sym (ok_is {F = FieldFault} (of_units k s) w h)

-- the value is of the units that stand there
pub record HasUnits (level : Level) (i : FieldPart) (bytes : List ℕ) (w : Scalar) : Type 0 where
  pub units : List ℕ
  pub rest : List ℕ
  pub found : units_at level i.kind i.presence bytes ≡ Ok (Value units, rest)
  pub value : w ≡ of_units i.kind units

has_units : (level : Level) (i : FieldPart) (bytes rest : List ℕ) (w : Scalar) (r : Result (Nullable (List ℕ) × List ℕ) FieldFault) → units_at level i.kind i.presence bytes ≡ r → (r >>= λ z. unless_null z (λ s. as_value (unit_value i.kind s))) ≡ ends (Some w) rest → HasUnits level i bytes w
has_units level i bytes rest w (Err f) is h = absurd cc
has_units level i bytes rest w (Ok (Null, tail)) is h = absurd (no_value h)
has_units level i bytes rest w (Ok (Value s, tail)) is h = record { units = s; rest = tail; found = is; value = units_are i.kind s w (made_is (unit_value i.kind s) tail rest w h) }

spelled_units : (level : Level) (i : FieldPart) (k : Kind) (bytes rest : List ℕ) (w : Scalar) → IsUnitKind k → i.kind ≡ k → spelled_at level i.part k i.presence bytes ≡ ends (Some w) rest → HasUnits level i bytes w
unfolding spelled_at units_spelled_at
spelled_units level i Kind.Ascii bytes rest w is k h = has_units level i bytes rest w (units_at level i.kind i.presence bytes) refl (rw k h)
spelled_units level i Kind.Unicode bytes rest w is k h = has_units level i bytes rest w (units_at level i.kind i.presence bytes) refl (rw k h)
spelled_units level i Kind.Bytes bytes rest w is k h = has_units level i bytes rest w (units_at level i.kind i.presence bytes) refl (rw k h)
spelled_units level i k bytes rest w is same h = absurd is

row_units : (level : Level) (o : Operator) (i : FieldPart) (e : Entry) (bytes rest : List ℕ) (w : Scalar) → KeepsNothing o → IsUnitKind i.kind → row_at level o i e true bytes ≡ ends (Some w) rest → HasUnits level i bytes w
unfolding row_at whole_at
row_units level Operator.Plain i e bytes rest w keeps is h = spelled_units level i i.kind bytes rest w is refl h
row_units level Operator.Default i e bytes rest w keeps is h = spelled_units level i i.kind bytes rest w is refl h
row_units level o i e bytes rest w keeps is h = absurd keeps

pub stands_there : (level : Level) (i : FieldPart) (e : Entry) (bytes rest : List ℕ) (w : Scalar) → KeepsNothing i.operator → IsUnitKind i.kind → field_at level i e true bytes ≡ Ok (Some w, rest) → HasUnits level i bytes w
stands_there level i e bytes rest w keeps is h = row_units level i.operator i e bytes rest w keeps is (read_row level i e true bytes rest w h)

-- the kind of what was read
pub read_kind : (level : Level) (i : FieldPart) (e : Entry) (bytes rest : List ℕ) (v : Option Scalar) → IsBytes bytes → IsFieldPart i → field_at level i e true bytes ≡ Ok (v, rest) → IfSome v (λ w. IsTrue (is_of i.kind w))
read_kind level i e bytes rest None fits is h = tt
read_kind level i e bytes rest (Some w) fits is h =
    let t = (field_forms Usual i e true (λ none. refl) is.typed.default_has_value).found bytes (Some w) rest fits (read_usually level i e true bytes (Some w, rest) h) in
    value_kind i is.typed e true t.front w t.form

-- what was found there is the value
pub units_value : (level : Level) (i : FieldPart) (bytes : List ℕ) (at next : ℕ) (w : Scalar) (s : Span) → HasUnits level i (drop at bytes) w → units_at level i.kind i.presence (drop at bytes) ≡ Ok (Value (units_in i.kind bytes s), drop next bytes) → of_units i.kind (units_in i.kind bytes s) ≡ w
units_value level i bytes at next w s h found =
    let both : ok_units (Value h.units, h.rest) ≡ ok_units (Value (units_in i.kind bytes s), drop next bytes) = sym h.found ∙ found in
    let p = ok_is {F = FieldFault} (Value h.units, h.rest) (Value (units_in i.kind bytes s), drop next bytes) both in
    let one : Value h.units ≡ Value (units_in i.kind bytes s) = ap (λ (x : Nullable (List ℕ) × List ℕ). x.0) p in
    let same : h.units ≡ units_in i.kind bytes s = cc in
    ap (of_units i.kind) (sym same) ∙ sym h.value

pub unit_kind : (k : Kind) → (k ≡ Kind.Ascii) ⊎ ((k ≡ Kind.Unicode) ⊎ (k ≡ Kind.Bytes)) → IsUnitKind k
unit_kind k (inl h) = rw h tt
unit_kind k (inr (inl h)) = rw h tt
unit_kind k (inr (inr h)) = rw h tt

pub no_units : (level : Level) (i : FieldPart) (bytes : List ℕ) (w : Scalar) (f : FieldFault) → HasUnits level i bytes w → units_at level i.kind i.presence bytes ≡ Err f → ⊥
no_units level i bytes w f h none = let both : ok_units (Value h.units, h.rest) ≡ Err f = sym h.found ∙ none in cc

pub no_null : (level : Level) (i : FieldPart) (bytes rest : List ℕ) (w : Scalar) → HasUnits level i bytes w → units_at level i.kind i.presence bytes ≡ Ok (Null, rest) → ⊥
no_null level i bytes rest w h none =
    let both : ok_units (Value h.units, h.rest) ≡ ok_units (Null, rest) = sym h.found ∙ none in
    let p = ok_is {F = FieldFault} (Value h.units, h.rest) (Null, rest) both in
    let one : Value h.units ≡ Null = ap (λ (x : Nullable (List ℕ) × List ℕ). x.0) p in cc
