-- What stands behind the first number of a delta: where that has come, and the field waits, it waits until what is lacking of the rest has come.
use Rattle.fast_walk.proofs.Common.{inl, inr, ap, ◌≡◌, ℕ, ℤ, Bool, true, false, List, ◌++◌, length, Option, Result, Ok, Err, refl, ◌-◌, take, drop, take_rest, ◌+ℤ◌, nat_le, ◌>>=◌, entity_at, signed_at, signed_nullable_at, received_signed, signed_of, WireFault, Level, Usual, Strict, Nullable, Null, Value, judge, field_fault, entity_goes, in_range, exponent_in_range, Kind, Operator, Presence, Mandatory, Optional, Scalar, FieldPart, Entry, FieldFault, delta_base, removed_of, overlong_units, units_of, exponent_of, Part, entity_limit, overlong_fault, part_usually_at, units_at, check, decimal_delta_at, decimal_spelled_at, delta_at, field_at, integer_at, mantissa_behind, mantissa_delta_behind, mantissa_entity_at, new_part_behind, part_at, part_checked, row_at, spelled_at, unit_delta_at, unless_null, whole_at, Lack, FieldLacks, HasSecond, WholeLacks, WholeWaits, takes_two, never, never_then, part_allowed}

-- ---- steps

-- one that looks at no bytes
waits_after : {A B : Type 0} (m : Result A FieldFault) (f g : A → Result B FieldFault) → ((x : A) → f x ≡ Err FieldFault.NeedMore → g x ≡ Err FieldFault.NeedMore) → (m >>= f) ≡ Err FieldFault.NeedMore → (m >>= g) ≡ Err FieldFault.NeedMore
waits_after (Ok x) f g on w = on x w
waits_after (Err d) f g on w = w

-- one in front of what is read, of which something is made
judged_waits : {A B : Type 0} (m : Result (Unit {0}) FieldFault) (r s : Result A FieldFault) (k : A → Result B FieldFault) → ((r >>= k) ≡ Err FieldFault.NeedMore → (s >>= k) ≡ Err FieldFault.NeedMore)
    → ((m >>= λ _. r) >>= k) ≡ Err FieldFault.NeedMore → ((m >>= λ _. s) >>= k) ≡ Err FieldFault.NeedMore
judged_waits (Ok x) r s k on w = on w
judged_waits (Err d) r s k on w = w

-- what waits where a value is made of it waits alone
alone_waits : {A B : Type 0} (m : Result (Unit {0}) FieldFault) (r : Result A FieldFault) (make : A → B) → (m >>= λ _. r >>= λ x. Ok (make x)) ≡ Err FieldFault.NeedMore → (m >>= λ _. r) ≡ Err FieldFault.NeedMore
alone_waits (Err d) r make w = let same : d ≡ FieldFault.NeedMore = cc in ap Err same
alone_waits (Ok x) (Err d) make w = let same : d ≡ FieldFault.NeedMore = cc in ap Err same
alone_waits (Ok x) (Ok y) make w = absurd cc

new_part_waits : (level : Level) (k : Kind) (bytes : List ℕ) → units_at level k Mandatory bytes ≡ Err FieldFault.NeedMore → part_at level k bytes ≡ Err FieldFault.NeedMore
unfolding units_at part_at
new_part_waits level k bytes h = alone_waits (judge level (entity_limit k) (overlong_units k Mandatory) field_fault (overlong_fault k) bytes) (part_usually_at k bytes) (λ x. (Value x.0, x.1)) h

null_waits : (n : Nullable ℤ) (rest next : List ℕ) (f : ℤ → List ℕ → Result (Option Scalar × List ℕ) FieldFault) → ((z : ℤ) → f z rest ≡ Err FieldFault.NeedMore → f z next ≡ Err FieldFault.NeedMore)
    → unless_null (n, rest) f ≡ Err FieldFault.NeedMore → unless_null (n, next) f ≡ Err FieldFault.NeedMore
null_waits Null rest next f g h = absurd cc
null_waits (Value z) rest next f g h = g z h

-- a number in front, whose stop bit has come
module _ (p : Presence) (bytes more entity rest : List ℕ) (f : ℤ → List ℕ → Result (Option Scalar × List ℕ) FieldFault) (h : entity_at 10 bytes ≡ Ok (entity, rest)) (g : (z : ℤ) → f z rest ≡ Err FieldFault.NeedMore → f z (rest ++ more) ≡ Err FieldFault.NeedMore) where
  usual_waits : (q : Presence) → (integer_at Usual false q bytes >>= λ n. unless_null n f) ≡ Err FieldFault.NeedMore → (integer_at Usual false q (bytes ++ more) >>= λ n. unless_null n f) ≡ Err FieldFault.NeedMore
  unfolding integer_at signed_at signed_nullable_at
  usual_waits Mandatory w = rw (entity_goes 10 bytes entity rest more h) (g (signed_of entity) (rw h at w))
  usual_waits Optional w = rw (entity_goes 10 bytes entity rest more h) (null_waits (received_signed (signed_of entity)) rest (rest ++ more) f g (rw h at w))

  number_waits : (level : Level) → (integer_at level false p bytes >>= λ n. unless_null n f) ≡ Err FieldFault.NeedMore → (integer_at level false p (bytes ++ more) >>= λ n. unless_null n f) ≡ Err FieldFault.NeedMore
  unfolding integer_at
  number_waits Usual w = usual_waits p w
  number_waits Strict w = rw (entity_goes 10 bytes entity rest more h) (judged_waits _ _ _ (λ n. unless_null n f) (usual_waits p) (rw h at w))

-- ---- the part behind a removal, and the number behind the first of a decimal

mantissa_waits : (level : Level) (bytes : List ℕ) → entity_at 10 bytes ≡ Err WireFault.NeedMore → mantissa_entity_at level bytes ≡ Err FieldFault.NeedMore
unfolding signed_at
mantissa_waits Usual bytes h = rw h refl
mantissa_waits Strict bytes h = rw h refl

unit_waits : (level : Level) (i : FieldPart) (e : Entry) (bytes more entity rest : List ℕ) → entity_at 10 bytes ≡ Ok (entity, rest) → units_at level i.kind Mandatory (rest ++ more) ≡ Err FieldFault.NeedMore
    → unit_delta_at level i e bytes ≡ Err FieldFault.NeedMore → unit_delta_at level i e (bytes ++ more) ≡ Err FieldFault.NeedMore
unfolding unit_delta_at new_part_behind
unit_waits level i e bytes more entity rest h lacks = number_waits i.presence bytes more entity rest _ h (λ z.
    waits_after (check (in_range Kind.Int32 z) FieldFault.D7) _ _ (λ fits. waits_after (delta_base i e) _ _ (λ base. waits_after (check (nat_le (removed_of z) (length (units_of base))) FieldFault.D7) _ _ (λ ok w. rw (new_part_waits level i.kind _ lacks) refl)))) level

delta_waits : (level : Level) (k : Kind) (i : FieldPart) (e : Entry) (bytes more entity rest : List ℕ) → takes_two k ≡ true → i.kind ≡ k → entity_at 10 bytes ≡ Ok (entity, rest) → WholeWaits level i.kind Mandatory (rest ++ more)
    → delta_at level k i e bytes ≡ Err FieldFault.NeedMore → delta_at level k i e (bytes ++ more) ≡ Err FieldFault.NeedMore
unfolding delta_at decimal_delta_at mantissa_delta_behind
delta_waits level Kind.Decimal i e bytes more entity rest two same h lacks = number_waits i.presence bytes more entity rest _ h (λ z.
    waits_after (delta_base i e) _ _ (λ base. waits_after (check (exponent_in_range (exponent_of base +ℤ z)) FieldFault.R1) _ _ (λ ok w. rw (mantissa_waits level _ ((rw same at lacks.entity) (λ e. absurd cc) (λ e. absurd cc))) refl))) level
delta_waits level Kind.Ascii i e bytes more entity rest two same h lacks = unit_waits level i e bytes more entity rest h lacks.units
delta_waits level Kind.Unicode i e bytes more entity rest two same h lacks = unit_waits level i e bytes more entity rest h lacks.units
delta_waits level Kind.Bytes i e bytes more entity rest two same h lacks = unit_waits level i e bytes more entity rest h lacks.units
delta_waits level k i e bytes more entity rest two same h lacks = absurd cc

whole_waits : (level : Level) (i : FieldPart) (bytes more entity rest : List ℕ) → i.kind ≡ Kind.Decimal → entity_at 10 bytes ≡ Ok (entity, rest) → WholeWaits level i.kind Mandatory (rest ++ more)
    → whole_at level i bytes ≡ Err FieldFault.NeedMore → whole_at level i (bytes ++ more) ≡ Err FieldFault.NeedMore
unfolding whole_at spelled_at decimal_spelled_at mantissa_behind
whole_waits level i bytes more entity rest of h lacks w =
    rw of (number_waits i.presence bytes more entity rest (mantissa_behind level) h (λ z. waits_after (check (exponent_in_range z) FieldFault.R1) _ _ (λ ok w. rw (mantissa_waits level _ ((rw of at lacks.entity) (λ e. absurd cc) (λ e. absurd cc))) refl)) level (rw of at w))

row_waits : (level : Level) (o : Operator) (i : FieldPart) (e : Entry) (bit : Bool) (bytes more entity rest : List ℕ) → HasSecond o i.kind bit → entity_at 10 bytes ≡ Ok (entity, rest) → WholeWaits level i.kind Mandatory (rest ++ more)
    → row_at level o i e bit bytes ≡ Err FieldFault.NeedMore → row_at level o i e bit (bytes ++ more) ≡ Err FieldFault.NeedMore
unfolding row_at
row_waits level o i e bit bytes more entity rest (inr two) h lacks w = let is = two.1 in rw is (delta_waits level i.kind i e bytes more entity rest two.0 refl h lacks (rw is at w))
row_waits level Operator.Plain i e bit bytes more entity rest (inl two) h lacks w = whole_waits level i bytes more entity rest two.0 h lacks w
row_waits level Operator.Delta i e bit bytes more entity rest (inl two) h lacks w = delta_waits level i.kind i e bytes more entity rest (rw (two.0) refl) refl h lacks w
row_waits level Operator.Tail i e bit bytes more entity rest (inl two) h lacks w = absurd (two.1 refl)
row_waits level Operator.Constant i e bit bytes more entity rest (inl two) h lacks w = let none = two.2 in absurd cc
row_waits level o i e true bytes more entity rest (inl two) h lacks w = whole_waits level i bytes more entity rest two.0 h lacks w
row_waits level o i e false bytes more entity rest (inl two) h lacks w = let none = two.2 in absurd cc

-- no check of a part is for want of bytes
abbrev with_rest : List ℕ → Option Scalar → Result (Option Scalar × List ℕ) FieldFault
with_rest rest v = Ok (v, rest)

checked_waits : (p : Part) (r : Result (Option Scalar × List ℕ) FieldFault) → (r >>= λ x. part_checked p x.0 >>= with_rest x.1) ≡ Err FieldFault.NeedMore → r ≡ Err FieldFault.NeedMore
checked_waits p (Ok x) h = absurd (never_then (part_checked p x.0) _ (never (part_checked p x.0) (part_allowed p x.0)) (λ v. tt) h)
checked_waits p (Err f) h = h

-- the field waits on
pub second_lacks : {level : Level} {p : FieldPart} {e : Entry} {bit : Bool} {bytes : List ℕ} {l : Lack} (entity : List ℕ) (n : ℕ) → HasSecond p.operator p.kind bit → entity_at 10 bytes ≡ Ok (entity, drop n bytes) → WholeLacks level p.kind Mandatory p.number (take (length bytes - n) (drop n bytes)) l
    → field_at level p e bit bytes ≡ Err FieldFault.NeedMore → FieldLacks level p e bit bytes l
unfolding field_at
second_lacks {level} {p} {e} {bit} {bytes} entity n two h behind w = record {
  lacks = λ more lacking. rw (row_waits level p.operator p e bit bytes more entity (drop n bytes) two h ((rw (take_rest bytes n) at behind).lacks more lacking) (checked_waits p.part (row_at level p.operator p e bit bytes) w)) refl;
  number = behind.number;
}
