-- What makes values refuses them for a check that fails: it neither wants more bytes nor memory.
use Rattle.fast_field.proofs.Common.{◌≡◌, ℕ, true, false, Bool, List, length, Result, Ok, Err, subst, ℤ, ◌+ℤ◌, nat_lt, if◌then◌else◌, Option, Some, None, is_utf8, ◌>>=◌, Nullable, Null, Value, is_of, in_range, Kind, Part, Presence, Mandatory, Optional, FieldPart, Scalar, Entry, Undefined, Empty, Assigned, FieldFault, integer_of, delta_base, tail_base, absent_or, initial_or, predicted, ended_by, units_of, within_part, as_value, check, unless_null, range_fault, integer_value, decimal_value, unit_value, limited_value, integer_sum, ended_value, part_checked}

-- ---- steps

-- no fault, or that of a check: neither bytes nor memory are wanted
abbrev pub NoWant : {A : Type 0} → Result A FieldFault → Type 0
NoWant (Ok x) = Unit {0}
NoWant (Err FieldFault.NeedMore) = ⊥
NoWant (Err FieldFault.Memory) = ⊥
NoWant (Err f) = Unit {0}

pub never : {A : Type 0} (r : Result A FieldFault) → NoWant r → r ≡ Err FieldFault.NeedMore → ⊥
never {A} r h e = subst (λ (x : Result A FieldFault). NoWant x) e h

-- after a step that wants no bytes
pub never_then : {A B : Type 0} (r : Result A FieldFault) (k : A → Result B FieldFault) → (r ≡ Err FieldFault.NeedMore → ⊥) → ((x : A) → NoWant (k x)) → (r >>= k) ≡ Err FieldFault.NeedMore → ⊥
never_then (Ok x) k h on e = never (k x) (on x) e
never_then (Err d) k h on e = h cc

-- a value that is made of another
pub made : {A B : Type 0} (g : A → B) (m : Result A FieldFault) → NoWant m → NoWant (m >>= λ x. Ok (g x))
made g (Ok x) h = h
made g (Err d) h = h

both_calm : {A B : Type 0} (r : Result A FieldFault) (k : A → Result B FieldFault) → NoWant r → ((x : A) → NoWant (k x)) → NoWant (r >>= k)
both_calm (Ok x) k h on = on x
both_calm (Err d) k h on = h

-- behind NULL nothing is made
pub null_or : {A : Type 0} (x : Nullable A × List ℕ) (g : A → Result Scalar FieldFault) → ((a : A) → NoWant (g a)) → NoWant (unless_null x (λ a. as_value (g a)))
null_or (Null, rest) g h = tt
null_or (Value a, rest) g h = made (λ v. (Some v, rest)) (g a) (h a)

-- ---- checks

pub tested : (t : Bool) (d : FieldFault) → NoWant {A = Unit {0}} (Err d) → NoWant (check t d)
tested true d h = tt
tested false d h = h

if_allowed : {A : Type 0} (t : Bool) (x : A) (d : FieldFault) → NoWant {A = A} (Err d) → NoWant (if t then Ok x else Err d)
if_allowed true x d h = tt
if_allowed false x d h = h

range : (p : Part) → NoWant {A = Scalar} (Err (range_fault p))
range Part.Exponent = tt
range Part.Mantissa = tt
range p = tt

-- ---- values

pub integer_made : (pt : Part) (k : Kind) (z : ℤ) → NoWant (integer_value pt k z)
unfolding integer_value
integer_made pt k z = if_allowed (in_range k z) _ (range_fault pt) (range pt)

pub decimal_made : (e m : ℤ) → NoWant (decimal_value e m)
unfolding decimal_value
decimal_made e m = if_allowed (in_range Kind.Int64 m) _ FieldFault.R1 tt

pub unit_made : (k : Kind) (s : List ℕ) → NoWant (unit_value k s)
unfolding unit_value
unit_made Kind.Unicode s = if_allowed (is_utf8 s) _ FieldFault.R2 tt
unit_made k s = tt

pub few_made : (k : Kind) (s : List ℕ) → NoWant (limited_value k s)
unfolding limited_value
few_made k s = elim (nat_lt 65535 (length s)) as (λ t. NoWant (if t then Err FieldFault.Limit else unit_value k s)) [
  | true ↦ tt
  | false ↦ unit_made k s
]

-- ---- entries

pub base_of_delta : (i : FieldPart) (e : Entry) → NoWant (delta_base i e)
base_of_delta i Undefined = tt
base_of_delta i Empty = tt
base_of_delta i (Assigned v) = if_allowed (is_of i.kind v) v FieldFault.D4 tt

base_of_tail : (i : FieldPart) (e : Entry) → NoWant (tail_base i e)
base_of_tail i (Assigned v) = if_allowed (is_of i.kind v) v FieldFault.D4 tt
base_of_tail i e = tt

absent : (d : FieldFault) (p : Presence) → NoWant {A = Option Scalar} (Err d) → NoWant (absent_or d p)
absent d Mandatory h = h
absent d Optional h = tt

initial : (i : FieldPart) (v : Option Scalar) → NoWant (initial_or FieldFault.D5 i v)
initial i None = absent FieldFault.D5 i.presence tt
initial i (Some v) = tt

pub foretold : (i : FieldPart) (e : Entry) → NoWant (predicted i e)
foretold i Undefined = initial i i.initial
foretold i Empty = absent FieldFault.D6 i.presence tt
foretold i (Assigned v) = if_allowed (is_of i.kind v) _ FieldFault.D4 tt

pub summed : (i : FieldPart) (e : Entry) (d : ℤ) → NoWant (integer_sum i e d)
unfolding integer_sum
summed i e d = both_calm (delta_base i e) _ (base_of_delta i e) (λ base. integer_made i.part i.kind (integer_of base +ℤ d))

pub ended : (i : FieldPart) (e : Entry) (tail : List ℕ) → NoWant (ended_value i e tail)
unfolding ended_value
ended i e tail = both_calm (tail_base i e) _ (base_of_tail i e) (λ base. few_made i.kind (ended_by (units_of base) tail))

pub part_allowed : (p : Part) (v : Option Scalar) → NoWant (part_checked p v)
unfolding part_checked
part_allowed p None = tt
part_allowed Part.Exponent (Some v) = if_allowed (within_part Part.Exponent v) _ FieldFault.R1 tt
part_allowed Part.Length (Some v) = if_allowed (within_part Part.Length v) _ FieldFault.Limit tt
part_allowed p (Some v) = tt
