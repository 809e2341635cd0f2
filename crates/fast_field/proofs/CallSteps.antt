-- What a step of a call that failed makes of the reading behind it.
use Rattle.fast_field.proofs.Common.{◌≡◌, ℕ, Bool, List, Result, Ok, Err, refl, inl, inr, IsUtf8, is_utf8, is_utf8-from_IsUtf8, IsUtf8-from_is_utf8, verdict, Level, ◌>>=◌, Fails, NothingElse, WireFault, Kind, Presence, FieldPart, Unicode, Entry, FieldFault, field_fault, OrRefused, in_field, unit_value, units_at, units_spelled_at, row_at, part_checked, field_at, false_from_ne_true}
use Rattle.fast_field.proofs.ValueFaults.{NoWant, never_then, made, null_or, unit_made, part_allowed}

-- ---- faults

-- a byte form's fault as a field's
pub wire_fails : {A : Type 0} (e : WireFault) (r : Result A WireFault) → Fails NothingElse e r → in_field r ≡ Err (field_fault e)
wire_fails e r (inl h) = rw h refl
wire_fails e r (inr h) = absurd h

-- an entity that was looked for and is not there
pub verdict_fails : (e : WireFault) (overlong : List ℕ → Bool) (f : FieldFault) (r : Result (List ℕ × List ℕ) WireFault) → Fails NothingElse e r → verdict overlong field_fault f r ≡ Err (field_fault e)
verdict_fails e overlong f r (inl h) = rw h refl
verdict_fails e overlong f r (inr h) = absurd h

-- a first step that failed, where what follows needs no more bytes
pub refused_then : {A B : Type 0} (e : FieldFault) (r : Result A FieldFault) (k : A → Result B FieldFault) → Fails OrRefused e r → ((x : A) → NoWant (k x)) → Fails OrRefused e (r >>= k)
refused_then e r k (inl h) behind = inl (rw h refl)
refused_then e r k (inr h) behind = inr (h.0, never_then r k h.1 behind)

-- ---- texts

pub unicode_value : (k : Kind) (s : List ℕ) → k ≡ Kind.Unicode → IsUtf8 s → unit_value k s ≡ Ok (Unicode s)
unfolding unit_value
unicode_value k s e h = rw (e, is_utf8-from_IsUtf8 s h) refl

pub unicode_refused : (k : Kind) (s : List ℕ) → k ≡ Kind.Unicode → (IsUtf8 s → ⊥) → unit_value k s ≡ Err FieldFault.R2
unfolding unit_value
unicode_refused k s e never = rw (e, false_from_ne_true (is_utf8 s) (λ h. never (IsUtf8-from_is_utf8 s h))) refl

-- ---- strings

pub string_fails : (level : Level) (e : FieldFault) (k : Kind) (p : Presence) (bytes : List ℕ) → Fails OrRefused e (units_at level k p bytes) → Fails OrRefused e (units_spelled_at level k p bytes)
unfolding units_spelled_at
string_fails level e k p bytes h = refused_then e (units_at level k p bytes) _ h (λ s. null_or s (unit_value k) (unit_made k))

pub row_fails : (level : Level) (e : FieldFault) (i : FieldPart) (kept : Entry) (bit : Bool) (bytes : List ℕ) → Fails OrRefused e (row_at level i.operator i kept bit bytes) → Fails OrRefused e (field_at level i kept bit bytes)
unfolding field_at
row_fails level e i kept bit bytes h = refused_then e (row_at level i.operator i kept bit bytes) _ h (λ x. made (λ v. (v, x.1)) (part_checked i.part x.0) (part_allowed i.part x.0))

pub ruleset call_steps = (wire_fails, verdict_fails, unicode_value, unicode_refused)
