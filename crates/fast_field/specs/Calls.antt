-- What a call answered, against what reading gives. (Own.)
use Rattle.std.specs.Prelude.{◌≡◌, ℕ, ◌^◌, ℤ, pos, negsuc, ◌<ℤ◌, List, drop, Option, Some, None, Result, Ok, Err}
use Rattle.fast_field.specs.declared.fault.FieldFault.{FieldFault}

-- a call that takes no memory answered, seen by view, what reading gives
abbrev pub Answers : {F X Y : Type 0} → (X → Y) → Result X F → Result Y F → Type 0
Answers view (Ok x) read = read ≡ Ok (view x)
Answers view (Err e) read = read ≡ Err e

-- the same of a call that reads at a place, and answers a value and the place after it
abbrev pub AnswersAt : {X V F : Type 0} → (List ℕ → Result (V × List ℕ) F) → (X → V)
    → List ℕ → ℕ → Result (X × ℕ) F → Type 0
AnswersAt read view bytes at r =
    Answers (λ x. (view x.0, drop x.1 bytes)) r (read (drop at bytes))

-- memory was refused, where no more bytes are needed
abbrev pub OrRefused : {Y : Type 0} → Result Y FieldFault → FieldFault → Type 0
OrRefused read e = (e ≡ FieldFault.Memory) × (read ≡ Err FieldFault.NeedMore → ⊥)

-- what ten bytes can spell, with a sign or with none
abbrev pub IsSentRange : ℤ → Type 0
IsSentRange z = (negsuc (2 ^ 70) <ℤ z) × (z <ℤ pos (2 ^ 70))

-- a call that judges a value refused it for this reason, or there was none
abbrev pub Judges : {F : Type 0} → Option F → Result (Unit {0}) F → Type 0
Judges reason (Ok x) = reason ≡ None
Judges reason (Err f) = reason ≡ Some f
