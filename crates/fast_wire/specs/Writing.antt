-- What a writer of a value appends.
use Rattle.std.specs.Prelude.{◌≡◌, ℕ, ◌+◌, ◌<◌, ◌≤◌, ◌⊎◌, List, ◌++◌, length, All, Bool, drop, Result, Err, OnOk, IfErr, OnErr, Vec, vec_len, vec_capacity}
use Rattle.std.specs.declared.alloc.Global.{Global}
use Rattle.fast_wire.specs.Nullable.{IsNullOr, units}
use Rattle.fast_wire.specs.PresenceMap.{HasSetBit}
use Rattle.fast_wire.specs.declared.fault.WireFault.{WireFault}
use Rattle.fast_wire.specs.declared.nullable.Nullable.{Nullable}

-- the bytes are a form of v, and no form of v has fewer bytes
pub record IsShortest {V : Type 0} (Form : List ℕ → V → Type 0)
    (bytes : List ℕ) (v : V) : Type 0 where
  pub form : Form bytes v
  pub least : (other : List ℕ) → Form other v → length bytes ≤ length other

-- the new bytes are the old ones, and behind them a shortest form of the value
abbrev pub AppendsShortest : {V : Type 0} → (List ℕ → V → Type 0) → List ℕ → List ℕ → V → Type 0
AppendsShortest Form old new v = (bytes : List ℕ) × (new ≡ old ++ bytes) × IsShortest Form bytes v

-- the number of bytes of a shortest form
abbrev pub IsShortestSize : {V : Type 0} → (List ℕ → V → Type 0) → V → ℕ → Type 0
IsShortestSize Form v n = (bytes : List ℕ) × IsShortest Form bytes v × (n ≡ length bytes)

-- a shortest form of the value does not fit the room that is there
abbrev pub FitsNot : {V : Type 0} → (List ℕ → V → Type 0) → Vec ℕ Global → V → Type 0
FitsNot Form out v = (n : ℕ) × IsShortestSize Form v n × (vec_capacity out < vec_len out + n)

-- what a call that appends a form of a value answers, and leaves behind
pub record Writes {V : Type 0} (Form : List ℕ → V → Type 0) (Refused : V → WireFault → Type 0)
    (old new : Vec ℕ Global) (v : V) (r : Result (Unit {0}) WireFault) : Type 0 where
  -- a shortest form stands behind what was there
  pub ok : OnOk r (AppendsShortest Form old.items new.items v)
  -- a value that has no form is refused
  pub refused : (e : WireFault) → Refused v e → r ≡ Err e
  -- nothing else is refused, unless memory was for a form that did not fit what was there
  pub err : IfErr r (λ e. Refused v e ⊎ ((e ≡ WireFault.Memory) × FitsNot Form old v))
  -- what was refused appended nothing
  pub unchanged : OnErr r (new.items ≡ old.items)

-- every value has a form
abbrev pub NeverRefused : {V : Type 0} → V → WireFault → Type 0
NeverRefused v e = ⊥

-- the value is none that can have a form
abbrev pub OutOfRange : {V : Type 0} → (V → Type 0) → V → WireFault → Type 0
OutOfRange Can v e = (e ≡ WireFault.Range) × (Can v → ⊥)

-- there are too many bytes
abbrev pub TooManyBytes : Nullable (List ℕ) → WireFault → Type 0
TooManyBytes s e = (e ≡ WireFault.TooLong) × (65535 < units s)

-- a character is above 127; or else there are too many
abbrev pub NoText : Nullable (List ℕ) → WireFault → Type 0
NoText s e = ((e ≡ WireFault.Range) × (IsNullOr (All (λ c. c < 128)) s → ⊥))
    ⊎ ((e ≡ WireFault.TooLong) × IsNullOr (All (λ c. c < 128)) s × (65535 < units s))

-- a bit is 1 that 256 groups do not reach
abbrev pub TooManyBits : List Bool → WireFault → Type 0
TooManyBits bits e = (e ≡ WireFault.TooLong) × HasSetBit (drop 1792 bits)
