-- How strictly bytes are read: entities that are longer than their value needs, and forms that begin with one.
-- FAST 1.1, Transfer Encoding, Integer, String and Presence Map. (A NULL is judged like any number: own.)
use Rattle.std.specs.Prelude.{◌≡◌, ℕ, Bool, true, false, ◌&&◌, ◌||◌, nat_eq, nat_lt, nat_le, if◌then◌else◌, List, [], ◌∷◌, ◌++◌, Result, Ok, Err}
use Rattle.fast_wire.specs.Entity.{IsEntity, groups}
use Rattle.fast_wire.specs.Reading.{◌>>=◌, entity_at}
use Rattle.fast_wire.specs.declared.fault.WireFault.{WireFault}
use Rattle.fast_wire.specs.declared.level.Level.{Level}
use Rattle.fast_wire.specs.declared.level.Level.TheVariants.{Usual, Strict}

-- ---- entities that are longer than they need be, by their groups

-- a first group of 0 before another group
abbrev pub begins_with_zero : List ℕ → Bool
begins_with_zero (g ∷ h ∷ gs) = nat_eq g 0
begins_with_zero gs = false

-- a first group that only repeats the sign bit of the second
abbrev pub repeats_sign : List ℕ → Bool
repeats_sign (g ∷ h ∷ gs) = (nat_eq g 0 && nat_lt h 64) || (nat_eq g 127 && nat_le 64 h)
repeats_sign gs = false

-- the last group is 0
abbrev pub last_is_zero : List ℕ → Bool
last_is_zero [] = false
last_is_zero (g ∷ []) = nat_eq g 0
last_is_zero (g ∷ h ∷ gs) = last_is_zero (h ∷ gs)

-- a last group of 0 behind another group
abbrev pub ends_with_zero : List ℕ → Bool
ends_with_zero (g ∷ h ∷ gs) = last_is_zero (h ∷ gs)
ends_with_zero gs = false

-- a preamble before a character other than NUL
abbrev pub preamble_for_nothing : List ℕ → Bool
preamble_for_nothing (g ∷ h ∷ gs) = nat_eq g 0 && nat_lt 0 h
preamble_for_nothing gs = false

-- the same of the nullable form, whose preamble may have two groups
abbrev pub two_for_nothing : List ℕ → Bool
two_for_nothing (g ∷ h ∷ i ∷ gs) = nat_eq g 0 && nat_eq h 0 && nat_lt 0 i
two_for_nothing gs = false

abbrev pub overlong_unsigned : List ℕ → Bool
overlong_unsigned bytes = begins_with_zero (groups bytes)

abbrev pub overlong_signed : List ℕ → Bool
overlong_signed bytes = repeats_sign (groups bytes)

abbrev pub overlong_map : List ℕ → Bool
overlong_map bytes = ends_with_zero (groups bytes)

abbrev pub overlong_ascii : List ℕ → Bool → Bool
overlong_ascii bytes false = preamble_for_nothing (groups bytes)
overlong_ascii bytes true = preamble_for_nothing (groups bytes) || two_for_nothing (groups bytes)

-- ---- forms at a level

-- the bytes begin with an entity that is not overlong
pub record BeginsShort (overlong : List ℕ → Bool) (bytes : List ℕ) : Type 0 where
  pub entity : List ℕ
  pub behind : List ℕ
  pub parts : bytes ≡ entity ++ behind
  pub is_entity : IsEntity entity
  pub is_short : overlong entity ≡ false

-- At the strict level the entity that a form begins with is not overlong; at the usual level each form may stand.
abbrev pub AtLevel : {V : Type 0} → Level → (List ℕ → Bool) → (List ℕ → V → Type 0) → List ℕ → V → Type 0
AtLevel Usual overlong Form bytes v = Form bytes v
AtLevel Strict overlong Form bytes v = BeginsShort overlong bytes × Form bytes v

-- whether an entity that was looked for is there, and not overlong
abbrev pub verdict : {F : Type 0} → (List ℕ → Bool) → (WireFault → F) → F → Result (List ℕ × List ℕ) WireFault → Result (Unit {0}) F
verdict overlong of_wire f (Ok e) = if overlong e.0 then Err f else Ok tt
verdict overlong of_wire f (Err w) = Err (of_wire w)

-- At the strict level the entity that the bytes begin with is judged once its stop bit has come within the limit; at
-- the usual level none is.
abbrev pub judge : {F : Type 0} → Level → ℕ → (List ℕ → Bool) → (WireFault → F) → F → List ℕ → Result (Unit {0}) F
judge Usual limit overlong of_wire f bytes = Ok tt
judge Strict limit overlong of_wire f bytes = verdict overlong of_wire f (entity_at limit bytes)

-- it is judged before all else that a reading looks at
abbrev pub judged : {A F : Type 0} → Level → ℕ → (List ℕ → Bool) → (WireFault → F) → F → (List ℕ → Result (A × List ℕ) F) → List ℕ → Result (A × List ℕ) F
judged level limit overlong of_wire f read bytes = judge level limit overlong of_wire f bytes >>= λ _. read bytes

-- ---- bits that no instruction asked for

-- one of them is 1
abbrev pub some_set : List Bool → Bool
some_set [] = false
some_set (bit ∷ bits) = bit || some_set bits

abbrev pub IsLeftClear : Level → List Bool → Type 0
IsLeftClear Usual left = Unit {0}
IsLeftClear Strict left = some_set left ≡ false
