-- The shortest forms, made: what the writers append. No public clause names these.
use Rattle.std.specs.Prelude.{◌≡◌, ◌⊎◌, ℕ, ℤ, pos, ◌+ℤ◌, ◌-ℤ◌, ◌+◌, ◌-◌, ◌*◌, ◌/◌, ◌%◌, ◌^◌, ◌<◌, ◌≤◌, List, [], ◌∷◌, ◌++◌, length, replicate, slice_range, Bool, true, false, if◌then◌else◌, Result, OnOk, IfErr, Vec, vec_len, vec_capacity}
use Rattle.std.specs.declared.alloc.Global.{Global}
use Rattle.fast_wire.specs.Entity.{IsEntity}
use Rattle.fast_wire.specs.Integer.{magnitude, unsigned_of}
use Rattle.fast_wire.specs.PresenceMap.{bit_at}
use Rattle.fast_wire.specs.declared.fault.WireFault.{WireFault}
use Rattle.std.proofs.Common.{zero, suc}

-- the lowest n groups of v, the most significant first, and the stop bit on the last
abbrev pub entity_of : ℕ → ℕ → List ℕ
entity_of zero v = []
entity_of (suc zero) v = (v % 128 + 128) ∷ []
entity_of (suc (suc n)) v = (v / 128 ^ suc n % 128) ∷ entity_of (suc n) v

-- n is the least number of groups that v fits in, from 1 on
abbrev pub IsLeastSize : ℕ → ℕ → Type 0
IsLeastSize v n = (0 < n) × (n ≤ 10) × (v < 128 ^ n) × (1 < n → 128 ^ (n - 1) ≤ v)

-- n is the least number of groups whose top bit can be the sign, from 1 on
abbrev pub IsLeastSignedSize : ℤ → ℕ → Type 0
IsLeastSignedSize v n =
    (0 < n) × (n ≤ 10) × (magnitude v < 64 * 128 ^ (n - 1))
    × (1 < n → 64 * 128 ^ (n - 2) ≤ magnitude v)

-- the number 1 or 0
abbrev pub bit_number : Bool → ℕ
bit_number true = 1
bit_number false = 0

-- the group of the seven bits from a place on
abbrev pub group_from : List Bool → ℕ → ℕ
group_from bits from =
    64 * bit_number (bit_at bits from) + 32 * bit_number (bit_at bits (from + 1))
    + 16 * bit_number (bit_at bits (from + 2)) + 8 * bit_number (bit_at bits (from + 3))
    + 4 * bit_number (bit_at bits (from + 4)) + 2 * bit_number (bit_at bits (from + 5))
    + bit_number (bit_at bits (from + 6))

-- n groups of the bits from a place on, and the stop bit on the last
abbrev pub map_of : ℕ → List Bool → ℕ → List ℕ
map_of zero bits from = []
map_of (suc zero) bits from = (group_from bits from + 128) ∷ []
map_of (suc (suc n)) bits from = group_from bits from ∷ map_of (suc n) bits (from + 7)

-- how many bits there are up to the last 1
pub record IsUsed (bits : List Bool) (n : ℕ) : Type 0 where
  pub last : 0 < n → bit_at bits (n - 1) ≡ true
  pub rest : (i : ℕ) → n ≤ i → bit_at bits i ≡ false

-- n is the least number of groups that holds used bits, from 1 on
abbrev pub IsMapSize : ℕ → ℕ → Type 0
IsMapSize used n = (0 < n) × (n ≤ 256) × (used ≤ 7 * n) × (1 < n → 7 * (n - 1) < used)

-- groups less those in front that are 0, of which at most so many go
abbrev pub behind_zeros : ℕ → List ℕ → List ℕ
behind_zeros zero gs = gs
behind_zeros (suc most) [] = []
behind_zeros (suc most) (zero ∷ gs) = behind_zeros most gs
behind_zeros (suc most) (suc g ∷ gs) = suc g ∷ gs

-- how many groups of 0 stand in front of a string: a whole preamble if it is empty or begins with NUL
abbrev pub preamble_for : List ℕ → ℕ → ℕ
preamble_for [] preamble = preamble
preamble_for (zero ∷ s) preamble = preamble
preamble_for (suc c ∷ s) preamble = 0

-- groups as bytes, the stop bit on the last
abbrev pub stopped : List ℕ → List ℕ
stopped [] = []
stopped (g ∷ []) = (g + 128) ∷ []
stopped (g ∷ h ∷ gs) = g ∷ stopped (h ∷ gs)

-- so many groups of 0 and then a string
abbrev pub string_of : ℕ → List ℕ → List ℕ
string_of preamble s = stopped (replicate preamble 0 ++ s)

-- what a call that appends given bytes answers, and leaves behind
pub record Appends (bytes : List ℕ) (old new : Vec ℕ Global)
    (r : Result (Unit {0}) WireFault) : Type 0 where
  pub ok : OnOk r (new.items ≡ old.items ++ bytes)
  pub err : IfErr r (λ e. (e ≡ WireFault.Memory) × (new.items ≡ old.items)
      × (vec_capacity old < vec_len old + length bytes))

-- an entity of at most nine bytes stands there, and spells v
pub record IsShort (bytes : List ℕ) (at v next : ℕ) : Type 0 where
  pub after : at < next
  pub within : next ≤ length bytes
  pub short : next ≤ at + 9
  pub entity : IsEntity (slice_range bytes at next)
  pub value : v ≡ unsigned_of (slice_range bytes at next)

-- the number that n groups spell as v, in two's complement where it is below 0
abbrev pub under_sign : Bool → ℕ → ℕ → ℤ
under_sign negative n v = if negative then pos v -ℤ pos (128 ^ n) else pos v

-- an entity of at most nine bytes stands there, and spells this number
pub record IsShortUnder (negative : Bool) (bytes : List ℕ) (at : ℕ) (number : ℤ) (next : ℕ) : Type 0 where
  pub spelled : ℕ
  pub short : IsShort bytes at spelled next
  pub value : number ≡ under_sign negative (next - at) spelled

-- one group holds the signed number v, and it is g
pub record IsOneGroup (v : ℤ) (g : ℕ) : Type 0 where
  pub small : magnitude v < 64
  pub below : g < 128
  pub same : (pos g ≡ v) ⊎ (pos g ≡ v +ℤ pos 128)
