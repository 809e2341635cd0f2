-- FAST 1.1, Transfer Encoding, Stop Bit Encoded Entities: a run of bytes of which the last has its high bit
-- set and no other has.
use Rattle.std.specs.Prelude.{ℕ, ◌+◌, ◌*◌, ◌%◌, ◌^◌, ◌<◌, ◌≤◌, ◌≡◌, List, [], ◌∷◌, length, map, slice_index}

-- the last byte is from 128 to 255, and each byte before it is below 128
abbrev pub IsEntity : List ℕ → Type 0
IsEntity [] = ⊥
IsEntity (b ∷ []) = (128 ≤ b) × (b < 256)
IsEntity (b ∷ c ∷ bs) = (b < 128) × IsEntity (c ∷ bs)

-- the groups: the low seven bits of each byte
abbrev pub groups : List ℕ → List ℕ
groups bytes = map (λ b. b % 128) bytes

-- n groups, the most significant first: group i stands for itself times 128 ^ (n - 1 - i)
abbrev pub number_of : List ℕ → ℕ
number_of [] = 0
number_of (g ∷ gs) = g * 128 ^ length gs + number_of gs

-- the bytes are an entity of at most so many bytes, and spell v
pub record IsSpelled {V : Type 0} (limit : ℕ) (Spells : List ℕ → V → Type 0)
    (bytes : List ℕ) (v : V) : Type 0 where
  pub entity : IsEntity bytes
  pub short : length bytes ≤ limit
  pub value : Spells bytes v

-- an entity of at most so many bytes, as it stands
abbrev pub IsEntityWithin : ℕ → List ℕ → List ℕ → Type 0
IsEntityWithin limit bytes entity = IsSpelled limit (λ b e. b ≡ e) bytes entity

-- no byte has its high bit set
abbrev pub HasNoStop : List ℕ → Type 0
HasNoStop bytes = (k : ℕ) → k < length bytes → slice_index bytes k < 128

-- the first byte with its high bit set is at i
pub record IsFirstStop (bytes : List ℕ) (i : ℕ) : Type 0 where
  pub within : i < length bytes
  pub stop : 128 ≤ slice_index bytes i
  pub before : (k : ℕ) → k < i → slice_index bytes k < 128

-- r of the 16 bytes from at on come before the first with its high bit set
pub record IsRun (bytes : List ℕ) (at r : ℕ) : Type 0 where
  pub within : r ≤ 16
  pub before : (k : ℕ) → at ≤ k → k < at + r → slice_index bytes k < 128
  pub stop : r < 16 → 128 ≤ slice_index bytes (at + r)
