-- FAST 1.1, Transfer Encoding, Presence Map: the bits of an entity's groups, the most significant bit of a
-- group first.
use Rattle.std.specs.Prelude.{◌≡◌, ◌<◌, ◌⊎◌, ℕ, zero, suc, ◌^◌, ◌/◌, ◌%◌, Bool, true, false, nat_eq, List, [], ◌∷◌, slice_index_or}
use Rattle.std.specs.List.{flat_map}
use Rattle.fast_wire.specs.Entity.{IsSpelled, groups}

-- the seven bits of a group
abbrev pub group_bits : ℕ → List Bool
group_bits g =
    nat_eq (g / 64 % 2) 1 ∷ nat_eq (g / 32 % 2) 1 ∷ nat_eq (g / 16 % 2) 1 ∷ nat_eq (g / 8 % 2) 1
    ∷ nat_eq (g / 4 % 2) 1 ∷ nat_eq (g / 2 % 2) 1 ∷ nat_eq (g % 2) 1 ∷ []

abbrev pub bits_of : List ℕ → List Bool
bits_of gs = flat_map group_bits gs

-- bit i, which is 0 past the end
abbrev pub bit_at : List Bool → ℕ → Bool
bit_at bits i = slice_index_or bits i false

-- the next bit, which is 0 past the end
abbrev pub next_bit : List Bool → Bool
next_bit [] = false
next_bit (bit ∷ bits) = bit

-- the bits after the next one
abbrev pub later_bits : List Bool → List Bool
later_bits [] = []
later_bits (bit ∷ bits) = bits

-- the bytes are a map of at most 256 bytes (our own limit), and have these bits, up to zeros at the end
abbrev pub IsMap : List ℕ → List Bool → Type 0
IsMap bytes bits =
    IsSpelled 256 (λ b bits. (i : ℕ) → bit_at (bits_of (groups b)) i ≡ bit_at bits i) bytes bits

-- the bytes are such a map, and these are its bits, seven for each byte
abbrev pub IsWholeMap : List ℕ → List Bool → Type 0
IsWholeMap bytes bits = IsSpelled 256 (λ b bits. bits ≡ bits_of (groups b)) bytes bits

-- some bit is 1
abbrev pub HasSetBit : List Bool → Type 0
HasSetBit bits = (i : ℕ) × (bit_at bits i ≡ true)

-- the last n bits of a word
abbrev pub word_bits : ℕ → ℕ → List Bool
word_bits zero w = []
word_bits (suc n) w = nat_eq (w / 2 ^ n % 2) 1 ∷ word_bits n w

-- a mask is a power of two of a word, whose bits are counted from it down, or 0, which leaves none
abbrev pub IsMask : ℕ → Type 0
IsMask mask = (mask ≡ 0) ⊎ ((k : ℕ) × (k < 63) × (mask ≡ 2 ^ k))

-- the bit of a word at a mask and those below it, n at most
abbrev pub bits_under : ℕ → ℕ → ℕ → List Bool
bits_under zero mask w = []
bits_under (suc n) zero w = []
bits_under (suc n) (suc m) w = nat_eq (w / suc m % 2) 1 ∷ bits_under n (suc m / 2) w
