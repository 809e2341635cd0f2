-- FAST 1.1, Transfer Encoding, Integer Representation: integers as entities of at most ten groups (the limit
-- is our own).
use Rattle.std.specs.Prelude.{◌≡◌, ℕ, ℤ, pos, negsuc, ◌^◌, ◌≤◌, ◌-ℤ◌, List, [], ◌∷◌, length, nat_le, Bool, false, if◌then◌else◌}
use Rattle.fast_wire.specs.Entity.{IsSpelled, groups, number_of}

-- the number that an entity's groups spell
abbrev pub unsigned_of : List ℕ → ℕ
unsigned_of bytes = number_of (groups bytes)

-- the first of some groups has its top bit, the sign bit, set
abbrev pub is_negative : List ℕ → Bool
is_negative [] = false
is_negative (g ∷ gs) = nat_le 64 g

-- the number that an entity's groups spell as two's complement
abbrev pub signed_of : List ℕ → ℤ
signed_of bytes =
    if is_negative (groups bytes) then pos (unsigned_of bytes) -ℤ pos (128 ^ length bytes)
    else pos (unsigned_of bytes)

-- the bytes are an entity of at most ten groups, and spell v
abbrev pub IsUnsigned : List ℕ → ℕ → Type 0
IsUnsigned bytes v = IsSpelled 10 (λ b v. v ≡ unsigned_of b) bytes v

-- the bytes are an entity of at most ten groups, and spell v as two's complement
abbrev pub IsSigned : List ℕ → ℤ → Type 0
IsSigned bytes v = IsSpelled 10 (λ b v. v ≡ signed_of b) bytes v

-- n for n from 0 up, and n for -1 - n: a number less its sign bit
abbrev pub magnitude : ℤ → ℕ
magnitude (pos n) = n
magnitude (negsuc n) = n

-- both are from zero up, or both below it, and the second is as far from zero as the first or farther
abbrev pub IsNoCloser : ℤ → ℤ → Type 0
IsNoCloser (pos a) (pos b) = a ≤ b
IsNoCloser (negsuc a) (negsuc b) = a ≤ b
IsNoCloser (pos a) (negsuc b) = ⊥
IsNoCloser (negsuc a) (pos b) = ⊥
