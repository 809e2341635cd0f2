-- Bytes as the tables of FAST write them.
use Rattle.fast_stream.proofs.Common.{ℕ, ◌+◌, ◌-◌, ◌*◌, List, [], ◌∷◌, codes, nat_lt, if◌then◌else◌, String}

-- the value of a digit, in upper case
abbrev digit : ℕ → ℕ
digit c = if nat_lt c 58 then c - 48 else c - 55

-- two digits a byte, with a blank between two bytes
abbrev pub bytes_of : List ℕ → List ℕ
bytes_of [] = []
bytes_of (a ∷ []) = []
bytes_of (a ∷ b ∷ []) = (16 * digit a + digit b) ∷ []
bytes_of (a ∷ b ∷ blank ∷ cs) = (16 * digit a + digit b) ∷ bytes_of cs

-- the bytes of a text such as "F0 81"
abbrev pub hex : String → List ℕ
hex s = bytes_of (codes s)
