-- The number of a packet in the lines of its messages (our own).
use Rattle.std.specs.Prelude.{ℕ, ◌==◌, Bool, true, false, List, [], ◌∷◌, ◌++◌, codes, decimal}

-- bytes with a label behind the first byte of each line; whether they begin one
abbrev pub labelled : List ℕ → Bool → List ℕ → List ℕ
labelled label begins [] = []
labelled label true (b ∷ bytes) = b ∷ (label ++ labelled label (b == 10) bytes)
labelled label false (b ∷ bytes) = b ∷ labelled label (b == 10) bytes

-- the member of a line of JSON that says which packet its message is of
abbrev pub packet_label : ℕ → List ℕ
packet_label n = codes "\"packet\":" ++ (decimal n ++ codes ",")

-- the lines of a packet, each of which says its number first
abbrev pub numbered : ℕ → List ℕ → List ℕ
numbered n = labelled (packet_label n) true
