-- What leads from one dictionary and list of bits to another.
use Rattle.fast_canon.proofs.Common.{ℕ, Bool, List, Dictionary, State}

-- bytes that lead from one state to another
abbrev pub Stage : Type 1
Stage = State → List ℕ → State → Type 0

abbrev pub with_bits : Dictionary → List Bool → State
with_bits d bits = record { dictionary = d; bits = bits }
