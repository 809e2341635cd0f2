-- The bits of a presence map that is read or written, as they are kept.
use Rattle.std.specs.Prelude.{ℕ, ◌-◌, Bool, List, [], ◌∷◌, Option, None, Some, Box}
use Rattle.std.specs.Int.{w64, leading_zeros}
use Rattle.std.specs.declared.alloc.Global.{Global}
use Rattle.fast_wire.specs.declared.bits.LongBits.{LongBits}
use Rattle.fast_wire.specs.PresenceMap.{word_bits}

-- how many bits stand behind a word's first 1
abbrev pub marked_count : ℕ → ℕ
marked_count word = 63 - leading_zeros w64 word

-- those of a list, or where it is empty those of a word behind its first 1
abbrev pub kept_bits : List Bool → ℕ → List Bool
kept_bits [] word = word_bits (marked_count word) word
kept_bits (bit ∷ bits) word = bit ∷ bits

-- those that may stand behind a word's
abbrev pub bits_behind : Option (Box LongBits Global) → List Bool
bits_behind None = []
bits_behind (Some bits) = bits.value
