use Rattle.fast_wire.proofs.Common.{◌≡◌, ◌≤◌, ◌<◌, ℕ, false, groups, bits_of, bit_at}
use Rattle.fast_wire.proofs.bits.LongBits.left_set.Given as goal

abbrev pub invariant-loop-i : goal.invariant-loop-i
invariant-loop-i l = (k : ℕ) → l.self-inside.place ≤ k → k < l.i → bit_at (bits_of (groups l.self-inside.bytes.items)) k ≡ false
