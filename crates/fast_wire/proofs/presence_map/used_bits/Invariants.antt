use Rattle.fast_wire.proofs.Common.{◌≡◌, ◌≤◌, ℕ, false, bit_at}
use Rattle.fast_wire.proofs.presence_map.used_bits.Given as goal

abbrev pub invariant-loop-i : goal.invariant-loop-i
invariant-loop-i l = (k : ℕ) → l.i ≤ k → bit_at l.bits k ≡ false
