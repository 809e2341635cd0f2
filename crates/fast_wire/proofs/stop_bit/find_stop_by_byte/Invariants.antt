use Rattle.std.proofs.Common.{ℕ, ◌<◌, slice_index}
use Rattle.fast_wire.proofs.stop_bit.find_stop_by_byte.Given as goal

abbrev pub invariant-loop-i : goal.invariant-loop-i
invariant-loop-i l = (k : ℕ) → k < l.i → slice_index l.bytes k < 128
