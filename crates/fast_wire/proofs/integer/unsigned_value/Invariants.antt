use Rattle.fast_wire.proofs.Common.{◌≡◌, ◌^◌, ◌<◌, take, unsigned_of}
use Rattle.fast_wire.proofs.integer.unsigned_value.Given as goal

abbrev pub invariant-loop-byte : goal.invariant-loop-byte
invariant-loop-byte l = (l.value ≡ unsigned_of (take l.byte-index l.entity)) × (l.value < 128 ^ l.byte-index)
