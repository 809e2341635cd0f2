use Rattle.std.proofs.Common.{◌≡◌, ◌-◌, ◌^◌, ◌<◌, ◌≤◌}
use Rattle.fast_wire.proofs.integer.least_size.Given as goal

abbrev pub invariant-loop-size : goal.invariant-loop-size
invariant-loop-size l = (l.limit ≡ 128 ^ l.size) × (1 < l.size → 128 ^ (l.size - 1) ≤ l.value)
