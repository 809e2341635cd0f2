use Rattle.fast_take.proofs.Common.{◌-◌, length, Skips}
use Rattle.fast_take.proofs.utf8.is_utf8.Given as goal

abbrev pub invariant-loop-at : goal.invariant-loop-at
invariant-loop-at l = Skips l.units 0 l.at

abbrev pub decreases-loop-at : goal.decreases-loop-at
decreases-loop-at l = length l.units - l.at
