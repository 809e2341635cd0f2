use Rattle.fast_take.proofs.Common.{◌-◌, length, Skips}
use Rattle.fast_take.proofs.utf8.skip_pairs.Given as goal

abbrev pub invariant-loop-next : goal.invariant-loop-next
invariant-loop-next l = Skips l.units l.fn.at l.next

abbrev pub decreases-loop-next : goal.decreases-loop-next
decreases-loop-next l = length l.units - l.next
