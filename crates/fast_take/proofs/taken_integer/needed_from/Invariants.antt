use Rattle.std.proofs.Common.{◌≤◌, ◌-◌, slice_range}
use Rattle.fast_take.proofs.TakenIntegers.{SpellsSame}
use Rattle.fast_take.proofs.taken_integer.needed_from.Given as goal

abbrev pub invariant-loop-first : goal.invariant-loop-first
invariant-loop-first l = record { above : l.at ≤ l.first; below : l.first ≤ l.next; same : SpellsSame l.unsigned (slice_range l.bytes l.at l.next) (slice_range l.bytes l.first l.next) }

abbrev pub decreases-loop-first : goal.decreases-loop-first
decreases-loop-first l = l.next - l.first
