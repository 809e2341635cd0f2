use Rattle.fast_spelled.proofs.Places.{Passed}
use Rattle.fast_spelled.proofs.members.place_of.Given as goal

abbrev pub invariant-loop-place : goal.invariant-loop-place
invariant-loop-place l = Passed l.members l.slots l.name l.place
