use Rattle.fast_spelled.specs.Tokens.{AreFilled}
use Rattle.fast_spelled.proofs.members.filled_in_front.Given as goal

abbrev pub invariant-loop-place : goal.invariant-loop-place
invariant-loop-place l = AreFilled l.slots l.place
