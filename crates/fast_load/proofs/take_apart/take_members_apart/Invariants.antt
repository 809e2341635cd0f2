use Rattle.fast_load.specs.InOrder.{count_in}
use Rattle.fast_load.proofs.take_apart.take_members_apart.Given as goal

abbrev pub decreases-loop-instruction : goal.decreases-loop-instruction
decreases-loop-instruction l = count_in l.pile.items
