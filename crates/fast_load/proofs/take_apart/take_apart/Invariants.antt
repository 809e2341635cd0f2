use Rattle.std.proofs.Common.{length}
use Rattle.fast_load.proofs.take_apart.take_apart.Given as goal

abbrev pub decreases-loop-template : goal.decreases-loop-template
decreases-loop-template l = length l.templates.items
