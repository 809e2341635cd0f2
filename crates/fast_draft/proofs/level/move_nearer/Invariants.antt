use Rattle.fast_draft.proofs.Nearer.{Moved}
use Rattle.fast_draft.proofs.level.move_nearer.Given as goal

abbrev pub invariant-loop-level : goal.invariant-loop-level
invariant-loop-level l = Moved l.fn.count l.levels l.fn.levels l.level-index
