use Rattle.std.proofs.Common.{rules}
use Rattle.fast_walk.proofs.walk.Walk.run.Goals as goal

pub returns-then-is_whole-clause-runs : goal.returns-then-is_whole-clause-runs
returns-then-is_whole-clause-runs g c = (search rules, c.is_whole.ensures.yes c.if-is_whole.true)
