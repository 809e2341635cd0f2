use Rattle.fast_draft.proofs.Ending.{ends_bare}
use Rattle.fast_draft.proofs.OneByte.{ends_byte}
use Rattle.fast_draft.proofs.level.end.Goals as goal

pub returns-then-level-eq1-clause-ends : goal.returns-then-level-eq1-clause-ends
returns-then-level-eq1-clause-ends c = ends_byte c.args.level c.args.out.now.items c.index_mut.result.now c.index_mut.ensures.value c.requires c.if-level-eq1.true

pub returns-then-level-eq0-clause-ends : goal.returns-then-level-eq0-clause-ends
returns-then-level-eq0-clause-ends c = ends_bare c.args.level c.args.out.now.items c.if-level-eq0.true
