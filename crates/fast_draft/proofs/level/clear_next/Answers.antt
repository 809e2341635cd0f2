use Rattle.fast_draft.proofs.OneByte.{clears_first}
use Rattle.fast_draft.proofs.level.clear_next.Goals as goal

pub returns-then-level-gt0-clause-cleared : goal.returns-then-level-gt0-clause-cleared
returns-then-level-gt0-clause-cleared c =
    let l = c.args.level.now in clears_first l c.args.out.now.items c.index_mut.result.now c.index_mut.ensures.value c.requires c.if-level-lt7.true c.if-level-gt0.true
