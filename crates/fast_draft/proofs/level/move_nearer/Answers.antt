use Rattle.std.proofs.Common.{◌<◌, length, arith}
use Rattle.fast_draft.proofs.Nearer.{moved_more}
use Rattle.fast_draft.proofs.level.move_nearer.Goals as goal

pub loop-level-preserved : goal.loop-level-preserved
loop-level-preserved c =
    let l = c.loop-level in
    let lt : l.level-index < length l.levels = omega arith in
    rw (c.saturating_sub.ensures) (moved_more c.args.count l.levels c.args.levels.now l.level-index lt l.invariant)
