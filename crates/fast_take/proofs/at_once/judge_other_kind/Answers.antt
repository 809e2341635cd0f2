use Rattle.fast_take.proofs.AtOnce.{if_judged, kept_lays}
use Rattle.fast_take.proofs.at_once.judge_other_kind.Goals as goal

pub returns-then-not-keeps_nothing-clause-aside : goal.returns-then-not-keeps_nothing-clause-aside
returns-then-not-keeps_nothing-clause-aside c =
    if_judged c.judge_long.result _ (kept_lays c.args.instr.now c.args.entry.now c.args.bytes.now c.args.at _ (c.keeps_nothing.ensures.other c.if-not-keeps_nothing.true))
