use Rattle.std.proofs.Common.{true, false}
use Rattle.fast_take.proofs.Giving.{if_some}
use Rattle.fast_take.proofs.StringJudging.{text_gives}
use Rattle.fast_take.proofs.judged_string.judge_plain.Goals as goal

pub returns-then-branch-clause-gives : goal.returns-then-branch-clause-gives
returns-then-branch-clause-gives c =
    rw c.then_some.ensures
    (if_some _ c.keep_plain.result true
    (λ kept. text_gives true c.args.instr.now c.args.entry.now c.keep_plain.new.entry c.args.form.now c.requires.kind c.requires.part c.requires.operator
    (record { entry = c.keep_plain.ensures.kept kept; left_out = rw c.if-branch.true at c.in_ok-text_bit.ensures })))

pub returns-else-branch-clause-gives : goal.returns-else-branch-clause-gives
returns-else-branch-clause-gives c =
    text_gives false c.args.instr.now c.args.entry.now c.args.entry.now c.args.form.now c.requires.kind c.requires.part c.requires.operator (rw c.if-branch.false at c.in_ok-text_bit.ensures)
