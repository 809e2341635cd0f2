use Rattle.std.proofs.Common.{true, false}
use Rattle.fast_take.proofs.Giving.{if_some}
use Rattle.fast_take.proofs.VectorTexts.{units_give}
use Rattle.fast_take.proofs.judged_vector.judge_whole.Goals as goal

pub returns-then-branch-clause-gives : goal.returns-then-branch-clause-gives
returns-then-branch-clause-gives c =
    rw c.then_some.ensures
    (if_some _ c.keep_bytes.result true
    (λ kept. units_give true c.args.instr.now c.args.entry.now c.keep_bytes.new.entry c.args.part.now c.requires.kind c.requires.part c.requires.operator (c.are_text.ensures c.if-not-are_text.false)
    (record { entry = c.keep_bytes.ensures.kept kept; left_out = rw c.if-branch.true at c.in_ok-units_bit.ensures })))

pub returns-else-branch-clause-gives : goal.returns-else-branch-clause-gives
returns-else-branch-clause-gives c =
    units_give false c.args.instr.now c.args.entry.now c.args.entry.now c.args.part.now c.requires.kind c.requires.part c.requires.operator (c.are_text.ensures c.if-not-are_text.false) (rw c.if-branch.false at c.in_ok-units_bit.ensures)
