use Rattle.fast_take.proofs.Common.{◌-◌, ◌≡◌, length, take, drop, arith, length-drop, take_all, true, false}
use Rattle.fast_take.proofs.StringJudging.{end_given, end_stands}
use Rattle.fast_take.proofs.Giving.{if_some}
use Rattle.fast_take.proofs.judged_string.judge_end.Goals as goal

pub returns-then-agrees_no_further-clause-gives : goal.returns-then-agrees_no_further-clause-gives
returns-then-agrees_no_further-clause-gives c =
    rw c.then_some.ensures
    (if_some _ c.put_characters.result true
    (λ put. rw (c.put_characters.ensures.put put, ← c.as_slice-base.ensures)
    (end_stands c.args.instr.now c.as_slice-base.result.now c.args.form.now c.requires.kind c.requires.part c.requires.operator (rw c.as_slice-base.ensures c.requires.kept)
    (omega (arith, c.if-form-base.false)) (c.agrees_no_further.ensures c.if-agrees_no_further.true))))

pub returns-clause-gives : goal.returns-clause-gives
returns-clause-gives c =
    let base = c.as_slice-base.result.now in
    let form = c.args.form.now in
    let kept = length base - length form in
    let whole : take (length base - kept) (drop kept base) ≡ drop kept base = take_all (length base - kept) (drop kept base) (omega (arith, length-drop kept base)) in
    rw c.then_some-2.ensures
    (if_some _ c.is_text_of.result false
    (λ same. rw (← c.as_slice-base.ensures) (end_given c.args.instr.now base form c.requires.kind c.requires.part c.requires.operator (rw whole at (c.is_text_of.ensures.0 same)))))
