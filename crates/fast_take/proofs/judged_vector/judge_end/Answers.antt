use Rattle.fast_take.proofs.Common.{true, arith, length, ◌-◌, units_of}
use Rattle.fast_take.proofs.TextRelaying.{text_few}
use Rattle.fast_take.proofs.VectorTexts.{end_gives, joined_text}
use Rattle.fast_take.proofs.Giving.{if_some}
use Rattle.fast_take.proofs.judged_vector.judge_end.Goals as goal

pub put_part-requires-clause-text : goal.put_part-requires-clause-text
put_part-requires-clause-text c =
    let i = c.args.instr.now in
    let value = c.args.value.now in
    let text = c.is_text.ensures c.if-not-is_text.false in
    let few = text_few i.kind value text in
    let le = rw c.units-base.ensures at c.if-part-base.false in
    rw c.units-base.ensures
    (joined_text i.kind value (length (units_of value) - length c.args.part.now) c.args.part.now c.requires.kind text (omega arith)
    (omega (arith, few, le)) (rw c.units-base.ensures at (c.may_end.ensures c.if-not-may_end.false)) (c.are_text.ensures c.if-not-are_text.false))

pub returns-clause-gives : goal.returns-clause-gives
returns-clause-gives c =
    let value = c.args.value.now in
    let s = c.args.part.now in
    let le = rw c.units-base.ensures at c.if-part-base.false in
    rw c.then_some.ensures
    (if_some _ c.put_part.result true
    (λ put. rw (c.put_part.ensures.put put, c.units-base.ensures)
    (end_gives c.args.instr.now value (length (units_of value) - length s) s c.requires.kind c.requires.part c.requires.operator (c.is_text.ensures c.if-not-is_text.false) (omega (arith, le)) (c.goes_on_otherwise.ensures.some c.if-not-goes_on_otherwise.false)
    (rw c.units-base.ensures at (c.goes_on_otherwise.ensures.prefix c.if-not-goes_on_otherwise.false)) (rw c.units-base.ensures at (c.may_end.ensures c.if-not-may_end.false)) (c.are_text.ensures c.if-not-are_text.false))))
