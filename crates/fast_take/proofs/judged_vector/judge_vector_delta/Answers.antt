use Rattle.fast_take.proofs.Common.{arith, drop, length, ◌-◌, refl, slice_range, pos, units_of}
use Rattle.fast_take.proofs.Ranges.{range_split}
use Rattle.fast_take.proofs.Standing.{shortest_signed}
use Rattle.fast_take.proofs.TextRelaying.{text_few}
use Rattle.fast_take.proofs.VectorTexts.{joined_text, vector_delta_judges}
use Rattle.fast_take.proofs.Giving.{if_some}
use Rattle.fast_take.proofs.judged_vector.judge_vector_delta.Goals as goal

pub put_part-requires-clause-text : goal.put_part-requires-clause-text
put_part-requires-clause-text c =
    let i = c.args.instr.now in
    let value = c.args.value.now in
    let s = slice_range c.args.bytes.now c.in_ok-start.start c.in_ok-start.next in
    let n = length (units_of value) - c.args.removed in
    let text = c.is_text.ensures c.if-not-is_text.false in
    let few = text_few i.kind value text in
    let short = rw c.units-base.ensures at c.if-part-kept.false in
    rw c.units-base.ensures
    (joined_text i.kind value n s c.requires.kind text (omega arith) (omega (arith, few, short)) (rw c.units-base.ensures at (c.may_end.ensures c.if-not-may_end.false)) (c.are_text.ensures c.if-not-are_text.false))

pub returns-clause-judged : goal.returns-clause-judged
returns-clause-judged c =
    let i = c.args.instr.now in
    let value = c.args.value.now in
    let bytes = c.args.bytes.now in
    let start = c.in_ok-start.start in
    let next = c.in_ok-start.next in
    let s = slice_range bytes start next in
    let r = c.args.removed in
    let n = length (units_of value) - r in
    let sent = c.requires.stands in
    let front = slice_range bytes c.args.first c.args.middle in
    let text = c.is_text.ensures c.if-not-is_text.false in
    let part = c.are_text.ensures c.if-not-are_text.false in
    let few = text_few i.kind value text in
    let short = rw c.units-base.ensures at c.if-part-kept.false in
    let le = rw c.units-base.ensures at c.if-removed-base.false in
    rw c.then_some.ensures
    (if_some _ c.put_part.result next (λ put. (
      c.put_part.new.value,
      rw (c.put_part.ensures.put put, c.units-base.ensures)
          (vector_delta_judges i value r n s (drop c.args.at bytes) (drop c.args.middle bytes) (drop next bytes) (slice_range bytes c.args.first next)
          c.requires.kind c.requires.part c.requires.operator text c.requires.few (omega (arith, le)) refl
          (rw c.units-base.ensures at (c.goes_on_otherwise.ensures.prefix c.if-not-goes_on_otherwise.false))
          (rw c.units-base.ensures at (c.is_vector_cut_at_end.ensures c.if-not-is_vector_cut_at_end.false))
          (omega (arith, few, short)) (rw c.units-base.ensures at (c.may_end.ensures c.if-not-may_end.false)) part sent.spelt c.in_ok-start.ensures.stands.spelt
          (record {
            front = front;
            back = slice_range bytes c.args.middle next;
            parts = range_split bytes c.args.first c.args.middle next c.requires.first (omega (arith, c.in_ok-start.ensures.start));
            first = shortest_signed i.presence (pos r) front sent.form sent.short;
            second = c.in_ok-start.ensures.stands.shortest part;
          })),
    )))
