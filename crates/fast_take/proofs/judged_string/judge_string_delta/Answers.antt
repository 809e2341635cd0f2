use Rattle.fast_take.proofs.Common.{◌+◌, ◌-◌, ◌++◌, length, take, slice_range, arith, groups, Ascii}
use Rattle.fast_take.proofs.LevelsAlike.{text_cut_as_usual}
use Rattle.fast_take.proofs.StringJudging.{cut_stands}
use Rattle.fast_take.proofs.judged_string.judge_string_delta.Goals as goal

pub returns-then-replace_end : goal.returns-then-replace_end
returns-then-replace_end c =
    let text = c.args.text.now in
    let bytes = c.args.bytes.now in
    let removed = c.in-Some.removed in
    let first = c.args.at + 1 in
    let next = c.in-Some-short_plain_end.next in
    let place = c.in-Some-short_plain_end.ensures.place in
    let put = c.replace_end.ensures.put c.if-replace_end.true in
    let many = c.replace_end.ensures.many c.if-replace_end.true in
    let value = Ascii (take (length text - removed) text ++ groups (slice_range bytes first next)) in
    let stands = cut_stands c.args.instr.now text bytes removed c.args.at first next
    c.requires.kind c.requires.part c.requires.operator c.requires.kept
    c.in-Some.ensures.few many.0 (omega arith) (omega (arith, place))
    (omega (arith, many, c.requires.kept.0)) c.in-Some.ensures.stands c.in-Some-short_plain_end.ensures.plain
    (rw put at c.replace_end.ensures.prefix c.if-replace_end.true) (rw put at c.replace_end.ensures.end c.if-replace_end.true) in
    rw put
    (record {
      judged = record { place = omega (arith, place); within = place.1; gives = (value, stands) };
      usual = λ found level. text_cut_as_usual level c.args.instr.now _ bytes c.args.at first next _ _ c.requires.kind c.requires.operator (omega arith) (omega (arith, place)) c.in-Some.ensures.stands c.in-Some-short_plain_end.ensures.plain;
    })
