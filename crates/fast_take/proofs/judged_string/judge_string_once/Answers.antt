use Rattle.fast_take.proofs.Common.{refl, sym, arith, slice_range, groups, Ascii}
use Rattle.fast_take.proofs.LevelsAlike.{text_as_usual, whole_is_no_delta}
use Rattle.fast_take.proofs.StringJudging.{text_stands}
use Rattle.fast_take.proofs.NumberRelaying.{leaves}
use Rattle.fast_take.proofs.judged_string.judge_string_once.Goals as goal

pub returns-in-Some-true : goal.returns-in-Some-true
returns-in-Some-true c =
    let i = c.args.instr.now in
    let value = Ascii (groups (slice_range c.args.bytes.now c.args.at c.in-Some.next)) in
    let place = c.in-Some.ensures.place in
    record {
      judged = text_stands i c.args.entry.now c.args.entry.now c.args.bytes.now c.args.at c.in-Some.next c.requires.kind c.requires.part c.requires.operator place.0 place.1 c.in-Some.ensures.plain
          (record { entry = sym (leaves i.operator c.args.entry.now value c.requires.nowhere); left_out = rw (c.in-Some-true.field-0-test) at c.in-Some-true.ensures });
      usual = λ found. text_as_usual c.args.level i c.args.bytes.now c.args.at c.args.at c.in-Some.next _ _ c.requires.kind (whole_is_no_delta i.operator c.requires.operator) (omega (arith, place)) (λ strict. refl) c.in-Some.ensures.plain;
    }
