use Rattle.std.proofs.Common.{refl, arith}
use Rattle.fast_take.specs.Numbers.{SpellsWhole}
use Rattle.fast_take.proofs.LevelsAlike.{text_as_usual, whole_is_no_delta}
use Rattle.fast_take.proofs.StringJudging.{text_stands}
use Rattle.fast_take.proofs.judged_string.judge_string_copy.Goals as goal

pub returns-then-replace_string : goal.returns-then-replace_string
returns-then-replace_string c =
    let i = c.args.instr.now in
    let whole : SpellsWhole i.operator = rw c.requires.operator tt in
    let place = c.in-Some.ensures.place in
    record {
      judged = text_stands i c.args.entry.now c.replace_string.new.entry c.args.bytes.now c.args.at c.in-Some.next c.requires.kind c.requires.part whole place.0 place.1 c.in-Some.ensures.plain
          (record { entry = c.replace_string.ensures.kept c.if-replace_string.true; left_out = c.replace_string.ensures.sent c.if-replace_string.true });
      usual = λ found. text_as_usual c.args.level i c.args.bytes.now c.args.at c.args.at c.in-Some.next _ _ c.requires.kind (whole_is_no_delta i.operator whole) (omega (arith, place)) (λ strict. refl) c.in-Some.ensures.plain;
    }
