use Rattle.std.proofs.Common.{arith}
use Rattle.fast_take.proofs.AtOnce.{if_judged, text_lays}
use Rattle.fast_take.proofs.LevelsAlike.{text_as_usual}
use Rattle.fast_take.proofs.at_once.judge_text_aside.Goals as goal

pub returns-clause-usual : goal.returns-clause-usual
returns-clause-usual c = λ found.
    let p = c.in-Some in
    text_as_usual c.args.level c.args.instr.now c.args.bytes.now c.args.at p.first p.next _ _ c.requires.kind (λ delta. rw delta at c.requires.keeps) (omega (arith, p.ensures.place)) (c.is_refused.ensures c.if-is_refused.false) p.ensures.plain

pub returns-clause-aside : goal.returns-clause-aside
returns-clause-aside c =
    let p = c.in-Some in
    if_judged c.judge_characters.result _ (text_lays c.args.instr.now c.args.entry.now c.args.bytes.now c.args.at p.first p.next c.requires.kind c.requires.part p.ensures.plain)
