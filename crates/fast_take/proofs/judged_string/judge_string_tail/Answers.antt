use Rattle.std.proofs.Common.{◌≡◌, ◌∙◌, sym, arith}
use Rattle.fast_value.specs.declared.kind.Operator.{Operator}
use Rattle.fast_take.proofs.LevelsAlike.{text_as_usual}
use Rattle.fast_take.proofs.judged_string.judge_string_tail.Goals as goal

pub returns-clause-usual : goal.returns-clause-usual
returns-clause-usual c = λ found.
    let sent = c.in-Some.ensures in
    text_as_usual c.args.level c.args.instr.now c.args.bytes.now c.args.at c.in-Some.first c.in-Some.next _ _ c.requires.kind
    (λ is. let other : Operator.Tail ≡ Operator.Delta = sym c.requires.operator ∙ is in cc) (omega (arith, sent.place)) (c.is_refused.ensures c.if-is_refused.false) sent.gives.plain
