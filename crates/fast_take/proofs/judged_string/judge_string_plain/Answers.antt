use Rattle.std.proofs.Common.{refl, arith}
use Rattle.fast_wire.specs.declared.level.Level.TheVariants.{Strict}
use Rattle.fast_take.proofs.LevelsAlike.{text_as_usual, whole_is_no_delta}
use Rattle.fast_take.proofs.judged_string.judge_string_plain.Goals as goal

pub returns-in-Some-clause-usual : goal.returns-in-Some-clause-usual
returns-in-Some-clause-usual c = λ found.
    let i = c.args.instr.now in
    text_as_usual Strict i c.args.bytes.now c.args.at c.args.at c.in-Some.next _ _ c.requires.kind (whole_is_no_delta i.operator c.requires.operator) (omega (arith, c.in-Some.ensures.place)) (λ strict. refl) c.in-Some.ensures.plain
