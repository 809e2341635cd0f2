use Rattle.std.proofs.Common.{◌≡◌, rules, arith}
use Rattle.fast_value.specs.declared.kind.Operator.{Operator}
use Rattle.fast_take.proofs.LevelsAlike.{vector_as_usual}
use Rattle.fast_take.proofs.judged_vector.judge_vector_at.Goals as goal

pub returns-in-Some-clause-usual : goal.returns-in-Some-clause-usual
returns-in-Some-clause-usual c = λ found.
    let i = c.args.instr.now in
    let sent = c.in-Some.ensures in
    let other : i.operator ≡ Operator.Delta → ⊥ = search rules in
    vector_as_usual c.args.level i sent.length.0 c.args.bytes.now c.args.at c.in-Some.start c.requires.kind other (omega (arith, sent.start)) sent.length.1
