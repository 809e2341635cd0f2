use Rattle.std.proofs.Common.{◌≡◌, rules}
use Rattle.fast_value.specs.declared.kind.Operator.{Operator}
use Rattle.fast_take.proofs.AtOnce.{constant_usual}
use Rattle.fast_take.proofs.judged.judge_field.Goals as goal

pub returns-then-eq-clause-usual : goal.returns-then-eq-clause-usual
returns-then-eq-clause-usual c = λ found.
    let constant : c.args.instr.now.operator ≡ Operator.Constant = search rules in
    constant_usual c.args.level c.args.instr.now _ constant
