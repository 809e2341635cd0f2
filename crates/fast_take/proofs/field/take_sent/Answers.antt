use Rattle.std.proofs.Common.{◌≡◌, rules}
use Rattle.fast_value.specs.declared.kind.Operator.{Operator}
use Rattle.fast_take.proofs.AtOnce.{constant_took}
use Rattle.fast_take.proofs.field.take_sent.Goals as goal

pub returns-in-Stands-clause-taken : goal.returns-in-Stands-clause-taken
returns-in-Stands-clause-taken c =
    let constant : c.args.instr.now.operator ≡ Operator.Constant = search rules in
    constant_took c.args.level c.args.instr.now c.args.entry.now c.args.bytes.now c.args.at c.in-Stands.next c.args.aside.now constant c.in-Stands.ensures
