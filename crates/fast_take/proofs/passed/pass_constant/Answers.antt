use Rattle.fast_field.proofs.Passing.{constant_passes}
use Rattle.fast_take.proofs.passed.pass_constant.Goals as goal

pub returns-in-Optional : goal.returns-in-Optional
returns-in-Optional c = constant_passes c.args.instr.now c.args.entry.now c.requires c.in-Optional.is
