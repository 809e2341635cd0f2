use Rattle.fast_field.proofs.Passing.{empty_passes}
use Rattle.fast_take.proofs.passed.pass_empty.Goals as goal

pub returns-in-Optional : goal.returns-in-Optional
returns-in-Optional c = rw c.in-Empty.is (empty_passes c.args.instr.now c.requires.predicts c.in-Optional.is)
