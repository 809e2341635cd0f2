use Rattle.fast_load.proofs.Common.{arith, common_steps}
use Rattle.fast_load.proofs.flat_lists.without_members.Goals as goal

pub loop-template-preserved : goal.loop-template-preserved
loop-template-preserved c = grind (arith, common_steps)

pub returns : goal.returns
returns c = grind (arith, common_steps)
