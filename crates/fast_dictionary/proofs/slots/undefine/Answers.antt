use Rattle.fast_dictionary.proofs.Common.{rules, arith, common_steps}
use Rattle.fast_dictionary.proofs.slots.undefine.Goals as goal

pub returns-clause-undefined : goal.returns-clause-undefined
returns-clause-undefined c = grind (arith, common_steps)

pub returns-clause-len : goal.returns-clause-len
returns-clause-len c = search rules
