use Rattle.fast_wire.proofs.Common.{arith, refl, common_steps}
use Rattle.fast_wire.proofs.plain.is_text_of.Goals as goal

pub returns-then-text-form : goal.returns-then-text-form
returns-then-text-form c = grind (arith, common_steps)

pub returns-then-text-i : goal.returns-then-text-i
returns-then-text-i c = grind (arith, common_steps)

pub returns : goal.returns
returns c = grind (arith, common_steps)

pub loop-i-init : goal.loop-i-init
loop-i-init c = refl
