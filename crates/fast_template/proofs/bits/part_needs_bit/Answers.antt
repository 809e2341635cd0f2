use Rattle.std.proofs.Common.{rules}
use Rattle.fast_template.proofs.bits.part_needs_bit.Goals as goal

pub returns-in-Constant : goal.returns-in-Constant
returns-in-Constant c = search rules
