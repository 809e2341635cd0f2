use Rattle.std.proofs.Common.{rules}
use Rattle.fast_template.proofs.Variants.{parts_are}
use Rattle.fast_template.proofs.bits.takes_bit.Goals as goal

pub returns-then-part_needs_bit : goal.returns-then-part_needs_bit
returns-then-part_needs_bit c = search (rules, parts_are)

pub returns-else-part_needs_bit : goal.returns-else-part_needs_bit
returns-else-part_needs_bit c = search (rules, parts_are)
