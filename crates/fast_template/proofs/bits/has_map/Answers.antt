use Rattle.std.proofs.Common.{arith}
use Rattle.fast_template.proofs.Maps.{has_map_any}
use Rattle.fast_template.proofs.bits.has_map.Goals as goal

pub returns : goal.returns
returns c = grind (arith, has_map_any)
