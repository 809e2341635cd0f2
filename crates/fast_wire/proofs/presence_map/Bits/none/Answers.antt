use Rattle.std.proofs.Common.{rules}
use Rattle.fast_wire.proofs.presence_map.Bits.none.Goals as goal

pub returns : goal.returns
returns c = search rules
