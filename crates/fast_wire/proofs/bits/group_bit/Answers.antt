use Rattle.fast_wire.proofs.MapBits.{bit_is}
use Rattle.fast_wire.proofs.bits.group_bit.Goals as goal

pub returns : goal.returns
returns c = bit_is c.args.bytes.now c.args.i c.requires
