use Rattle.fast_wire.proofs.Masks.{bits_of_mask, mask_of}
use Rattle.fast_wire.proofs.bits.ShortBits.new.Goals as goal

pub invariant_of-result : goal.invariant_of-result
invariant_of-result c = mask_of c.args.left c.requires

pub returns : goal.returns
returns c = bits_of_mask c.args.left c.args.word c.requires
