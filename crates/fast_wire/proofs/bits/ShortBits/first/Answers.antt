use Rattle.fast_wire.proofs.Masks.{first_under}
use Rattle.fast_wire.proofs.bits.ShortBits.first.Goals as goal

pub returns : goal.returns
returns c = rw (← c.self.view_is) (first_under c.self.inside.word c.self.inside.mask c.self.invariant)
