use Rattle.fast_wire.proofs.Masks.{half_mask, later_under}
use Rattle.fast_wire.proofs.bits.ShortBits.take.Goals as goal

pub invariant_of-self : goal.invariant_of-self
invariant_of-self c = half_mask c.self.inside.mask c.self.invariant

pub returns-clause-rest : goal.returns-clause-rest
returns-clause-rest c = rw (← c.self.view_is) (later_under c.self.inside.word c.self.inside.mask c.self.invariant)
