use Rattle.fast_wire.proofs.Common.{◌≡◌, ◌∙◌, [], sym, ap, refl, arith, groups, bits_of, later_bits}
use Rattle.fast_wire.proofs.MapBits.{none_left, later_left}
use Rattle.fast_wire.proofs.bits.LongBits.take.Goals as goal

pub returns-then-self-len-clause-rest : goal.returns-then-self-len-clause-rest
returns-then-self-len-clause-rest c =
    later_left (bits_of (groups c.self.inside.bytes.items)) c.self.inside.place ∙ ap later_bits c.self.view_is

pub returns-else-self-len-clause-rest : goal.returns-else-self-len-clause-rest
returns-else-self-len-clause-rest c =
    let empty : c.args.self.now ≡ [] = sym c.self.view_is ∙ none_left c.self.inside.bytes.items c.self.inside.place (omega arith) in rw empty refl
