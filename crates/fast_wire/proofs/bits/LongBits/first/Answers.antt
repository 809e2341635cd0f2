use Rattle.std.proofs.Common.{◌≡◌, ◌∙◌, [], sym, refl, arith}
use Rattle.fast_wire.proofs.MapBits.{none_left}
use Rattle.fast_wire.proofs.bits.LongBits.first.Goals as goal

pub returns-then-self-len : goal.returns-then-self-len
returns-then-self-len c =
    let empty : c.args.self.now ≡ [] = sym c.self.view_is ∙ none_left c.self.inside.bytes.items c.self.inside.place (omega arith) in rw empty refl
