use Rattle.std.proofs.Common.{◌≡◌, ◌++◌, ◌∷◌, [], rules}
use Rattle.fast_load.proofs.InOrderLaws.{pile_less}
use Rattle.fast_load.proofs.take_apart.take_members_apart.Goals as goal

pub loop-instruction-smaller : goal.loop-instruction-smaller
loop-instruction-smaller c =
    let taken : c.loop-instruction.pile.items ≡ c.pop.new.self.items ++ c.in-Some.instruction ∷ [] = search rules in
    pile_less c.loop-instruction.pile.items c.pop.new.self.items c.own_members-members.result.items c.append.new.self.items c.in-Some.instruction taken c.own_members-members.ensures c.in_ok-append.ensures.items
