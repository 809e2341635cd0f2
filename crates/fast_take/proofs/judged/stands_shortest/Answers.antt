use Rattle.fast_take.proofs.Common.{arith, bytes_from}
use Rattle.fast_take.proofs.NumberJudging.{stands_at}
use Rattle.fast_take.proofs.Standing.{standing_entity}
use Rattle.fast_take.proofs.judged.stands_shortest.Goals as goal

pub is_shortest-requires-clause-entity : goal.is_shortest-requires-clause-entity
is_shortest-requires-clause-entity c =
    let bytes = c.args.bytes.now in
    let at = c.args.at in
    standing_entity c.args.unsigned c.args.presence bytes at c.args.next _ (bytes_from bytes at (λ k. omega (arith, c.type_inv.bytes k))) c.requires.place c.requires.within c.requires.spelt

pub returns-clause-stands : goal.returns-clause-stands
returns-clause-stands c = λ yes.
    let bytes = c.args.bytes.now in
    let at = c.args.at in
    stands_at c.args.unsigned c.args.presence bytes at c.args.next _ (bytes_from bytes at (λ k. omega (arith, c.type_inv.bytes k))) c.requires.place c.requires.within c.requires.spelt (c.is_shortest.ensures.short yes)
