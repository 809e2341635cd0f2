use Rattle.fast_walk.proofs.Lacking.{next_lacks}
use Rattle.fast_walk.proofs.walk.Walk.lack_behind_first.Goals as goal

pub returns-in-Delta : goal.returns-in-Delta
returns-in-Delta g c =
    next_lacks c.args.level c.args.self.now (g.E.Entries.contents c.args.entries.now) c.args.part.now c.args.bytes.now c.rest_lack.result c.requires.next (rw (c.first_for-bit.ensures, c.part_needs_bit.ensures, c.get-kept.ensures) at c.rest_lack.ensures)

pub returns-in_default-operator : goal.returns-in_default-operator
returns-in_default-operator g c =
    next_lacks c.args.level c.args.self.now (g.E.Entries.contents c.args.entries.now) c.args.part.now c.args.bytes.now c.delta_lack.result c.requires.next (rw (c.first_for-bit.ensures, c.part_needs_bit.ensures, c.get-kept.ensures) at c.delta_lack.ensures)
