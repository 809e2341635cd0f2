use Rattle.fast_walk.proofs.Common.{Some, entry_at}
use Rattle.fast_walk.proofs.Lacking.{next_lacks}
use Rattle.fast_walk.proofs.walk.Walk.first_lack.Goals as goal

pub returns-in-Some : goal.returns-in-Some
returns-in-Some g c =
    let d = g.E.Entries.contents c.args.entries.now in
    next_lacks c.args.level c.args.self.now d c.args.part.now c.args.bytes.now (Some c.in-Some.lack) c.requires.next ((rw (c.first_for-bit.ensures, c.part_needs_bit.ensures) at c.in-Some.ensures) (entry_at d c.args.part.now.key))

pub returns : goal.returns
returns g c =
    next_lacks c.args.level c.args.self.now (g.E.Entries.contents c.args.entries.now) c.args.part.now c.args.bytes.now c.delta_lack.result c.requires.next (rw (c.first_for-bit.ensures, c.part_needs_bit.ensures, c.get.ensures) at c.delta_lack.ensures)
