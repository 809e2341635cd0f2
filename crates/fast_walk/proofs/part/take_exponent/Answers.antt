use Rattle.fast_walk.proofs.Common.{ap, is_ok}
use Rattle.fast_walk.proofs.Telling.{kept_hold}
use Rattle.fast_walk.specs.Received.{exponent_of}
use Rattle.fast_walk.proofs.PartKeys.{under_key}
use Rattle.fast_walk.proofs.part.take_exponent.Goals as goal

pub take_exponent_of-requires-clause-entry : goal.take_exponent_of-requires-clause-entry
take_exponent_of-requires-clause-entry g c = rw (c.in_ok-entry.ensures.value) (kept_hold (g.E.Entries.contents c.args.entries.now) c.requires.kept c.args.part.now.key)

pub returns-clause-takes : goal.returns-clause-takes
returns-clause-takes g c =
    let d = g.E.Entries.contents c.args.entries.now in
    under_key exponent_of c.args.level c.args.part.now c.args.bit c.args.bytes.now c.args.at c.in_ok-entry.entry.now c.take_exponent_of.new.entry d (g.E.Entries.contents (c.entry_mut.follows.lender c.take_exponent_of.new.entry))
    c.take_exponent_of.result c.in_ok-entry.ensures.value (c.entry_mut.follows.holds c.take_exponent_of.new.entry (ap is_ok c.in_ok-entry.was)).0 c.take_exponent_of.ensures
