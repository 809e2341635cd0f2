use Rattle.fast_walk.proofs.Common.{Err, ap, err_from_is_err_and, is_ok}
use Rattle.fast_walk.proofs.Telling.{kept_hold}
use Rattle.fast_walk.specs.Received.{length_of}
use Rattle.fast_walk.proofs.PartKeys.{under_key}
use Rattle.fast_walk.proofs.part.take_identifier.Goals as goal

pub take_count-requires-clause-entry : goal.take_count-requires-clause-entry
take_count-requires-clause-entry g c = rw (c.in_ok-entry.ensures.value) (kept_hold (g.E.Entries.contents c.args.entries.now) c.requires.kept c.args.identifier.now.key)

pub returns-in_err-id-clause-takes : goal.returns-in_err-id-clause-takes
returns-in_err-id-clause-takes g c =
    let d = g.E.Entries.contents c.args.entries.now in
    let p = err_from_is_err_and c.from_residual-in_err-id.result c.from_residual-in_err-id.ensures.1 in
    rw (p.1, p.2)
    (under_key length_of c.args.level c.args.identifier.now c.args.bit c.args.bytes.now c.args.at c.in_ok-entry.entry.now c.take_count.new.entry d (g.E.Entries.contents (c.entry_mut.follows.lender c.take_count.new.entry))
    (Err c.in_err-id.field-0.0) c.in_ok-entry.ensures.value (c.entry_mut.follows.holds c.take_count.new.entry (ap is_ok c.in_ok-entry.was)).0 c.in_err-id.ensures.taken)
