use Rattle.fast_writer.proofs.Common.{ap, arith, is_ok, refl, sym}
use Rattle.fast_writer.proofs.Relays.{passes_relayed, relays_under, still}
use Rattle.fast_writer.proofs.count.relay_identifier.Goals as goal

pub relay_count-requires-clause-kept : goal.relay_count-requires-clause-kept
relay_count-requires-clause-kept g c =
    rw (still c.args.part.now c.in_ok-entry.ensures.value (c.entry_mut.follows.holds c.in_ok-entry.entry.now (ap is_ok c.in_ok-entry.was)).0 refl) c.requires.kept

pub returns-in-None-clause-relays : goal.returns-in-None-clause-relays
returns-in-None-clause-relays g c =
    rw (still c.args.part.now c.in_ok-entry.ensures.value (c.entry_mut.follows.holds c.in_ok-entry.entry.now (ap is_ok c.in_ok-entry.was)).0 refl) at c.relay_count.ensures.relays

pub returns-in-Some-clause-relays : goal.returns-in-Some-clause-relays
returns-in-Some-clause-relays g c =
    let relayed = passes_relayed c.requires.needs c.in-Some.ensures in
    rw (c.if-bit.false)
    (relays_under c.in_ok-entry.ensures.value (c.entry_mut.follows.holds c.in_ok-entry.entry.now (ap is_ok c.in_ok-entry.was)).0 (sym c.requires.needs)
    (rw (c.mark_at_once.ensures.bytes) (record { place = (omega arith, c.requires.place); relayed = relayed; lower = λ none. refl })) c.mark_at_once.ensures.marked)
