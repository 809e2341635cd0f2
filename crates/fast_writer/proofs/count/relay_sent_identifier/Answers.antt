use Rattle.fast_writer.proofs.Common.{ap, arith, is_ok, refl, sym}
use Rattle.fast_writer.proofs.Drafting.{marked_as}
use Rattle.fast_writer.proofs.Relays.{judged_relayed, relays_under, still}
use Rattle.fast_writer.proofs.count.relay_sent_identifier.Goals as goal

pub relay_count-requires-clause-kept : goal.relay_count-requires-clause-kept
relay_count-requires-clause-kept g c =
    rw (still c.args.part.now c.in_ok-entry.ensures.value (c.entry_mut.follows.holds c.short_count.new.entry (ap is_ok c.in_ok-entry.was)).0 c.in-None.ensures) c.requires.kept

pub returns-in-None-clause-relays : goal.returns-in-None-clause-relays
returns-in-None-clause-relays g c =
    rw (still c.args.part.now c.in_ok-entry.ensures.value (c.entry_mut.follows.holds c.short_count.new.entry (ap is_ok c.in_ok-entry.was)).0 c.in-None.ensures) at c.relay_count.ensures.relays

pub returns-in-Ok-clause-relays : goal.returns-in-Ok-clause-relays
returns-in-Ok-clause-relays g c =
    let s = c.in-Some.ensures in
    relays_under c.in_ok-entry.ensures.value (c.entry_mut.follows.holds c.short_count.new.entry (ap is_ok c.in_ok-entry.was)).0 (sym c.requires.needs)
    (rw (c.mark_at_once.ensures.bytes, c.in-Ok.ensures.inner) (record { place = (omega arith, omega (arith, s.0)); relayed = judged_relayed s.1 s.2 refl; lower = λ zero. absurd (let both = zero in cc) }))
    (marked_as (rw (c.in-Ok.ensures.inner) refl) (rw (c.in-Ok.ensures.inner) refl) refl refl c.mark_at_once.ensures.marked)
