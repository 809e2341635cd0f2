use Rattle.fast_writer.proofs.Common.{arith, ap, is_ok, err_from_is_err_and, bytes_from, RelaysPart}
use Rattle.fast_take.specs.Takes.{is_there, place_of, value_taken}
use Rattle.fast_take.proofs.Telling.{best_lower, taken_as}
use Rattle.fast_writer.proofs.Relays.{relays_under, taken_relayed, took_stops, took_there}
use Rattle.fast_writer.proofs.SpeltParts.{appended_kinds}
use Rattle.fast_writer.proofs.relay.relay_part.Goals as goal

pub returns-in_err-took-clause-relays : goal.returns-in_err-took-clause-relays
returns-in_err-took-clause-relays g c =
    let p = err_from_is_err_and c.from_residual-in_err-took.result c.from_residual-in_err-took.ensures.1 in
    rw (p.1, p.2) (took_stops c.args.run.now.draft.inner c.in_ok-entry.ensures.value (c.entry_mut.follows.holds c.take.new.entry (ap is_ok c.in_ok-entry.was)).0 c.in_err-took.ensures.taken)

pub returns-clause-relays : goal.returns-clause-relays
returns-clause-relays g c =
    let part = c.args.part.now in
    let bytes = c.args.bytes.now in
    let at = c.args.at in
    let a = c.take.new.aside in
    let t = c.in_ok-took.took in
    let old = c.in_ok-entry.entry.now in
    let new = c.take.new.entry in
    let h = c.in_ok-took.ensures.taken in
    let v = value_taken part new c.args.bit bytes a t in
    let s = c.args.run.now.draft.inner in
    let relayed = taken_relayed s.bytes (taken_as c.args.level part old new c.args.bit bytes at a t h) in
    let kinds = appended_kinds c.requires.part.typed relayed.form in
    let lower = best_lower c.args.level part old new c.args.bit bytes at a t c.requires.bit c.requires.part.typed.default_has_value (bytes_from bytes at (λ k. omega (arith, c.type_inv.bytes k))) h in
    let relays : RelaysPart c.args.level part (g.E.Entries.contents c.args.entries.now) (g.E.Entries.contents (c.entry_mut.follows.lender new)) c.args.bit v bytes at (place_of t) s c.put_at_once.new.run.draft.inner =
    relays_under c.in_ok-entry.ensures.value (c.entry_mut.follows.holds new (ap is_ok c.in_ok-entry.was)).0 c.part_needs_bit.ensures
    (rw (c.in_ok-put_at_once.ensures.bytes) (record { place = h.place; relayed = relayed; lower = lower })) c.in_ok-put_at_once.ensures.marked in
    rw (c.is_there.ensures, c.place.ensures) (v, took_there part.kind v (is_there t a) h.there kinds, relays)

pub put_at_once-requires-clause-lower : goal.put_at_once-requires-clause-lower
put_at_once-requires-clause-lower g c = λ needs low.
    best_lower c.args.level c.args.part.now c.in_ok-entry.entry.now c.take.new.entry c.args.bit c.args.bytes.now c.args.at c.take.new.aside c.in_ok-took.took c.requires.bit c.requires.part.typed.default_has_value
    (bytes_from c.args.bytes.now c.args.at (λ k. omega (arith, c.type_inv.bytes k))) c.in_ok-took.ensures.taken low
