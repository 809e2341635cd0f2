use Rattle.std.proofs.Common.{arith, refl}
use Rattle.fast_take.specs.Takes.{is_there, place_of}
use Rattle.fast_writer.specs.Runs.{written}
use Rattle.fast_writer.proofs.Drafting.{marked_as}
use Rattle.fast_writer.proofs.Relays.{taken_relayed, took_there}
use Rattle.fast_writer.proofs.SpeltParts.{appended_kinds}
use Rattle.fast_writer.proofs.Takings.{taken}
use Rattle.fast_writer.proofs.fields.take_rest.Goals as goal

pub put_taken-requires-clause-place : goal.put_taken-requires-clause-place
put_taken-requires-clause-place c = rw (c.mark.ensures.place) ((c.in-Ok.ensures c.requires.judged.0 c.requires.judged.1).1.place)

pub put_taken-requires-clause-first : goal.put_taken-requires-clause-first
put_taken-requires-clause-first c = rw (c.mark.ensures.place) ((c.in-Ok.ensures c.requires.judged.0 c.requires.judged.1).1.first)

pub returns-in-Err : goal.returns-in-Err
returns-in-Err c = record {
  taken = λ before was. record { same = (c.in-Err.ensures before was).entry; segment = refl; left = refl; run = c.requires.run };
  around = refl;
  few = omega arith;
}

pub returns-then-put_taken-clause-taken : goal.returns-then-put_taken-clause-taken
returns-then-put_taken-clause-taken c = λ before was.
    let part = c.args.part.now in
    let bytes = c.args.bytes.now in
    let r = c.args.run.now in
    let q = c.put_taken.new.self in
    let a = c.relay_judged.new.aside in
    let t = c.in-Ok.took in
    let h = c.in-Ok.ensures before was in
    let m = c.mark.ensures in
    let p = c.put_taken.ensures in
    let relayed = taken_relayed (written bytes r) h.1 in
    let noted_is = rw (m.bytes, m.from, m.place) at (c.if-put_taken.ensures.written refl) in
    taken {v = h.0} c.args.level c.is_there.result c.args.bits.now c.take_for.new.bits bytes r.place (place_of t) r q c.requires.bit (λ low. absurd cc) h.1.place.0
    (rw (c.is_there.ensures) (took_there part.kind h.0 (is_there t a) h.1.there (appended_kinds c.requires.part.typed relayed.form))) (rw noted_is relayed) (c.if-put_taken.ensures.run refl)
    (marked_as refl refl (rw (p.left, p.passed) refl) p.map (rw (c.part_needs_bit-needs.ensures, c.best_bit.ensures) at (m.marked bytes)))
    (rw (c.part_needs_bit-needs.ensures) at c.take_for.ensures)
