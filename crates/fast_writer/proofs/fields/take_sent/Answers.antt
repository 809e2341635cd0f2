use Rattle.fast_writer.proofs.Common.{◌≡◌, ◌++◌, true, refl, ◌∙◌}
use Rattle.std.proofs.Common.{slice_range}
use Rattle.fast_writer.specs.Runs.{written}
use Rattle.fast_writer.proofs.Drafting.{marked_as}
use Rattle.fast_writer.proofs.Relays.{judged_relayed}
use Rattle.fast_writer.proofs.Takings.{taken}
use Rattle.fast_writer.proofs.fields.take_sent.Goals as goal

pub take_rest-requires-clause-judged : goal.take_rest-requires-clause-judged
take_rest-requires-clause-judged g c = (c.args.entry.now, c.judge_sent.ensures.judged)

pub take_rest-requires-clause-usual : goal.take_rest-requires-clause-usual
take_rest-requires-clause-usual g c = λ some. rw (c.level-in_default.ensures) (rw (c.level.ensures) at (c.judge_sent.ensures.usual some))

pub returns-in-Stands-clause-taken : goal.returns-in-Stands-clause-taken
returns-in-Stands-clause-taken g c =
    let bytes = c.args.bytes.now in
    let r = c.args.run.now in
    let k = c.keep.new.self in
    let q = c.mark.new.self in
    let m = c.mark.ensures in
    let judged = c.in-Stands.ensures.judged in
    let run = c.keep.ensures.run bytes r.place c.requires.run judged.within in
    let noted_is : written bytes q ≡ written bytes r ++ slice_range bytes r.place c.in-Stands.next = rw (m.bytes, m.from, m.place) (c.keep.ensures.written bytes r.place c.requires.run) in
    taken g.L.Leveled.at true c.args.bits.now c.take_for.new.bits bytes r.place c.in-Stands.next r q c.requires.bit (λ low. low) judged.place (judged.gives.0, refl, judged.gives.1.0)
    (judged_relayed (rw (c.level.ensures) at (c.in-Stands.ensures.usual (λ is. absurd cc))) judged.gives.1.1 noted_is)
    (record { from = rw (m.from, m.place) (run.from); place = m.place ∙ run.place; within = run.within })
    (marked_as (rw (c.keep.ensures.draft, c.keep.ensures.passed) refl) (rw (c.keep.ensures.draft) refl) refl refl (rw (c.part_needs_bit-needs.ensures) at (m.marked bytes)))
    (rw (c.part_needs_bit-needs.ensures) at c.take_for.ensures)
