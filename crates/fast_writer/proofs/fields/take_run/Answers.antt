use Rattle.fast_writer.proofs.Common.{refl, ◌∙◌}
use Rattle.fast_writer.proofs.Relays.{flushed}
use Rattle.fast_writer.proofs.fields.take_run.Goals as goal

pub returns-clause-took : goal.returns-clause-took
returns-clause-took g c =
    let s = c.settle.ensures in
    let f = c.flush_short.ensures in
    rw (flushed c.args.bytes.now c.take_all.new.run c.settle.new.self c.flush_short.new.self s.inner s.from s.place f.map f.left (c.if-not-flush_short.ensures.bytes refl), f.place ∙ s.place) c.in_ok-others.ensures.took
