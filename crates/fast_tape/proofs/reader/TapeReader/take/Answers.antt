use Rattle.std.proofs.Common.{drop, ap, ◌∙◌}
use Rattle.fast_tape.proofs.Reading.{forgets, front_is, waits}
use Rattle.fast_tape.proofs.reader.TapeReader.take.Goals as goal

pub returns-clause-taken : goal.returns-clause-taken
returns-clause-taken g c = λ fed messages waiting reads.
    let old = c.args.self.now.machine.receiver in
    let taken = c.take.result in
    let h = c.take.ensures in
    let w = waits _ _ _ _ _ _ _ _ _ _ _ reads.at in
    let nodes = front_is old.whole.nodes.items (drop taken.nodes c.args.nodes.now) c.take.new.nodes taken.nodes (ap (λ t. t.nodes) h.counts) h.nodes in
    let bytes = front_is old.whole.bytes.items (drop taken.bytes c.args.bytes.now) c.take.new.bytes taken.bytes (ap (λ t. t.bytes) h.counts) h.bytes in
    (ap (λ t. t.messages) h.counts ∙ w.1, rw (nodes, bytes) w.0, record { at = forgets _ _ _ _ old c.take.new.self _ _ _ _ _ _ h.forgets reads.at; counts = reads.counts })
