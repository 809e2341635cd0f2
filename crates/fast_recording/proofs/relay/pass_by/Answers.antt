use Rattle.std.proofs.Common.{refl}
use Rattle.fast_machine.specs.Inputs.{told_by}
use Rattle.fast_template.specs.TemplateSets.{templates_in}
use Rattle.fast_recording.specs.Made.{WritesMade, numbering_of}
use Rattle.fast_recording.specs.Recorded.{IsUsedUp, by_reader, outputs}
use Rattle.fast_recording.proofs.Flushed.{flush_failed, flushed}
use Rattle.fast_recording.proofs.relay.pass_by.Goals as goal

pub returns-in-Err-clause-answer : goal.returns-in-Err-clause-answer
returns-in-Err-clause-answer g c =
    let a = c.in-Ok.ensures.answer in
    let m = c.args.manner in
    let set = templates_in c.args.machine.now.traversal.set.now in
    let old = outputs (g.W.ByteOutput.taken c.args.writer.now) (g.T.ByteOutput.taken c.args.teller.now) in
    let new = outputs (g.W.ByteOutput.taken c.relay.new.writer) (g.T.ByteOutput.taken c.relay.new.teller) in
    let later = outputs (g.W.ByteOutput.taken c.flush.new.self) (g.T.ByteOutput.taken c.relay.new.teller) in
    let why = by_reader (IsUsedUp c.args.turns a.0 a.1) (told_by g.R.ByteInput c.args.reader.now) (told_by g.R.ByteInput c.relay.new.reader) in (
      a.0,
      a.1,
      a.2,
      a.3,
      flush_failed m.keep_going m.level set (WritesMade (numbering_of m.numbered) g.O.PacketOutput.sized g.O.Output.makes set) old new later c.in-Err.ensures.bytes refl a.1 why c.relay.new.progress.counts c.in-Ok.refused a.4,
    )

pub returns-in-Some-clause-answer : goal.returns-in-Some-clause-answer
returns-in-Some-clause-answer g c =
    let a = c.in-Ok.ensures.answer in
    let m = c.args.manner in
    let set = templates_in c.args.machine.now.traversal.set.now in
    let old = outputs (g.W.ByteOutput.taken c.args.writer.now) (g.T.ByteOutput.taken c.args.teller.now) in
    let new = outputs (g.W.ByteOutput.taken c.relay.new.writer) (g.T.ByteOutput.taken c.relay.new.teller) in
    let later = outputs (g.W.ByteOutput.taken c.flush.new.self) (g.T.ByteOutput.taken c.relay.new.teller) in
    let why = by_reader (IsUsedUp c.args.turns a.0 a.1) (told_by g.R.ByteInput c.args.reader.now) (told_by g.R.ByteInput c.relay.new.reader) in
    let h = flushed m.keep_going m.level set (WritesMade (numbering_of m.numbered) g.O.PacketOutput.sized g.O.Output.makes set) old new later c.in-Ok-flush.ensures.bytes refl a.1 why c.relay.new.progress.counts c.in-Ok.refused a.4 in
    (a.0, a.1, a.2, a.3, rw (c.in-Some.is) at h)

pub returns-in-None-clause-answer : goal.returns-in-None-clause-answer
returns-in-None-clause-answer g c =
    let a = c.in-Ok.ensures.answer in
    let m = c.args.manner in
    let set = templates_in c.args.machine.now.traversal.set.now in
    let old = outputs (g.W.ByteOutput.taken c.args.writer.now) (g.T.ByteOutput.taken c.args.teller.now) in
    let new = outputs (g.W.ByteOutput.taken c.relay.new.writer) (g.T.ByteOutput.taken c.relay.new.teller) in
    let later = outputs (g.W.ByteOutput.taken c.flush.new.self) (g.T.ByteOutput.taken c.relay.new.teller) in
    let why = by_reader (IsUsedUp c.args.turns a.0 a.1) (told_by g.R.ByteInput c.args.reader.now) (told_by g.R.ByteInput c.relay.new.reader) in
    let h = flushed m.keep_going m.level set (WritesMade (numbering_of m.numbered) g.O.PacketOutput.sized g.O.Output.makes set) old new later c.in-Ok-flush.ensures.bytes refl a.1 why c.relay.new.progress.counts c.in-Ok.refused a.4 in
    (a.0, a.1, a.2, a.3, rw (c.in-None.is) at h)
