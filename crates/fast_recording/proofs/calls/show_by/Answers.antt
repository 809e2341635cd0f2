use Rattle.std.proofs.Common.{false}
use Rattle.fast_machine.specs.Inputs.{told_by}
use Rattle.fast_template.specs.TemplateSets.{templates_in}
use Rattle.fast_recording.specs.Calls.{WritesLines, is_numbered}
use Rattle.fast_recording.specs.Made.{WritesMade, numbering_of}
use Rattle.fast_recording.specs.Recorded.{IsUsedUp, by_reader, outputs}
use Rattle.fast_recording.proofs.Written.{are_lines, lines_as, records_as}
use Rattle.fast_recording.proofs.calls.show_by.Goals as goal

pub returns-clause-answer : goal.returns-clause-answer
returns-clause-answer g c =
    let a = rw (c.requires.numbered) at c.pass_packets.ensures.answer in
    let form = g.S.Escape.form in
    let set = c.args.set.now in
    let m = c.args.manner in
    let why = by_reader (IsUsedUp c.args.turns a.0 a.1) (told_by g.R.ByteInput c.args.reader.now) (told_by g.R.ByteInput c.pass_packets.new.reader) in
    let old = outputs (g.W.ByteOutput.taken c.args.writer.now) (g.T.ByteOutput.taken c.args.teller.now) in
    let new = outputs (g.W.ByteOutput.taken c.pass_packets.new.writer) (g.T.ByteOutput.taken c.pass_packets.new.teller) in (
      a.0,
      a.1,
      a.2,
      a.3,
      records_as (WritesMade (numbering_of (is_numbered form)) false (are_lines form) (templates_in set)) (WritesLines form set) (lines_as form set) why m.keep_going m.level (templates_in set) old new a.1 c.pass_packets.result a.4,
    )
