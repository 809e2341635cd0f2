use Rattle.std.proofs.Common.{[], arith, inr}
use Rattle.std.specs.FinMap as finite
use Rattle.fast_machine.proofs.Inputs.{none_read}
use Rattle.fast_template.specs.TemplateSets.{templates_in}
use Rattle.fast_pass.specs.Relays.{outset}
use Rattle.fast_recording.specs.Made.{WritesMade, numbering_of}
use Rattle.fast_recording.specs.Recorded.{outputs}
use Rattle.fast_recording.proofs.Relayed.{breaks_between, passes_none}
use Rattle.fast_recording.proofs.relay.pass_packets.Goals as goal

pub returns-in-Err-clause-answer : goal.returns-in-Err-clause-answer
returns-in-Err-clause-answer g c =
    let m = c.args.manner in
    let set = templates_in c.args.set.now in
    let Writes = WritesMade (numbering_of m.numbered) g.O.PacketOutput.sized g.O.Output.makes set in
    let old = outputs (g.W.ByteOutput.taken c.args.writer.now) (g.T.ByteOutput.taken c.args.teller.now) in
    (0, [], none_read _, omega arith, breaks_between m.keep_going m.level set Writes [] (passes_none m.keep_going m.level set Writes old))

pub pass_by-requires-clause-ready : goal.pass_by-requires-clause-ready
pass_by-requires-clause-ready g c =
    let new = c.new-machine.ensures in
    record {
      rests = (rw (new.receiver) c.requires.empty, outset, (finite.empty, inr (rw (new.receiver, new.set) c.requires.begins)));
      mode_is = new.mode;
      sound = rw (new.set) new.sound;
    }

pub returns-clause-answer : goal.returns-clause-answer
returns-clause-answer g c = rw (c.new-machine.ensures.set) at c.pass_by.ensures.answer
