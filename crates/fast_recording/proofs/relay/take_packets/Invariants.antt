use Rattle.std.proofs.Common.{◌≡◌, ◌≤◌, ◌-◌, ℕ, List, ◌++◌, length, take}
use Rattle.fast_template.specs.Resolved.{Resolved}
use Rattle.fast_template.specs.TemplateSets.{templates_in}
use Rattle.fast_machine.specs.Calls.{IsSameStream}
use Rattle.fast_recording.specs.Faults.{IsUntold}
use Rattle.fast_recording.specs.Made.{WritesMade, numbering_of}
use Rattle.fast_recording.specs.Passing.{AreFew, IsReady, Passes}
use Rattle.fast_recording.specs.Recorded.{Outputs, outputs}
use Rattle.fast_recording.proofs.relay.take_packets.Given as goal

abbrev pub invariant-packets : goal.invariant-packets
invariant-packets g l =
    let O = g.O.Output in
    let W = g.W.ByteOutput in
    let T = g.T.ByteOutput in
    let m = l.manner in
    let templates = templates_in l.fn.machine.traversal.set.now in
    record {
      place : l.at ≤ length l.bytes;
      ready : IsReady O.waiting m.level l.machine;
      same : IsSameStream l.fn.machine l.machine;
      write : W.errors l.writer ≡ W.errors l.fn.writer;
      tell : T.errors l.teller ≡ T.errors l.fn.teller;
      flushes : W.flushes l.writer ≡ W.flushes l.fn.writer;
      untold : IsUntold l.fn.progress.counts l.progress.counts l.fn.teller l.teller;
      passes : (set : List Resolved) (old : Outputs) (front : List ℕ) → templates ≡ set → AreFew front l.bytes
          → Passes m.keep_going m.level set (WritesMade (numbering_of m.numbered) g.O.PacketOutput.sized O.makes set) l.fn.progress.counts old (outputs (W.taken l.fn.writer) (T.taken l.fn.teller)) front
          → Passes m.keep_going m.level set (WritesMade (numbering_of m.numbered) g.O.PacketOutput.sized O.makes set) l.progress.counts old (outputs (W.taken l.writer) (T.taken l.teller)) (front ++ take l.at l.bytes);
    }

abbrev pub decreases-packets : goal.decreases-packets
decreases-packets g l = length l.bytes - l.at
