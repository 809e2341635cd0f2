use Rattle.std.proofs.Common.{◌≡◌, ◌≤◌, ◌-◌, ℕ, List, ◌++◌, length}
use Rattle.fast_template.specs.TemplateSets.{templates_in}
use Rattle.fast_machine.specs.Inputs.{Reads, told_by}
use Rattle.fast_machine.specs.Calls.{IsSameStream}
use Rattle.fast_recording.specs.Begins.{IsOpenAt}
use Rattle.fast_recording.specs.Faults.{IsUntold}
use Rattle.fast_recording.specs.Made.{WritesMade, numbering_of}
use Rattle.fast_recording.specs.Passing.{IsReady, Passes}
use Rattle.fast_recording.specs.Recorded.{IsOpen, outputs}
use Rattle.fast_recording.proofs.relay.relay.Given as goal

abbrev pub invariant-reads : goal.invariant-reads
invariant-reads g l =
    let R = g.R.ByteInput in
    let O = g.O.Output in
    let W = g.W.ByteOutput in
    let T = g.T.ByteOutput in
    let m = l.manner in
    let set = templates_in l.fn.machine.traversal.set.now in
    let from = told_by R l.fn.reader in
    let now = told_by R l.reader in
    record {
      few : l.reads ≤ l.turns;
      ready : IsReady O.waiting m.level l.machine;
      same : IsSameStream l.fn.machine l.machine;
      write : W.errors l.writer ≡ W.errors l.fn.writer;
      tell : T.errors l.teller ≡ T.errors l.fn.teller;
      flushes : W.flushes l.writer ≡ W.flushes l.fn.writer;
      untold : IsUntold l.fn.progress.counts l.progress.counts l.fn.teller l.teller;
      still : IsOpen from now;
      begun : IsOpenAt m.level l.held.items l.unread;
      passes : (front : List ℕ) × Reads from now l.reads (front ++ l.held.items)
          × Passes m.keep_going m.level set (WritesMade (numbering_of m.numbered) g.O.PacketOutput.sized O.makes set) l.progress.counts (outputs (W.taken l.fn.writer) (T.taken l.fn.teller)) (outputs (W.taken l.writer) (T.taken l.teller)) front
          × (l.reads ≤ length (front ++ l.held.items));
    }

abbrev pub decreases-reads : goal.decreases-reads
decreases-reads g l = l.turns - l.reads
