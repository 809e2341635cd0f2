use Rattle.std.proofs.Common.{◌≡◌, ◌≤◌, ◌-◌, ◌+◌, ℕ, List, Option, None, Ok, length, take}
use Rattle.fast_machine.specs.declared.reached.Reached.{Reached}
use Rattle.fast_machine.specs.Calls.{IsSameStream}
use Rattle.fast_pass.specs.Relays.{IsOfBytes}
use Rattle.fast_recording.specs.Handing.{GoesInLines}
use Rattle.fast_recording.proofs.handing.take_in.Given as goal

abbrev pub invariant-messages : goal.invariant-messages
invariant-messages g l = record {
  place : l.at ≤ length l.bytes;
  fault : l.machine.fault ≡ None;
  fed : l.machine.fed ≡ l.fn.machine.fed + l.at;
  same : IsSameStream l.fn.machine l.machine;
  errors : g.W.ByteOutput.errors l.writer ≡ g.W.ByteOutput.errors l.fn.writer;
  flushes : g.W.ByteOutput.flushes l.writer ≡ g.W.ByteOutput.flushes l.fn.writer;
  goes : (left later : Option (List ℕ)) → GoesInLines g.O.Output.waiting g.O.Output.makes (Ok Reached.Open) l.fn.lines l.lines l.fn.machine l.machine left later (g.W.ByteOutput.taken l.fn.writer) (g.W.ByteOutput.taken l.writer) (take l.at l.bytes) IsOfBytes;
}

abbrev pub decreases-messages : goal.decreases-messages
decreases-messages g l = length l.bytes - l.at
