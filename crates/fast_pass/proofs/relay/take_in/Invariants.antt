use Rattle.fast_pass.proofs.Common.{◌≡◌, ◌≤◌, ◌-◌, ◌+◌, ℕ, List, Option, None, Ok, length, take, Reached, IsSameStream, Goes, IsOfBytes}
use Rattle.fast_pass.proofs.relay.take_in.Given as goal

abbrev pub invariant-messages : goal.invariant-messages
invariant-messages g l = record {
  place : l.at ≤ length l.bytes;
  fault : l.machine.fault ≡ None;
  fed : l.machine.fed ≡ l.fn.machine.fed + l.at;
  same : IsSameStream l.fn.machine l.machine;
  errors : g.W.ByteOutput.errors l.writer ≡ g.W.ByteOutput.errors l.fn.writer;
  flushes : g.W.ByteOutput.flushes l.writer ≡ g.W.ByteOutput.flushes l.fn.writer;
  goes : (left later : Option (List ℕ)) → Goes g.O.Output.waiting g.O.Output.makes (Ok (Reached.Open, l.written)) l.fn.machine l.machine left later (g.W.ByteOutput.taken l.fn.writer) (g.W.ByteOutput.taken l.writer) (take l.at l.bytes) IsOfBytes;
}

abbrev pub decreases-messages : goal.decreases-messages
decreases-messages g l = length l.bytes - l.at
