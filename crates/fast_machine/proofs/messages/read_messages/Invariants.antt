use Rattle.fast_machine.proofs.Common.{◌≡◌, ◌≤◌, ◌<◌, ◌+◌, ◌-◌, ◌⊎◌, length, drop, IsSameSet, LeadsOn, begun_of}
use Rattle.fast_walk.specs.Messages.{CanRead}
use Rattle.fast_walk.specs.Traversals.{ServesAll}
use Rattle.fast_machine.proofs.messages.read_messages.Given as goal

abbrev pub invariant-messages : goal.invariant-messages
invariant-messages g l = record {
  place : l.at ≤ length l.bytes;
  some : (0 < length (drop l.at l.bytes)) ⊎ (begun_of l.traversal ≡ 1);
  few : l.messages + begun_of l.traversal ≤ l.at + 1;
  outside : begun_of l.fn.traversal ≡ 0 → begun_of l.traversal ≡ 0;
  served : ServesAll (g.E.Entries.serves l.entries) l.traversal.set.now;
  can : CanRead g.R.Receiver g.E.Entries l.traversal l.receiver l.entries;
  same : IsSameSet g.E.Entries l.fn.traversal l.fn.entries l.traversal l.entries;
  leads : LeadsOn g.R.Receiver.has g.R.Receiver.stands g.R.Receiver.keeps l.fn.traversal l.fn.receiver (g.E.Entries.contents l.fn.entries) l.bytes l.messages l.traversal l.receiver (g.E.Entries.contents l.entries) (drop l.at l.bytes);
}

abbrev pub decreases-messages : goal.decreases-messages
decreases-messages g l = length l.bytes - l.at + begun_of l.traversal
