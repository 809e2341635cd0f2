use Rattle.fast_machine.proofs.Common.{◌≡◌, ◌≤◌, ◌-◌, ◌+◌, None, length, take, FollowsAll, IsSameStream}
use Rattle.fast_machine.proofs.machine.Machine.feed_on.Given as goal

abbrev pub invariant-messages : goal.invariant-messages
invariant-messages g l = record {
  place : l.at ≤ length l.chunk;
  fault : l.self.fault ≡ None;
  same : IsSameStream l.fn.self l.self;
  fed : l.self.fed ≡ l.fn.self.fed + l.at;
  follows : FollowsAll l.fn.self (take l.at l.chunk) l.self;
}

abbrev pub decreases-messages : goal.decreases-messages
decreases-messages g l = length l.chunk - l.at
