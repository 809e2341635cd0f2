use Rattle.std.proofs.Common.{◌≡◌, ◌≤◌, ◌-◌, ◌+◌, None, length, take, false}
use Rattle.fast_machine.specs.Calls.{FollowsAll, IsSameStream}
use Rattle.fast_tape.specs.Waiting.{is_full}
use Rattle.fast_tape.proofs.reader.feed_some.Given as goal

abbrev pub invariant-messages : goal.invariant-messages
invariant-messages g l = record {
  place : l.at ≤ length l.chunk;
  fault : l.machine.fault ≡ None;
  same : IsSameStream l.fn.machine l.machine;
  fed : l.machine.fed ≡ l.fn.machine.fed + l.at;
  follows : FollowsAll l.fn.machine (take l.at l.chunk) l.machine;
  begins : l.at ≡ 0 → is_full l.fn.machine.receiver ≡ false → is_full l.machine.receiver ≡ false;
}

abbrev pub decreases-messages : goal.decreases-messages
decreases-messages g l = length l.chunk - l.at
