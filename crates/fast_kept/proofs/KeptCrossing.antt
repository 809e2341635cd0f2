-- What is kept may go to another thread.
use denote.Param.Send.{IsSend, sendable}
use Rattle.std.proofs.Crossing.{crosses}
use Rattle.fast_kept.proofs.Crossing.{shared_send}
use Rattle.fast_kept.proofs.lease.Lease.TheSendSync as lease
use Rattle.fast_kept.specs.contracts.kept.Kept as Kept

pub kept_send : IsSend Kept.the_row
kept_send = search (sendable, crosses, shared_send, lease.the_send) depth 20 fits 20000
