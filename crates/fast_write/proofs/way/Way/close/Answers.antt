use Rattle.std.proofs.Common.{refl, inr}
use Rattle.fast_io.proofs.Outputs.{Appends-nil}
use Rattle.fast_write.specs.Ways.{here}
use Rattle.fast_write.proofs.Standing.{closes_on, not_ended, not_handed}
use Rattle.fast_write.proofs.way.Way.close.Goals as goal

pub returns-in-Err-clause-closes : goal.returns-in-Err-clause-closes
returns-in-Err-clause-closes g c = inr (refl, c.in-Err.ensures.unchanged.1, Appends-nil _)

pub returns-in-Err-hand_on-clause-closes : goal.returns-in-Err-hand_on-clause-closes
returns-in-Err-hand_on-clause-closes g c = not_handed (here c.args.self.now) (here c.close_packet.new.self) (here c.hand_on.new.self) _ _ c.in-Err-hand_on.fault c.in-Ok.ensures.ends c.in-Err-hand_on.ensures.hands

pub returns-in-Err-close-clause-closes : goal.returns-in-Err-close-clause-closes
returns-in-Err-close-clause-closes g c = let t = c.in-Err-close.ensures.part in not_ended (here c.args.self.now) (here c.close_packet.new.self) (here c.hand_on.new.self) _ _ _ t.0 c.in-Ok.ensures.ends c.in-Ok-hand_on.ensures.hands t.1

pub returns-in-Ok-close-clause-closes : goal.returns-in-Ok-close-clause-closes
returns-in-Ok-close-clause-closes g c = closes_on (here c.args.self.now) (here c.close_packet.new.self) (here c.hand_on.new.self) _ _ _ c.in-Ok.ensures.ends c.in-Ok-hand_on.ensures.hands c.in-Ok-close.ensures.written
