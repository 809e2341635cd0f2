use Rattle.std.proofs.Common.{inl, inr}
use Rattle.fast_write.proofs.OneLine.{unread_at}
use Rattle.fast_write.proofs.way.packets.read_numbered.Goals as goal

pub returns-in-Err : goal.returns-in-Err
returns-in-Err c = let f = c.of_whole.ensures in inr (f.0, f.1, inl (λ n m s. c.in-Err.ensures s.utf8))

pub returns-in-Err-numbered_message_of : goal.returns-in-Err-numbered_message_of
returns-in-Err-numbered_message_of c = unread_at _ _ _ _ c.in-Err-numbered_message_of.fault _ c.in-Ok.ensures.0 c.of_line.ensures c.in-Err-numbered_message_of.ensures.refused
