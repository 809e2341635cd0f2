use Rattle.std.proofs.Common.{inl, inr}
use Rattle.fast_write.proofs.OneLine.{unread}
use Rattle.fast_write.proofs.way.calls.read_line.Goals as goal

pub returns-in-Err : goal.returns-in-Err
returns-in-Err c = let f = c.of_whole.ensures in inr (f.0, f.1, inr (c.requires, inl (λ m s. c.in-Err.ensures s.utf8)))

pub returns-in-Err-message_of : goal.returns-in-Err-message_of
returns-in-Err-message_of c = unread _ _ _ _ c.in-Err-message_of.fault _ c.in-Ok.ensures.0 c.requires c.of_line.ensures c.in-Err-message_of.ensures.refused
