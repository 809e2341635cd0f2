use Rattle.fast_show.proofs.Common.{in_group}
use Rattle.fast_show.proofs.Writing.{has_ended}
use Rattle.fast_show.proofs.writer.LineWriterReceiver.leave.Goals as goal

pub returns-clause-has : goal.returns-clause-has
returns-clause-has g c = λ o d ws w next rest is inside. has_ended {inside = in_group} ws w next rest is inside (c.in_ok-close.ensures g.S.Escape.form)
