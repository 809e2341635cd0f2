use Rattle.fast_show.proofs.Writing.{has_left_out}
use Rattle.fast_show.proofs.writer.LineWriterReceiver.left_out.Goals as goal

pub returns-clause-has : goal.returns-clause-has
returns-clause-has g c = λ presence members is o d next first optional. has_left_out next first optional c.in_ok-tell_absent.ensures
