use Rattle.fast_show.proofs.Writing.{has_entered}
use Rattle.fast_show.proofs.writer.LineWriterReceiver.enter.Goals as goal

pub returns-clause-has : goal.returns-clause-has
returns-clause-has g c = λ presence members is bits o d next first optional own. has_entered bits next first c.in_ok-open_under.ensures
