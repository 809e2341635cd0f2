use Rattle.fast_show.proofs.Writing.{has_elements}
use Rattle.fast_show.proofs.writer.LineWriterReceiver.end_sequence.Goals as goal

pub returns-clause-has : goal.returns-clause-has
returns-clause-has g c = λ o d s next none. has_elements next (c.in_ok-close.ensures g.S.Escape.form)
