use Rattle.fast_show.proofs.Writing.{has_element}
use Rattle.fast_show.proofs.writer.LineWriterReceiver.enter_element.Goals as goal

pub returns-clause-has : goal.returns-clause-has
returns-clause-has g c = λ s bits o d next numbered own some. has_element bits next c.in_ok-open_brace.ensures
