use Rattle.fast_write.specs.Ways.{here}
use Rattle.fast_write.proofs.Finishing.{all_not_closed, all_written}
use Rattle.fast_write.proofs.write.finish_all.Goals as goal

pub returns-in-Ok-clause-answer : goal.returns-in-Ok-clause-answer
returns-in-Ok-clause-answer g c = λ left before input e. all_written e (here c.close.new.self) _ c.in-Ok.ensures.closes

pub returns-in-Err-clause-answer : goal.returns-in-Err-clause-answer
returns-in-Err-clause-answer g c = λ left before input e. all_not_closed e _ c.in-Err.fault c.in-Err.ensures.closes
