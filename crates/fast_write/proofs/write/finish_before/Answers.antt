use Rattle.fast_write.specs.Ways.{here}
use Rattle.fast_write.proofs.Finishing.{before_not_closed, before_written, front_written}
use Rattle.fast_write.proofs.write.finish_before.Goals as goal

pub returns-in-Ok-clause-answer : goal.returns-in-Ok-clause-answer
returns-in-Ok-clause-answer g c = λ left before input s. before_written (here c.args.way.now) left before _ input c.args.fault s c.in_default.not-Write (here c.close.new.self) _ c.in-Ok.ensures.closes

pub returns-in-Err-clause-answer : goal.returns-in-Err-clause-answer
returns-in-Err-clause-answer g c = λ left before input s. before_not_closed (here c.args.way.now) left before _ input c.args.fault s c.in_default.not-Write _ c.in-Err.failed c.in-Err.ensures.closes

pub returns-in-Write-clause-answer : goal.returns-in-Write-clause-answer
returns-in-Write-clause-answer g c = λ left before input s. front_written (here c.args.way.now) left before _ input (rw (c.in-Write.is) at s)
