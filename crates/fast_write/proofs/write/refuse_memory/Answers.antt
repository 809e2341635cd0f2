use Rattle.fast_write.proofs.Finishing.{none_front, none_written}
use Rattle.fast_write.proofs.write.refuse_memory.Goals as goal

pub returns-in-Ok-clause-answer : goal.returns-in-Ok-clause-answer
returns-in-Ok-clause-answer g c = λ numbered set left. none_written numbered c.args.form set left _ _ c.in-Ok.ensures.written

pub returns-in-Err-clause-answer : goal.returns-in-Err-clause-answer
returns-in-Err-clause-answer g c = λ numbered set left. let t = c.in-Err.ensures.part in none_front numbered c.args.form set left _ _ t.0 t.1
