use Rattle.fast_write.proofs.write.finish.Goals as goal

pub returns-in-Err-clause-answer : goal.returns-in-Err-clause-answer
returns-in-Err-clause-answer g c = λ left before input s. c.finish_before.ensures.answer left before input (rw (c.in-Err.is) at s)
