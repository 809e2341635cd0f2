use Rattle.fast_take.proofs.field.take_any.Goals as goal

pub returns-clause-integer : goal.returns-clause-integer
returns-clause-integer c = λ is sends. absurd (c.sends_number.ensures.other c.if-sends_number.false is sends)
