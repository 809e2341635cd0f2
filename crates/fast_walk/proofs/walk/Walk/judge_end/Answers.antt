use Rattle.std.proofs.Common.{refl}
use Rattle.fast_walk.proofs.SetBits.{clear_of, has_some}
use Rattle.fast_walk.proofs.walk.Walk.judge_end.Goals as goal

pub returns-then-left_set-clause-refused : goal.returns-then-left_set-clause-refused
returns-then-left_set-clause-refused c = (c.in-Strict.is, c.new.ensures.cause, has_some c.args.self.now.bits (c.if-left_set.ensures.0 refl))

pub returns-else-left_set-clause-clear : goal.returns-else-left_set-clause-clear
returns-else-left_set-clause-clear c = rw (c.in-Strict.is) (clear_of c.args.self.now.bits c.if-left_set.ensures.1)
