use Rattle.std.proofs.Common.{refl}
use Rattle.fast_machine.proofs.Calls.{follows_first}
use Rattle.fast_machine.proofs.machine.Machine.new.Goals as goal

pub returns-clause-follows : goal.returns-clause-follows
returns-clause-follows g c = λ before stands. follows_first refl c.new.ensures.items refl refl refl c.new-traversal.ensures.stage c.reset.ensures.cleared before (rw (c.new-traversal.ensures.set) stands)
