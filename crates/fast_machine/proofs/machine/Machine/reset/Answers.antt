use Rattle.std.proofs.Common.{refl}
use Rattle.fast_machine.proofs.Calls.{follows_first}
use Rattle.fast_machine.proofs.machine.Machine.reset.Goals as goal

pub returns-clause-follows : goal.returns-clause-follows
returns-clause-follows g c = λ before stands. follows_first refl c.clear.ensures.items refl refl refl c.reset.ensures.stage c.reset_entries.ensures.cleared before
    (rw (c.reset_entries.ensures.same, c.reset.ensures.set) stands)
