use Rattle.fast_machine.proofs.Progress.{unended_by}
use Rattle.fast_machine.proofs.machine.Machine.tell_progress.Goals as goal

pub returns-clause-unended : goal.returns-clause-unended
returns-clause-unended g c = λ none before fed messages follows. unended_by c.args.self.now before fed messages c.set_is_sound.ensures.typed none follows

pub returns-clause-refused : goal.returns-clause-refused
returns-clause-refused g c = λ fault is before fed messages follows. let at = rw (is) at follows.at in at.0
