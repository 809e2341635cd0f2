use Rattle.fast_tape.proofs.Joining.{tapes_join}
use Rattle.fast_tape.proofs.laws.tapes_join.Goals as goal

pub returns : goal.returns
returns c = λ bytes more messages others nodes behind. tapes_join bytes more messages others nodes behind
