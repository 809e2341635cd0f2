use Rattle.fast_tape.proofs.Building.{has_left}
use Rattle.fast_tape.proofs.builder.TapeBuilderReceiver.leave.Goals as goal

pub returns-clause-has : goal.returns-clause-has
returns-clause-has c = λ o d ws w next rest around inside has.
    record { before = has.before; inside = has_left o ws w next around inside c.in_ok-close.ensures has.inside; exponent = tt }
