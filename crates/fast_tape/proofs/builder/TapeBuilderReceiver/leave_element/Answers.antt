use Rattle.fast_tape.proofs.Building.{has_left_element}
use Rattle.fast_tape.proofs.builder.TapeBuilderReceiver.leave_element.Goals as goal

pub returns-clause-has : goal.returns-clause-has
returns-clause-has c = λ o d ws w s next rest around inside has.
    record { before = has.before; inside = has_left_element o ws w s next around inside c.in_ok-close.ensures has.inside; exponent = tt }
