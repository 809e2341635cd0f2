use Rattle.fast_tape.proofs.Building.{has_sequence}
use Rattle.fast_tape.proofs.builder.TapeBuilderReceiver.end_sequence.Goals as goal

pub returns-clause-has : goal.returns-clause-has
returns-clause-has c = λ o d s next none has.
    record { before = has.before; inside = has_sequence o s next none c.in_ok-close.ensures has.inside; exponent = tt }
