use Rattle.std.proofs.Common.{None}
use Rattle.fast_tape.proofs.Building.{has_passed, quiet}
use Rattle.fast_tape.proofs.builder.TapeBuilderReceiver.left_out.Goals as goal

pub returns-clause-has : goal.returns-clause-has
returns-clause-has c = λ presence members is o d next first optional has.
    record { before = has.before; inside = has_passed o is None (quiet next) c.in_ok-push_absent.ensures has.inside; exponent = tt }
