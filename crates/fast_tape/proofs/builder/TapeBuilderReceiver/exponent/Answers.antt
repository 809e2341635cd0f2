use Rattle.std.proofs.Common.{None, refl}
use Rattle.fast_tape.proofs.Building.{has_passed, quiet}
use Rattle.fast_tape.proofs.builder.TapeBuilderReceiver.exponent.Goals as goal

pub returns-in_ok-push_absent-in-None-default-clause-goes : goal.returns-in_ok-push_absent-in-None-default-clause-goes
returns-in_ok-push_absent-in-None-default-clause-goes g c = (
  None,
  rw (c.in-None-default.is-0) at c.in_ok-next.ensures.takes.1,
  refl,
  λ number mantissa is o next first has.
      record { before = has.before; inside = has_passed o is None (quiet next) c.in_ok-push_absent-in-None-default.ensures has.inside; exponent = tt },
)
