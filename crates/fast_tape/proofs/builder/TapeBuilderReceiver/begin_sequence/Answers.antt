use Rattle.std.proofs.Common.{None}
use Rattle.fast_tape.specs.Tapes.{of_sequence}
use Rattle.fast_tape.proofs.Building.{has_length, has_passed, header_is, quiet}
use Rattle.fast_tape.proofs.builder.TapeBuilderReceiver.begin_sequence.Goals as goal

pub returns-in_ok-push_absent-in-None-default-clause-goes : goal.returns-in_ok-push_absent-in-None-default-clause-goes
returns-in_ok-push_absent-in-None-default-clause-goes g c = (
  rw (c.in-None-default.is-0) at c.in_ok-next.ensures.takes.1,
  λ number members is o next first has.
      record { before = has.before; inside = has_passed o is None (quiet next) c.in_ok-push_absent-in-None-default.ensures has.inside; exponent = tt },
)

pub returns-in_ok-open-in-Some-default-clause-goes : goal.returns-in_ok-open-in-Some-default-clause-goes
returns-in_ok-open-in-Some-default-clause-goes g c =
    let n = c.in-Some-default.length in (
      rw (c.in-Some-default.is-0) at c.in_ok-next.ensures.takes.1,
      λ number members is o next first has.
          record { before = has.before; inside = has_length o number members is n next (c.in_ok-open-in-Some-default.ensures (of_sequence n) (header_is c.long.ensures)) has.inside; exponent = tt },
    )
