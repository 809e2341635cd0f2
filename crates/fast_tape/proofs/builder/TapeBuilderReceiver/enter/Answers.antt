use Rattle.fast_tape.specs.Tapes.{of_group}
use Rattle.fast_tape.proofs.Building.{has_entered, header_is}
use Rattle.fast_tape.proofs.builder.TapeBuilderReceiver.enter.Goals as goal

pub returns-clause-has : goal.returns-clause-has
returns-clause-has c = λ presence members is bits o d next first optional own has.
    record { before = has.before; inside = has_entered o c.args.number bits members is next (c.in_ok-open.ensures of_group (header_is c.long.ensures)) has.inside; exponent = tt }
