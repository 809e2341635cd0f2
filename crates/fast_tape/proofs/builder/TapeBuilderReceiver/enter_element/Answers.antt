use Rattle.fast_tape.specs.Tapes.{of_element}
use Rattle.fast_tape.proofs.Building.{has_element, header_is}
use Rattle.fast_tape.proofs.builder.TapeBuilderReceiver.enter_element.Goals as goal

pub returns-clause-has : goal.returns-clause-has
returns-clause-has c = λ s bits o d next number own some has.
    record { before = has.before; inside = has_element o bits s next some (c.in_ok-open.ensures of_element (header_is c.long.ensures)) has.inside; exponent = tt }
