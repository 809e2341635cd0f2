use Rattle.fast_decoder.proofs.Common.{err_from_is_err_and, true, refl, stopped, taken_within}
use Rattle.fast_decoder.proofs.taken.put_sent.Goals as goal

pub returns-in_err-took : goal.returns-in_err-took
returns-in_err-took c =
    let p = err_from_is_err_and c.from_residual.result c.from_residual.ensures.1 in
    rw (p.1, p.2)
    λ other.
    let stops = stopped c.args.level c.args.part.now c.args.entry.now c.take_sent.new.entry true c.args.bytes.now c.args.at c.in_err-took.field-0.0 c.in_err-took.ensures.taken other in
    (stops.0, stops.1, refl)

pub copied_value-requires : goal.copied_value-requires
copied_value-requires c =
    taken_within c.args.level c.args.part.now c.args.entry.now c.take_sent.new.entry true c.args.bytes.now c.args.at c.take_sent.new.aside c.in_ok-took.took
    c.requires.part c.requires.entry c.in_ok-took.ensures.taken
