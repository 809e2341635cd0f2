use Rattle.fast_decoder.proofs.Common.{err_from_is_err_and, false, refl, stopped, taken_as}
use Rattle.fast_take.specs.Takes.{value_taken}
use Rattle.fast_decoder.proofs.taken.put_left_out.Goals as goal

pub returns-in_err-took : goal.returns-in_err-took
returns-in_err-took c =
    let p = err_from_is_err_and c.from_residual.result c.from_residual.ensures.1 in
    rw (p.1, p.2)
    λ other.
    let stops = stopped c.args.level c.args.part.now c.args.entry.now c.take_left_out.new.entry false c.args.bytes.now c.args.at c.in_err-took.field-0.0 c.in_err-took.ensures other in
    (stops.0, stops.1, refl)

pub returns : goal.returns
returns c =
    let h = c.in_ok-took.ensures in
    let v = value_taken c.args.part.now c.take_left_out.new.entry false c.args.bytes.now c.take_left_out.new.aside c.in_ok-took.took in
    let took = taken_as c.args.level c.args.part.now c.args.entry.now c.take_left_out.new.entry false c.args.bytes.now c.args.at c.take_left_out.new.aside c.in_ok-took.took v c.place.result h refl c.place.ensures in
    (took.0, (v, took.1, rw (c.value_left_out.ensures c.args.bytes.now) at c.in_ok-put_copy.ensures.put))
