use Rattle.fast_show.proofs.Common.{err_from_is_err_and, false, refl, stopped, taken_as}
use Rattle.fast_take.specs.Takes.{value_taken}
use Rattle.fast_show.proofs.ToldFields.{tells}
use Rattle.fast_show.proofs.told.tell_left_out.Goals as goal

pub returns-in_err-took : goal.returns-in_err-took
returns-in_err-took g c =
    let p = err_from_is_err_and c.from_residual.result c.from_residual.ensures.1 in
    rw (p.1, p.2)
    λ other.
    let stops = stopped c.args.level c.args.part.now c.args.entry.now c.take_left_out.new.entry false c.args.bytes.now c.args.at c.in_err-took.field-0.0 c.in_err-took.ensures other in
    (stops.0, stops.1, refl)

pub returns : goal.returns
returns g c =
    let h = c.in_ok-took.ensures in
    let v = value_taken c.args.part.now c.take_left_out.new.entry false c.args.bytes.now c.take_left_out.new.aside c.in_ok-took.took in
    let took = taken_as c.args.level c.args.part.now c.args.entry.now c.take_left_out.new.entry false c.args.bytes.now c.args.at c.take_left_out.new.aside c.in_ok-took.took v c.place.result h refl c.place.ensures in
    tells c.args.bytes.now c.args.at c.place.result c.args.line.now c.tell.new.self c.type_inv.bytes c.requires.next c.requires.bit took.0 took.1 (c.value_left_out-value.ensures c.args.bytes.now) c.in_ok-tell.ensures
