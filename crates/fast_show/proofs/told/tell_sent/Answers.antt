use Rattle.fast_show.proofs.Common.{err_from_is_err_and, refl, stopped, taken_within, taken_as, true}
use Rattle.fast_take.specs.Takes.{value_taken}
use Rattle.fast_show.proofs.ToldFields.{tells}
use Rattle.fast_show.proofs.told.tell_sent.Goals as goal

pub returns-in_err-took : goal.returns-in_err-took
returns-in_err-took g c =
    let p = err_from_is_err_and c.from_residual.result c.from_residual.ensures.1 in
    rw (p.1, p.2)
    λ other.
    let stops = stopped c.args.level c.args.part.now c.args.entry.now c.take_sent.new.entry true c.args.bytes.now c.args.at c.in_err-took.field-0.0 c.in_err-took.ensures.taken other in
    (stops.0, stops.1, refl)

pub value-requires : goal.value-requires
value-requires g c =
    taken_within c.args.level c.args.part.now c.args.entry.now c.take_sent.new.entry true c.args.bytes.now c.args.at c.take_sent.new.aside c.in_ok-took.took
    c.requires.next.part c.requires.next.entry c.in_ok-took.ensures.taken

pub returns : goal.returns
returns g c =
    let h = c.in_ok-took.ensures.taken in
    let v = value_taken c.args.part.now c.take_sent.new.entry true c.args.bytes.now c.take_sent.new.aside c.in_ok-took.took in
    let took = taken_as c.args.level c.args.part.now c.args.entry.now c.take_sent.new.entry true c.args.bytes.now c.args.at c.take_sent.new.aside c.in_ok-took.took v c.place.result h refl c.place.ensures in
    tells c.args.bytes.now c.args.at c.place.result c.args.line.now c.tell.new.self c.type_inv.bytes c.requires.next (λ _. refl) took.0 took.1 c.in_ok-value.ensures.value c.in_ok-tell.ensures
