use Rattle.std.proofs.Common.{refl}
use Rattle.std.proofs.lemmas.Result.{err_from_is_err_and}
use Rattle.fast_take.specs.Takes.{value_taken}
use Rattle.fast_take.proofs.Within.{taken_within}
use Rattle.fast_walk.proofs.PartTaking.{stopped, taken_as}
use Rattle.fast_tape.proofs.Taking.{told}
use Rattle.fast_tape.proofs.told.take_and_tell.Goals as goal

pub returns-in_err-took : goal.returns-in_err-took
returns-in_err-took c =
    let p = err_from_is_err_and c.from_residual.result c.from_residual.ensures.1 in
    rw (p.1, p.2)
    λ other.
    let stops = stopped c.args.level c.args.part.now c.args.entry.now c.take.new.entry c.args.bit c.args.bytes.now c.args.at c.in_err-took.field-0.0 c.in_err-took.ensures.taken other in
    (stops.0, stops.1, refl)

pub value-requires : goal.value-requires
value-requires c =
    taken_within c.args.level c.args.part.now c.args.entry.now c.take.new.entry c.args.bit c.args.bytes.now c.args.at c.take.new.aside c.in_ok-took.took
    c.requires.part c.requires.kept c.in_ok-took.ensures.taken

pub returns : goal.returns
returns c =
    let h = c.in_ok-took.ensures.taken in
    let v = value_taken c.args.part.now c.take.new.entry c.args.bit c.args.bytes.now c.take.new.aside c.in_ok-took.took in
    let took = taken_as c.args.level c.args.part.now c.args.entry.now c.take.new.entry c.args.bit c.args.bytes.now c.args.at c.take.new.aside c.in_ok-took.took v c.place.result h refl c.place.ensures in
    told c.args.bytes.now c.args.at c.place.result c.args.tape.now c.push_value.new.self took.0 took.1 c.in_ok-value.ensures.value c.in_ok-push_value.ensures
