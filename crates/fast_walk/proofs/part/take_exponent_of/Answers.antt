use Rattle.fast_walk.proofs.Common.{Kind, sym, ◌∙◌}
use Rattle.fast_walk.specs.Received.{exponent_of}
use Rattle.fast_walk.proofs.PartTaking.{exponent_is, taken_as}
use Rattle.fast_take.proofs.Within.{taken_kind}
use Rattle.fast_walk.proofs.part.take_exponent_of.Goals as goal

pub returns : goal.returns
returns c =
    let h = c.in_ok-took.ensures.taken in
    let kind = taken_kind c.args.level c.args.part.now c.args.entry.now c.take.new.entry c.args.bit c.args.bytes.now c.args.at c.take.new.aside c.in_ok-took.took c.requires.part c.requires.entry h Kind.Int32 c.requires.kind in
    taken_as c.args.level c.args.part.now c.args.entry.now c.take.new.entry c.args.bit c.args.bytes.now c.args.at c.take.new.aside c.in_ok-took.took (exponent_of c.exponent_in.result) c.place.result h
    (exponent_is c.exponent_in.result ∙ sym (c.exponent_in.ensures c.args.bytes.now kind)) c.place.ensures
