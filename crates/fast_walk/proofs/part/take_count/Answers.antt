use Rattle.fast_walk.proofs.Common.{Kind, ap, sym, ◌∙◌}
use Rattle.fast_walk.specs.Received.{length_of}
use Rattle.fast_walk.proofs.PartTaking.{length_is, taken_as}
use Rattle.fast_take.specs.Takes.{count_of}
use Rattle.fast_take.proofs.Within.{taken_kind, taken_there}
use Rattle.fast_walk.proofs.part.take_count.Goals as goal

pub returns-clause-taken : goal.returns-clause-taken
returns-clause-taken c =
    let h = c.in_ok-took.ensures.taken in
    let kind = taken_kind c.args.level c.args.part.now c.args.entry.now c.take.new.entry c.args.bit c.args.bytes.now c.args.at c.take.new.aside c.in_ok-took.took c.requires.part c.requires.entry h Kind.UInt32 c.requires.kind in
    taken_as c.args.level c.args.part.now c.args.entry.now c.take.new.entry c.args.bit c.args.bytes.now c.args.at c.take.new.aside c.in_ok-took.took (length_of c.count_in.result) c.place.result h
    (length_is c.count_in.result ∙ sym (c.count_in.ensures c.args.bytes.now kind)) c.place.ensures

pub returns-clause-there : goal.returns-clause-there
returns-clause-there c = λ mandatory none.
    let h = c.in_ok-took.ensures.taken in
    let kind = taken_kind c.args.level c.args.part.now c.args.entry.now c.take.new.entry c.args.bit c.args.bytes.now c.args.at c.take.new.aside c.in_ok-took.took c.requires.part c.requires.entry h Kind.UInt32 c.requires.kind in
    taken_there c.args.level c.args.part.now c.args.entry.now c.take.new.entry c.args.bit c.args.bytes.now c.args.at c.take.new.aside c.in_ok-took.took c.requires.part c.requires.entry h mandatory
    (c.count_in.ensures c.args.bytes.now kind ∙ ap count_of none)
