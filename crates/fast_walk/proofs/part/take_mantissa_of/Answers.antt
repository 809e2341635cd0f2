use Rattle.fast_walk.proofs.Common.{Kind, ap, sym, ◌∙◌}
use Rattle.fast_walk.proofs.PartTaking.{taken_as}
use Rattle.fast_take.specs.Lying.{of_mantissa}
use Rattle.fast_take.proofs.Within.{taken_kind, taken_there}
use Rattle.fast_walk.proofs.part.take_mantissa_of.Goals as goal

pub returns-clause-taken : goal.returns-clause-taken
returns-clause-taken c =
    let h = c.in_ok-took.ensures.taken in
    let kind = taken_kind c.args.level c.args.part.now c.args.entry.now c.take.new.entry c.args.bit c.args.bytes.now c.args.at c.take.new.aside c.in_ok-took.took c.requires.part c.requires.entry h Kind.Int64 c.requires.kind in
    taken_as c.args.level c.args.part.now c.args.entry.now c.take.new.entry c.args.bit c.args.bytes.now c.args.at c.take.new.aside c.in_ok-took.took (of_mantissa c.mantissa_in.result) c.place.result h
    (sym (c.mantissa_in.ensures c.args.bytes.now kind)) c.place.ensures

pub returns-clause-there : goal.returns-clause-there
returns-clause-there c = λ mandatory none.
    let h = c.in_ok-took.ensures.taken in
    let kind = taken_kind c.args.level c.args.part.now c.args.entry.now c.take.new.entry c.args.bit c.args.bytes.now c.args.at c.take.new.aside c.in_ok-took.took c.requires.part c.requires.entry h Kind.Int64 c.requires.kind in
    taken_there c.args.level c.args.part.now c.args.entry.now c.take.new.entry c.args.bit c.args.bytes.now c.args.at c.take.new.aside c.in_ok-took.took c.requires.part c.requires.entry h mandatory
    (c.mantissa_in.ensures c.args.bytes.now kind ∙ ap of_mantissa none)
