use Rattle.std.proofs.Common.{true}
use Rattle.fast_take.proofs.Within.{taken_within}
use Rattle.field_tests.proofs.taken.gives.Goals as goal

pub value-requires : goal.value-requires
value-requires g c =
    taken_within _ c.args.instr.now c.in_ok-entry.entry c.take.new.entry true c.args.bytes.now c.min-at.result c.take.new.aside c.in-Ok.took
    (c.are_such.ensures.part c.if-not-are_such.false) (c.are_such.ensures.entry c.if-not-are_such.false) c.in-Ok.ensures.taken

pub copied_value-requires : goal.copied_value-requires
copied_value-requires g c =
    taken_within _ c.args.instr.now c.in_ok-entry.entry c.take.new.entry true c.args.bytes.now c.min-at.result c.take.new.aside c.in-Ok.took
    (c.are_such.ensures.part c.if-not-are_such.false) (c.are_such.ensures.entry c.if-not-are_such.false) c.in-Ok.ensures.taken
