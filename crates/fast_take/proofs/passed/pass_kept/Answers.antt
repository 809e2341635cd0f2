use Rattle.fast_field.proofs.Passing.{kept_passes}
use Rattle.fast_take.proofs.passed.pass_kept.Goals as goal

pub returns-then-can_repeat : goal.returns-then-can_repeat
returns-then-can_repeat c = rw c.in-Assigned.is (kept_passes c.args.instr.now c.in-Assigned.value c.requires.operator (c.can_repeat.ensures.kind c.if-can_repeat.true) (c.can_repeat.ensures.within c.if-can_repeat.true))
