use Rattle.fast_take.proofs.Common.{Some, ap, sym, ◌∙◌}
use Rattle.fast_take.proofs.Undefined.{begins_passes, undefined_passes}
use Rattle.fast_take.proofs.passed.pass_undefined.Goals as goal

pub returns-in-Optional : goal.returns-in-Optional
returns-in-Optional c = rw c.requires.undefined (undefined_passes c.args.instr.now c.requires.predicts c.in-None.is c.in-Optional.is)

pub returns-in-Some-copy_number : goal.returns-in-Some-copy_number
returns-in-Some-copy_number c = rw (c.requires.undefined, c.in-Some-copy_number.ensures) (begins_passes c.args.instr.now c.value-value.result.now c.requires.predicts (c.in-Some.is ∙ ap Some (sym c.value-value.ensures)) (c.can_begin.ensures.kind c.if-can_begin.true) (c.can_begin.ensures.within c.if-can_begin.true))
