use Rattle.fast_take.proofs.Common.{Some, ap, sym, ◌∙◌, initial_passes, no_initial_passes}
use Rattle.fast_take.proofs.passed.pass_initial.Goals as goal

pub returns-then-can_begin : goal.returns-then-can_begin
returns-then-can_begin c = initial_passes c.args.instr.now c.args.entry.now c.value.result.now c.requires.operator (c.in-Some.is ∙ ap Some (sym c.value.ensures)) (c.can_begin.ensures.kind c.if-can_begin.true) (c.can_begin.ensures.within c.if-can_begin.true)

pub returns-in-Optional : goal.returns-in-Optional
returns-in-Optional c = no_initial_passes c.args.instr.now c.args.entry.now c.requires.operator c.in-None.is c.in-Optional.is
