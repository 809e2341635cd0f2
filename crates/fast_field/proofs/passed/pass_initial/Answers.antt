use Rattle.std.proofs.Common.{Some, ap, sym, ◌∙◌}
use Rattle.fast_field.proofs.Passing.{initial_passes, no_initial_passes}
use Rattle.fast_field.proofs.passed.pass_initial.Goals as goal

pub returns-then-fits : goal.returns-then-fits
returns-then-fits c = initial_passes c.args.instr.now c.args.entry.now c.value.result.now c.requires.operator (c.in-Some.is ∙ ap Some (sym c.value.ensures)) (c.fits.ensures.kind c.if-fits.true) (c.fits.ensures.within c.if-fits.true)

pub returns-in-Optional : goal.returns-in-Optional
returns-in-Optional c = no_initial_passes c.args.instr.now c.args.entry.now c.requires.operator c.in-None.is c.in-Optional.is
