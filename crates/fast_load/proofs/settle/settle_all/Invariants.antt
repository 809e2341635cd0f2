use Rattle.fast_load.specs.Slots.{settled, slot_in}
use Rattle.fast_load.proofs.Settling.{Partly}
use Rattle.fast_load.proofs.settle.settle_all.Given as goal

abbrev pub invariant-loop-template : goal.invariant-loop-template
invariant-loop-template l = Partly (settled (slot_in l.slots)) l.templates l.fn.templates l.template-index
