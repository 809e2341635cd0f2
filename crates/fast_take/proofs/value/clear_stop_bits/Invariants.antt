use Rattle.fast_take.proofs.Cleared.{Cleared}
use Rattle.fast_take.proofs.value.clear_stop_bits.Given as goal

abbrev pub invariant-loop-unit : goal.invariant-loop-unit
invariant-loop-unit l = Cleared l.units l.fn.units l.unit-index
