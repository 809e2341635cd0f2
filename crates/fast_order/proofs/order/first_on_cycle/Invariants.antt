use Rattle.fast_order.proofs.Common.{◌≡◌, ◌<◌, ℕ, Some, true, slice_get, Done}
use Rattle.fast_order.proofs.order.first_on_cycle.Given as goal

abbrev pub invariant-loop-node : goal.invariant-loop-node
invariant-loop-node l = (u : ℕ) → u < l.node → ¬ (slice_get l.marks u ≡ Some (Done true))
