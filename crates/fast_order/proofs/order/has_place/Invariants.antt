use Rattle.fast_order.proofs.Common.{◌≡◌, ◌<◌, ℕ, Some, slice_get}
use Rattle.fast_order.proofs.order.has_place.Given as goal

abbrev pub invariant-loop-other : goal.invariant-loop-other
invariant-loop-other l = (k : ℕ) → k < l.other-index → ¬ (slice_get l.places k ≡ Some l.place)
