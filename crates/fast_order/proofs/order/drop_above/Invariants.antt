use Rattle.fast_order.proofs.Common.{◌≡◌, ◌<◌, ◌⊎◌, ℕ, Some, length, slice_get}
use Rattle.fast_order.proofs.order.drop_above.Given as goal

abbrev pub invariant-loop-start : goal.invariant-loop-start
invariant-loop-start l = record {
  rest : (p b : ℕ) → slice_get l.starts.items p ≡ Some b → slice_get l.initial.starts.items p ≡ Some b;
  gone : (p b : ℕ) → slice_get l.initial.starts.items p ≡ Some b → (slice_get l.starts.items p ≡ Some b) ⊎ (l.place < b);
}

abbrev pub decreases-loop-start : goal.decreases-loop-start
decreases-loop-start l = length l.starts.items
