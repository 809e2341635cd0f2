use Rattle.fast_order.proofs.Common.{◌≡◌, ◌<◌, ℕ, None, [], Stands, IsDone, state_of}
use Rattle.fast_order.proofs.order.searched.Given as goal

abbrev pub invariant-loop-root : goal.invariant-loop-root
invariant-loop-root l = record {
  stands : Stands l.references (state_of l.search) None;
  at_rest : l.search.path.items ≡ [];
  done : (v : ℕ) → v < l.root → IsDone l.search.marks.items v;
}
