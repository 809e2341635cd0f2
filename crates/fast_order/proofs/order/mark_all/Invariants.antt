use Rattle.fast_order.proofs.Common.{◌≡◌, drop, length, set_all}
use Rattle.fast_order.proofs.order.mark_all.Given as goal

abbrev pub invariant-loop-node : goal.invariant-loop-node
invariant-loop-node l = (length l.marks ≡ length l.initial.marks) × (set_all l.marks (drop l.node-index l.nodes) l.mark ≡ set_all l.initial.marks l.nodes l.mark)
