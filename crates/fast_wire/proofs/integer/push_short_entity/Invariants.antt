use Rattle.fast_wire.proofs.Common.{◌≡◌, ◌+◌, ◌++◌, ◌≤◌, length, entity_of}
use Rattle.fast_wire.proofs.integer.push_short_entity.Given as goal

abbrev pub invariant-loop-left : goal.invariant-loop-left
invariant-loop-left l =
    (l.out.items ++ entity_of l.left l.value ≡ l.fn.out.items ++ entity_of l.size l.value) × (length l.out.items + l.left ≤ l.out.cap) × (1 ≤ l.left) × (l.fn.out.cap ≤ l.out.cap)
