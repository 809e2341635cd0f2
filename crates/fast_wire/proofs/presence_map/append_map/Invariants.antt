use Rattle.fast_wire.proofs.Common.{◌≡◌, ◌+◌, ◌-◌, ◌*◌, ◌++◌, ◌≤◌, length, map_of}
use Rattle.fast_wire.proofs.presence_map.append_map.Given as goal

abbrev pub invariant-loop-i : goal.invariant-loop-i
invariant-loop-i l =
    (l.out.items ++ map_of (l.size - l.i) l.bits (7 * l.i) ≡ l.fn.out.items ++ map_of l.size l.bits 0) × (length l.out.items + (l.size - l.i) ≤ l.out.cap)
