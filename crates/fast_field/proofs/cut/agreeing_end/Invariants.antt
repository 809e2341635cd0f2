use Rattle.std.proofs.Common.{◌≡◌, ◌≤◌, ◌-◌, drop, length}
use Rattle.fast_field.proofs.cut.agreeing_end.Given as goal

abbrev pub invariant-loop-i : goal.invariant-loop-i
invariant-loop-i l = (l.i ≤ length l.a) × (l.i ≤ length l.b) × (drop (length l.a - l.i) l.a ≡ drop (length l.b - l.i) l.b)

abbrev pub decreases-loop-i : goal.decreases-loop-i
decreases-loop-i l = length l.a - l.i
