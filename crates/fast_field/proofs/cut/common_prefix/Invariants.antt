use Rattle.std.proofs.Common.{◌≡◌, take}
use Rattle.fast_field.proofs.cut.common_prefix.Given as goal

abbrev pub invariant-loop-i : goal.invariant-loop-i
invariant-loop-i l = take l.i l.a ≡ take l.i l.b
