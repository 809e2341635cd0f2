use Rattle.fast_wire.proofs.Common.{◌≡◌, ◌-◌, drop, groups, behind_zeros}
use Rattle.fast_wire.proofs.ascii.zero_groups.Given as goal

abbrev pub invariant-loop-i : goal.invariant-loop-i
invariant-loop-i l = behind_zeros (l.most - l.i) (drop l.i (groups l.entity)) ≡ behind_zeros l.most (groups l.entity)
