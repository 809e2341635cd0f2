use Rattle.std.proofs.Common.{◌≡◌, ◌+◌, drop}
use Rattle.fast_template.specs.Resolved.{list_of, size_of}
use Rattle.fast_layout.proofs.size.+sizes.Given as goal

abbrev pub invariant-size-loop-member : goal.invariant-size-loop-member
invariant-size-loop-member l = l.total + size_of (list_of (drop l.member-index l.members)) ≡ size_of (list_of l.members)
