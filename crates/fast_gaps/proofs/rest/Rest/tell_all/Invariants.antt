use Rattle.std.proofs.Common.{◌≡◌, ◌++◌}
use Rattle.fast_gaps.specs.Filled.{gaps_left, left_of}
use Rattle.fast_gaps.proofs.rest.Rest.tell_all.Given as goal

abbrev pub invariant-loop-self : goal.invariant-loop-self
invariant-loop-self g l = l.out.items ++ left_of g.S.Escape.form l.self ≡ l.fn.out.items ++ left_of g.S.Escape.form l.fn.self

abbrev pub decreases-loop-self : goal.decreases-loop-self
decreases-loop-self g l = gaps_left l.self
