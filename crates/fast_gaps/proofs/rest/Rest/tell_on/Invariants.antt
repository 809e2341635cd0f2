use Rattle.std.proofs.Common.{◌≡◌, ◌≤◌, ◌<◌, ◌++◌, ◌⊎◌, length}
use Rattle.fast_gaps.specs.Filled.{gaps_left, left_of}
use Rattle.fast_gaps.proofs.rest.Rest.tell_on.Given as goal

abbrev pub invariant-loop-signs : goal.invariant-loop-signs
invariant-loop-signs g l = record {
  same : l.out.items ++ left_of g.S.Escape.form l.self ≡ l.fn.out.items ++ left_of g.S.Escape.form l.fn.self;
  few : gaps_left l.self ≤ gaps_left l.fn.self;
  fewer : (length l.out.items ≡ length l.fn.out.items) ⊎ (gaps_left l.self < gaps_left l.fn.self);
}

abbrev pub decreases-loop-signs : goal.decreases-loop-signs
decreases-loop-signs g l = gaps_left l.self
