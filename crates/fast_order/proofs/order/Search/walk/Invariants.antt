use Rattle.fast_order.proofs.Common.{None, Stands, KeepsSeen, state_of, steps_left}
use Rattle.fast_order.proofs.order.Search.walk.Given as goal

abbrev pub invariant-loop-visit : goal.invariant-loop-visit
invariant-loop-visit l = record {
  stands : Stands l.references (state_of l.self) None;
  seen : KeepsSeen (state_of l.initial.self) (state_of l.self);
}

abbrev pub decreases-loop-visit : goal.decreases-loop-visit
decreases-loop-visit l = steps_left l.references (state_of l.self)
