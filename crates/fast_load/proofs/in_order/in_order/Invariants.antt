use Rattle.fast_load.proofs.Common.{◌≡◌, ◌++◌, map, left_of, leveled, leveled_of, to_come, written_list, written_of}
use Rattle.fast_load.proofs.in_order.in_order.Given as goal

abbrev pub invariant-loop-front : goal.invariant-loop-front
invariant-loop-front l = map leveled_of l.list.items ++ to_come l.pile.items ≡ leveled 0 (written_list (map written_of l.members))

abbrev pub decreases-loop-front : goal.decreases-loop-front
decreases-loop-front l = left_of l.pile.items
