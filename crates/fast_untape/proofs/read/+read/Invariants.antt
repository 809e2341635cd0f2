use Rattle.std.proofs.Common.{◌≤◌, ◌+◌, ◌-◌, ◌*◌, length, drop, take, map}
use Rattle.fast_template.specs.Resolved.{list_of}
use Rattle.fast_stream.specs.Nodes.{elements_of, items_in}
use Rattle.fast_tape.specs.Tapes.{SayAll, marks_in, marks_in_elements}
use Rattle.fast_untape.proofs.Reading.{Leaves, LeavesEach}
use Rattle.fast_untape.proofs.read.+read.Given as goal

abbrev pub invariant-items_in-members : goal.invariant-items_in-members
invariant-items_in-members l = record {
  within : l.at ≤ length l.nodes;
  so_far : SayAll l.bytes (marks_in (items_in l.items.items)) (take l.at l.nodes);
  left : Leaves l.bytes l.nodes (list_of l.members) (drop l.at l.nodes) (list_of (drop l.member l.members));
}

abbrev pub invariant-elements_in-elements : goal.invariant-elements_in-elements
invariant-elements_in-elements l = record {
  within : l.at ≤ length l.nodes;
  so_far : SayAll l.bytes (marks_in_elements (elements_of (map (λ e. items_in e.items) l.elements.items))) (take l.at l.nodes);
  left : LeavesEach l.bytes l.nodes (list_of l.members) (drop l.at l.nodes) (length l.elements.items);
}

abbrev pub decreases-elements_in-elements : goal.decreases-elements_in-elements
decreases-elements_in-elements l = length l.nodes - l.at

abbrev pub decreases-item_at : goal.decreases-item_at
decreases-item_at l = 2 * length l.nodes.now

abbrev pub decreases-items_in : goal.decreases-items_in
decreases-items_in l = 2 * length l.nodes.now + 1

abbrev pub decreases-elements_in : goal.decreases-elements_in
decreases-elements_in l = 2 * length l.nodes.now + 1
