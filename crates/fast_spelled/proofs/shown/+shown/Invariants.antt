use Rattle.std.proofs.Common.{drop}
use Rattle.fast_template.specs.Resolved.{list_of}
use Rattle.fast_spelled.proofs.Showing.{ElementsGo, ItemsGo}
use Rattle.fast_spelled.proofs.shown.+shown.Given as goal

abbrev pub invariant-read_elements-loop-line : goal.invariant-read_elements-loop-line
invariant-read_elements-loop-line l = ElementsGo (list_of l.members) l.elements.items l.led l.initial.line l.line

abbrev pub decreases-read_elements-loop-line : goal.decreases-read_elements-loop-line
decreases-read_elements-loop-line l = l.line.nodes

abbrev pub invariant-read_items-loop-member : goal.invariant-read_items-loop-member
invariant-read_items-loop-member l = ItemsGo (list_of l.members) (list_of (drop l.member-index l.members)) l.nodes.items l.led l.fn.line l.line
