use Rattle.fast_lines.proofs.Common.{[], drop, items_in, list_of, members_text}
use Rattle.fast_lines.proofs.Nested.{Left, texts}
use Rattle.fast_lines.proofs.lines.+showing.Given as goal

abbrev pub invariant-show_elements-loop-nodes : goal.invariant-show_elements-loop-nodes
invariant-show_elements-loop-nodes g l = Left (texts g.S.Escape.form l.members [] l.elements) (texts g.S.Escape.form l.members l.lead (drop l.nodes-index l.elements)) l.fn.out.items l.out.items

abbrev pub invariant-show_members-loop-index : goal.invariant-show_members-loop-index
invariant-show_members-loop-index g l =
    let form = g.S.Escape.form in
    Left (members_text form l.fn.before (list_of l.members) (items_in l.nodes)) (members_text form l.lead (list_of (drop l.index l.members)) (items_in (drop l.index l.nodes))) l.fn.out.items l.out.items
