use Rattle.fast_template.specs.Resolved.{list_of}
use Rattle.fast_spelled.proofs.Showing.{elements_end, elements_next, elements_shown, items_end, items_next, sequence_shown}
use Rattle.fast_spelled.proofs.shown.+shown.Goals as goal

pub read_items-loop-member-preserved : goal.read_items-loop-member-preserved
read_items-loop-member-preserved t c =
    items_next c.args.members.now c.loop-member.member-index c.member-item.result c.loop-member.nodes.items c.push.new.self.items c.in_ok-node.node c.loop-member.led c.name_of.result.now c.args.line.now c.loop-member.line c.pass_lead.new.line c.pass_label.new.line c.read_node.new.line
    c.loop-member-test.true c.member-item.is c.loop-member.invariant c.in_ok-pass_lead.ensures c.name_of.ensures c.in_ok-pass_label.ensures c.in_ok-node.ensures c.in-Ok-push.ensures.items

pub read_items-returns : goal.read_items-returns
read_items-returns t c = items_end c.args.members.now c.loop-member.member-index c.loop-member.nodes.items c.loop-member.led c.args.line.now c.loop-member.line c.loop-member-test.false c.loop-member.invariant

pub read_elements-loop-line-preserved : goal.read_elements-loop-line-preserved
read_elements-loop-line-preserved t c =
    elements_next (list_of c.args.members.now) c.loop-line.elements.items c.push.new.self.items c.in_ok-nodes.nodes c.loop-line.led c.pass_byte.new.line c.loop-line.line c.pass_lead.new.line c.take_node.new.line c.read_braced.new.line
    c.loop-line.invariant c.in_ok-pass_lead.ensures c.in_ok-take_node.ensures c.in_ok-nodes.ensures c.in-Ok.ensures.items

pub read_elements-returns : goal.read_elements-returns
read_elements-returns t c =
    elements_shown (list_of c.args.members.now) c.loop-line.elements.items c.args.line.now c.pass_byte.new.line c.loop-line.line c.pass_byte-2.new.line c.in_ok-pass_byte.ensures
    (elements_end (list_of c.args.members.now) c.loop-line.elements.items c.loop-line.led c.pass_byte.new.line c.loop-line.line c.loop-line.invariant) c.in_ok-pass_byte-2.ensures

pub read_node-returns-in_ok-elements-in-Sequence : goal.read_node-returns-in_ok-elements-in-Sequence
read_node-returns-in_ok-elements-in-Sequence t c =
    let s = c.in-Sequence in
    sequence_shown c.args.flat.now s.name s.number s.presence s.length s.members c.in_ok-elements-in-Sequence.elements c.args.line.now c.take_node.new.line c.read_elements.new.line s.is c.in_ok-take_node.ensures
    (rw c.deref-in-Sequence.ensures.value at c.in_ok-elements-in-Sequence.ensures)
