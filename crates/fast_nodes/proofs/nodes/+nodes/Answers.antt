use Rattle.fast_nodes.proofs.Common.{rules, ◌≢◌, ◌∙◌, [], Some, Ok, Err, ap, length, arith, err_from_is_err_and, I64, has_map, list_of, items_in, CanTry, books_of, of_part, level_of, IsEmpty, is_group, is_parts, is_sequence}
use Rattle.fast_nodes.proofs.Views.{count_seen, is_absent, is_elements, is_value, other_number}
use Rattle.fast_nodes.proofs.Tries.{can_each, can_segment, element_refused, elements_end, elements_next, group_put, next_of, nodes_end, nodes_next, puts_then, refused_then, segment_put, sequence_put}
use Rattle.fast_nodes.proofs.Additions.{no_group_added}
use Rattle.fast_nodes.proofs.Changes.{goes_same}
use Rattle.fast_nodes.proofs.nodes.+nodes.Goals as goal

-- ---- nodes in a row

pub put_nodes-returns-then-flats-nodes : goal.put_nodes-returns-then-flats-nodes
put_nodes-returns-then-flats-nodes g t c =
    let other : length c.args.flats.now ≢ length c.args.nodes.now = search rules in
    absurd (let both = other_number c.args.flats.now c.args.nodes.now other ∙ c.requires.fits in cc)

pub put_nodes-returns : goal.put_nodes-returns
put_nodes-returns g t c =
    let same = c.members.invariant.as_many in
    nodes_end c.members.invariant.left (omega (arith, c.members-test.false)) (omega (arith, same, c.members-test.false))

pub put_nodes-members-preserved : goal.put_nodes-members-preserved
put_nodes-members-preserved g t c =
    let now = c.members in
    let flat = next_of c.args.flats.now now.at c.index-flats-at.result c.members-test.true c.index-flats-at.is in
    let node = next_of c.args.nodes.now now.at c.index-nodes-at.result (omega (arith, now.invariant.as_many, c.members-test.true)) c.index-nodes-at.is in
    record { as_many = now.invariant.as_many; left = nodes_next now.invariant.left flat node c.in_ok-put_node.ensures }

-- ---- elements

pub put_elements-returns : goal.put_elements-returns
put_elements-returns g t c = elements_end c.elements.invariant c.elements-test.false

pub put_elements-elements-preserved : goal.put_elements-elements-preserved
put_elements-elements-preserved g t c =
    let here = next_of c.args.elements.now c.elements.at c.index-elements-at.result c.elements-test.true c.index-elements-at.is in
    elements_next c.elements.invariant here (rw (c.deref.ensures.value) at c.in_ok-put_segment.ensures)

pub put_elements-put_segment-requires : goal.put_elements-put_segment-requires
put_elements-put_segment-requires g t c =
    let here = next_of c.args.elements.now c.elements.at c.index-elements-at.result c.elements-test.true c.index-elements-at.is in
    let ready : CanTry (books_of g.E.Entries c.elements.journal) (list_of c.args.members.now) (items_in c.deref.result.now) = rw (c.deref.ensures.value) (can_segment c.elements.invariant here) in
    search rules

pub put_elements-returns-in_err-put_segment : goal.put_elements-returns-in_err-put_segment
put_elements-returns-in_err-put_segment g t c =
    let here = next_of c.args.elements.now c.elements.at c.index-elements-at.result c.elements-test.true c.index-elements-at.is in
    let p = err_from_is_err_and c.from_residual.result c.from_residual.ensures.1 in
    rw (p.1 ∙ ap Err p.2) (element_refused c.elements.invariant here (rw (c.deref.ensures.value) at c.in_err-put_segment.ensures))

-- ---- segments

pub put_segment-returns : goal.put_segment-returns
put_segment-returns g t c =
    let empty : IsEmpty (has_map (list_of c.args.members.now)) (level_of c.new-level.result) = search rules in
    segment_put (list_of c.args.members.now) (items_in c.args.nodes.now) c.args.out.now.items c.seal.new.out.items (Ok tt) empty c.in_ok-put_nodes.ensures c.in_ok-seal.ensures

-- ---- one node

pub put_node-returns-in-Ok-ask : goal.put_node-returns-in-Ok-ask
put_node-returns-in-Ok-ask g t c =
    group_put c.in-Group.members c.in-Group-node-3.nodes _ _ c.put_segment.new.out.items c.put_segment.result c.in-Group.is c.in-Group-node-3.is (rw (c.may_be_absent-in-Group-node-3.ensures) at c.in-Ok-ask.ensures.asked) (rw (c.deref.ensures.value, c.deref-in-Ok-ask.ensures.value) at c.put_segment.ensures)

pub put_node-returns-in-Ok : goal.put_node-returns-in-Ok
put_node-returns-in-Ok g t c =
    let ready = rw (is_group c.in-Group.members c.in-Group.is, is_absent c.in-Absent-node-2.is) at c.requires in
    rw (is_group c.in-Group.members c.in-Group.is, is_absent c.in-Absent-node-2.is)
    (record { adds = no_group_added [] 0 _ (list_of c.in-Group.members.items) ready.fits (rw (c.may_be_absent.ensures) at c.in-Ok.ensures.asked); goes = goes_same })

pub put_node-returns-in_ok-put-in-Decimal : goal.put_node-returns-in_ok-put-in-Decimal
put_node-returns-in_ok-put-in-Decimal g t c =
    let v = c.in-Decimal in
    rw (is_parts c.in-Parts.is, is_value c.in-Value-node.is, v.is)
    (puts_then (of_part c.in-Parts.mantissa (Some (I64 v.m))) _ _ c.put-in-Decimal-2.result (rw (c.exponent_of.ensures) at c.in_ok-put-in-Decimal.ensures) (rw (c.mantissa_of.ensures) at c.put-in-Decimal-2.ensures))

-- ---- one sequence

pub put_node-overflow_cast-count : goal.put_node-overflow_cast-count
put_node-overflow_cast-count g t c =
    let ready = rw (is_sequence c.in-Sequence.members c.in-Sequence.is, is_elements c.in-Sequence-node.elements c.in-Sequence-node.is) at c.requires in
    let few = rw (count_seen c.in-Sequence-node.elements.items) at ready.small.0 in
    rw (c.deref-elements.ensures.value) (omega (arith, few))

pub put_node-returns-in_err-put-in-Sequence-node : goal.put_node-returns-in_err-put-in-Sequence-node
put_node-returns-in_err-put-in-Sequence-node g t c =
    let p = err_from_is_err_and c.from_residual-in_err-put-in-Sequence-node.result c.from_residual-in_err-put-in-Sequence-node.ensures.1 in
    let part = rw (c.deref-elements.ensures.value) at c.in_err-put-in-Sequence-node.ensures in
    rw (p.1 ∙ ap Err p.2, is_sequence c.in-Sequence.members c.in-Sequence.is, is_elements c.in-Sequence-node.elements c.in-Sequence-node.is, count_seen c.in-Sequence-node.elements.items) (refused_then _ part)

pub put_node-tell_elements-requires : goal.put_node-tell_elements-requires
put_node-tell_elements-requires g t c =
    can_each c.in-Sequence.members c.in-Sequence-node.elements c.deref-members.result.now c.deref-elements.result.now c.in-Sequence.is c.in-Sequence-node.is c.deref-members.ensures.value c.deref-elements.ensures.value c.requires c.in_ok-put-in-Sequence-node.ensures.goes

pub put_node-returns-in_ok-put-in-Sequence-node : goal.put_node-returns-in_ok-put-in-Sequence-node
put_node-returns-in_ok-put-in-Sequence-node g t c =
    let part = rw (c.deref-elements.ensures.value) at c.in_ok-put-in-Sequence-node.ensures in
    sequence_put c.in-Sequence.members c.in-Sequence-node.elements _ c.put_elements.new.out.items c.put_elements.result c.in-Sequence.is c.in-Sequence-node.is part
    (rw (c.deref-members.ensures.value, c.deref-elements.ensures.value) at c.put_elements.ensures)
