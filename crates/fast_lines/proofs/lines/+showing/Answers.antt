use Rattle.fast_lines.proofs.Common.{arith, ◌≡◌, [], ◌++◌, Ok, Err, drop_all, map, sym, ap, ◌∙◌, codes, err_from_is_err_and, instruction_of, list_of, item_of, items_in, elements_of, sequence_elements, label, members_text, node_text, sequence_text, Memory}
use Rattle.fast_lines.proofs.Written.{adds_between, extends_same, shows_behind}
use Rattle.fast_lines.proofs.Nested.{item_of-sequence, left_end, left_next, left_stop, lengths_differ, next_of, node_text-sequence, shows_bracketed_err}
use Rattle.fast_lines.proofs.lines.+showing.Goals as goal

pub show_members-returns-then-nodes-members : goal.show_members-returns-then-nodes-members
show_members-returns-then-nodes-members g t c = (
  lengths_differ g.S.Escape.form c.args.before.now c.args.members.now c.args.nodes.now c.if-nodes-members.true,
  extends_same c.args.out.now.items,
)

pub show_members-loop-index-preserved : goal.show_members-loop-index-preserved
show_members-loop-index-preserved g t c =
    let flat = next_of c.args.members.now c.loop-index.index c.index-members-index.result (omega arith) c.index-members-index.is in
    let node = next_of c.args.nodes.now c.loop-index.index c.index-nodes-index.result (omega arith) c.index-nodes-index.is in
    rw (c.between-lead.ensures) (left_next (rw (flat, node) at c.loop-index.invariant) c.in_ok-show_member.ensures)

pub show_members-returns-in_err-show_member : goal.show_members-returns-in_err-show_member
show_members-returns-in_err-show_member g t c =
    let flat = next_of c.args.members.now c.loop-index.index c.index-members-index.result (omega arith) c.index-members-index.is in
    let node = next_of c.args.nodes.now c.loop-index.index c.index-nodes-index.result (omega arith) c.index-nodes-index.is in
    let p = err_from_is_err_and c.from_residual.result c.from_residual.ensures.1 in
    rw (p.1 ∙ ap Err p.2) (left_stop _ _ c.show_member.new.out.items c.in_err-show_member.field-0.0 (rw (flat, node) at c.loop-index.invariant) c.in_err-show_member.ensures)

pub show_elements-returns-in_err-push : goal.show_elements-returns-in_err-push
show_elements-returns-in_err-push g t c =
    let p = err_from_is_err_and c.from_residual.result c.from_residual.ensures.1 in
    rw (p.1 ∙ ap Err p.2) (c.loop-nodes.invariant.on (Err Memory) c.push.new.out.items c.in_err-push.ensures)

pub show_elements-loop-nodes-preserved : goal.show_elements-loop-nodes-preserved
show_elements-loop-nodes-preserved g t c =
    let here = next_of c.args.elements.now c.loop-nodes.nodes-index c.nodes-item.result (omega arith) c.nodes-item.is in
    rw (c.between-lead.ensures) (left_next (rw (here, ← c.deref.ensures.value) at c.loop-nodes.invariant) (shows_behind _ _ _ _ _ (Ok tt) c.in_ok-push.ensures c.in_ok-show_braced.ensures))

pub show_elements-returns-in_err-show_braced : goal.show_elements-returns-in_err-show_braced
show_elements-returns-in_err-show_braced g t c =
    let here = next_of c.args.elements.now c.loop-nodes.nodes-index c.nodes-item.result (omega arith) c.nodes-item.is in
    let p = err_from_is_err_and c.from_residual-in_err-show_braced.result c.from_residual-in_err-show_braced.ensures.1 in
    rw (p.1 ∙ ap Err p.2)
    (left_stop _ _ c.show_braced.new.out.items c.in_err-show_braced.field-0.0 (rw (here, ← c.deref.ensures.value) at c.loop-nodes.invariant)
    (shows_behind _ _ _ _ _ (Err _) c.in_ok-push.ensures c.in_err-show_braced.ensures))

pub show_members-returns : goal.show_members-returns
show_members-returns g t c = left_end (rw (drop_all c.loop-index.index c.args.members.now (omega arith), drop_all c.loop-index.index c.args.nodes.now (omega arith)) at c.loop-index.invariant)

pub show_elements-returns : goal.show_elements-returns
show_elements-returns g t c = left_end (rw (drop_all c.loop-nodes.nodes-index c.args.elements.now (omega arith)) at c.loop-nodes.invariant)

pub show_member-returns-in-Sequence : goal.show_member-returns-in-Sequence
show_member-returns-in-Sequence g t c =
    let is : node_text g.S.Escape.form (instruction_of c.args.flat.now) (item_of c.args.node.now) ≡ sequence_text g.S.Escape.form (λ ns. members_text g.S.Escape.form [] (list_of c.deref-in-Sequence.result.now) ns) c.in-Sequence.presence (item_of c.args.node.now) =
    ap (λ f. node_text g.S.Escape.form (instruction_of f) (item_of c.args.node.now)) c.in-Sequence.is
    ∙ node_text-sequence g.S.Escape.form _ _ _ _ _ (item_of c.args.node.now)
    ∙ ap (λ ms. sequence_text g.S.Escape.form (λ ns. members_text g.S.Escape.form [] (list_of ms) ns) c.in-Sequence.presence (item_of c.args.node.now)) (sym c.deref-in-Sequence.ensures.value) in
    shows_behind (c.args.before.now ++ label g.S.Escape.form (instruction_of c.args.flat.now)) _ _ _ _ c.show_sequence.result c.in_ok-push_label.ensures (rw is c.show_sequence.ensures)

pub show_sequence-returns-in_err-show_elements-in-Sequence : goal.show_sequence-returns-in_err-show_elements-in-Sequence
show_sequence-returns-in_err-show_elements-in-Sequence g t c =
    let is : item_of c.args.node.now ≡ sequence_elements (elements_of (map (λ v. items_in v.items) c.in-Sequence.elements.items)) = ap item_of c.in-Sequence.is ∙ item_of-sequence c.in-Sequence.elements in
    let p = err_from_is_err_and c.from_residual-in_err-show_elements-in-Sequence.result c.from_residual-in_err-show_elements-in-Sequence.ensures.1 in
    rw (is, ← c.deref.ensures.value) (shows_bracketed_err _ _ _ _ c.in_err-show_elements-in-Sequence.field-0.0 c.from_residual-in_err-show_elements-in-Sequence.result (p.1 ∙ ap Err p.2) c.in_ok-push_byte-in-Sequence.ensures c.in_err-show_elements-in-Sequence.ensures)

pub show_sequence-returns-in_ok-push_byte-in-Sequence-2 : goal.show_sequence-returns-in_ok-push_byte-in-Sequence-2
show_sequence-returns-in_ok-push_byte-in-Sequence-2 g t c =
    let is : item_of c.args.node.now ≡ sequence_elements (elements_of (map (λ v. items_in v.items) c.in-Sequence.elements.items)) = ap item_of c.in-Sequence.is ∙ item_of-sequence c.in-Sequence.elements in
    rw (is, ← c.deref.ensures.value) (adds_between (codes "[") (codes "]") _ _ _ _ _ c.in_ok-push_byte-in-Sequence.ensures c.in_ok-show_elements-in-Sequence.ensures c.in_ok-push_byte-in-Sequence-2.ensures)
