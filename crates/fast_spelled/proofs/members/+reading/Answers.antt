use Rattle.std.proofs.Common.{◌≡◌, ◌+◌, ◌∷◌, ◌++◌, None, Some, length, get_or, set, replicate, option_map, sym, ap, ◌∙◌, subst, refl, arith}
use Rattle.std.proofs.lemmas.List.{length-replicate, length-set}
use Rattle.json.specs.Reads.{token_of}
use Rattle.json.specs.Tree.{items_tokens, members_tokens}
use Rattle.fast_template.specs.Resolved.{instruction_of, list_of}
use Rattle.fast_stream.specs.Nodes.{group_items, sequence_elements, nodes_of}
use Rattle.fast_spelled.specs.Spelled.{elements_by, item_by, items_by}
use Rattle.fast_spelled.specs.Slots.{filled_first}
use Rattle.fast_spelled.specs.Tokens.{AreFilled, slots_of}
use Rattle.fast_spelled.proofs.Counting.{all_counted, costs, done_nodes, element_counted, element_refuses, finished_members, member_counted, member_refuses, members_refuse, new_costs, object_refuses, sequence_refuses}
use Rattle.fast_spelled.proofs.Places.{none_in_front}
use Rattle.fast_spelled.proofs.Steps.{ElementsLeft, MembersLeft, elements_end, elements_next, element_opens, element_is_none, element_read, empty, map-set, members_begin, members_end, member_named, members_key, member_read, member_unknown, key_shorter, head_is, tail_is, rest_tokens}
use Rattle.fast_spelled.proofs.Answering.{refused_so, element_there, begins_object, whole_node, parts_node, an_object, an_array, group_is, sequence_is, node_group, node_sequence}
use Rattle.fast_spelled.proofs.members.+reading.Goals as goal

pub read_elements-returns-in-Err-clause-read : goal.read_elements-returns-in-Err-clause-read
read_elements-returns-in-Err-clause-read t c = λ js rest e.
    let i = c.loop-reading.invariant.1 js rest e in
    element_refuses (elements_next i.0 c.loop-reading-test.ensures.0) c.args.reading.now.left c.loop-reading.reading.left c.in-Err.fault i.1 c.in-Err.ensures.limit.0 c.in-Err.ensures.limit.1

pub read_elements-returns-in-Err-token-clause-read : goal.read_elements-returns-in-Err-token-clause-read
read_elements-returns-in-Err-token-clause-read t c = λ js rest e.
    let taken = c.loop-reading-test.ensures in
    absurd (element_there (elements_next (c.loop-reading.invariant.1 js rest e).0 taken.0) (sym taken.1 ∙ sym c.in-Ok.ensures.same ∙ c.in-Err-token.ensures.read))

pub read_elements-returns-in_default : goal.read_elements-returns-in_default
read_elements-returns-in_default t c =
    let taken = c.loop-reading-test.ensures in
    let first = sym taken.1 ∙ sym c.in-Ok.ensures.same ∙ c.in-Ok-token.ensures.read in
    record {
      shorter = omega (arith, c.in-Ok-token.ensures.shorter, ap length c.in-Ok.ensures.same, ap length taken.1, c.loop-reading.invariant.0);
      read = λ js rest e. refused_so c.fault.result
          (element_is_none (elements_next (c.loop-reading.invariant.1 js rest e).0 taken.0) c.token.new.self.reader (token_of c.in-Ok-token.token) first (λ h. c.in_default.not-BeginObject (begins_object c.in-Ok-token.token h)));
    }

pub read_elements-returns-in-Err-read_members-clause-read : goal.read_elements-returns-in-Err-read_members-clause-read
read_elements-returns-in-Err-read_members-clause-read t c = λ js rest e.
    let taken = c.loop-reading-test.ensures in
    let i = c.loop-reading.invariant.1 js rest e in
    let first = sym taken.1 ∙ sym c.in-Ok.ensures.same ∙ c.in-Ok-token.ensures.read ∙ ap (λ k. token_of k ∷ c.token.new.self.reader) c.in-BeginObject.is in
    let o = element_opens (elements_next i.0 taken.0) c.token.new.self.reader first in
    members_refuse o c.args.reading.now.left c.token.new.self.left c.in-Err-read_members.fault (omega (arith, i.1, c.in-Ok.ensures.left, c.in-Ok-token.ensures.left)) (c.in-Err-read_members.ensures.read o.members (items_tokens o.more ++ rest) o.stands)

pub read_elements-loop-reading-preserved : goal.read_elements-loop-reading-preserved
read_elements-loop-reading-preserved t c =
    let taken = c.loop-reading-test.ensures in
    let first = sym taken.1 ∙ sym c.in-Ok.ensures.same ∙ c.in-Ok-token.ensures.read ∙ ap (λ k. token_of k ∷ c.token.new.self.reader) c.in-BeginObject.is in (
      omega (arith, c.in-Ok-read_members.ensures.shorter, c.in-Ok-token.ensures.shorter, ap length c.in-Ok.ensures.same, ap length taken.1, c.loop-reading.invariant.0),
      λ js rest e.
          let i = c.loop-reading.invariant.1 js rest e in
          let o = element_opens (elements_next i.0 taken.0) c.token.new.self.reader first in
          let r = c.in-Ok-read_members.ensures.read o.members (items_tokens o.more ++ rest) o.stands in (
            subst (ElementsLeft (list_of c.args.members.now) js rest c.read_members.new.reading.reader) (sym c.in-Ok-push.ensures.items)
                (element_read o c.in-Ok-read_members.nodes c.read_members.new.reading.reader r.0.0 r.1),
            subst (λ es. c.args.reading.now.left ≡ done_nodes es + c.read_members.new.reading.left) (sym c.in-Ok-push.ensures.items)
                (element_counted c.loop-reading.elements.items c.in-Ok-read_members.nodes c.args.reading.now.left c.token.new.self.left c.read_members.new.reading.left (omega (arith, i.1, c.in-Ok.ensures.left, c.in-Ok-token.ensures.left)) r.0.1),
          ),
    )

pub read_elements-returns-clause-read : goal.read_elements-returns-clause-read
read_elements-returns-clause-read t c = λ js rest e.
    let i = c.loop-reading.invariant.1 js rest e in
    let x = elements_end i.0 c.take_end_array.new.self c.loop-reading-test.ensures in
    ((x.0, all_counted c.loop-reading.elements.items c.args.reading.now.left c.loop-reading.reading.left i.1), x.1)

pub read_members-returns-in-Err-clause-read : goal.read_members-returns-in-Err-clause-read
read_members-returns-in-Err-clause-read t c = λ ms rest e. object_refuses c.args.members.now ms c.args.reading.now.left c.in-Err.fault c.in-Err.ensures.limit.0 c.in-Err.ensures.limit.1

pub read_members-loop-name-init : goal.read_members-loop-name-init
read_members-loop-name-init t c =
    let many : c.loop.counter ≡ length c.args.members.now = omega (arith, c.loop-test.false, c.loop.auto.counter-end) in
    let slots = c.loop.invariant.0 ∙ ap (λ n. replicate n None) many in (
      omega (arith, ap length c.in-Ok.ensures.same),
      ap length slots ∙ length-replicate (length c.args.members.now) None,
      λ ms rest e. (
        members_begin c.args.members.now ms rest c.take_nodes.new.self.reader c.loop.slots.items slots (c.in-Ok.ensures.same ∙ e),
        omega (arith, c.in-Ok.ensures.left, new_costs c.args.members.now c.loop.slots.items (ap slots_of slots ∙ empty c.args.members.now)),
      ),
      none_in_front c.loop.slots.items,
    )

pub read_members-returns-in-Err-next_key-clause-read : goal.read_members-returns-in-Err-next_key-clause-read
read_members-returns-in-Err-next_key-clause-read t c = λ ms rest e. absurd (members_key (c.loop-name.invariant.2 ms rest e).0 c.in-Err-next_key.ensures.value)

pub read_members-returns-in-None-clause-read : goal.read_members-returns-in-None-clause-read
read_members-returns-in-None-clause-read t c = λ ms rest e.
    let key_is = c.in-Ok-Some.ensures.value ∙ ap (λ o. Some (option_map (λ s. s.now) o, c.next_key.new.self)) c.in-Ok-Some.field-0-is in
    let x = member_named (c.loop-name.invariant.2 ms rest e).0 c.next_key.new.self c.in-Ok-Some.name.now key_is in
    refused_so c.fault-in-None.result (member_unknown x (ap (λ s. filled_first (list_of c.args.members.now) (slots_of s) c.in-Ok-Some.name.now x.one) (sym c.deref.ensures.value) ∙ c.in-None.ensures.none refl x.one))

pub read_members-returns-in-Err-read_node-clause-read : goal.read_members-returns-in-Err-read_node-clause-read
read_members-returns-in-Err-read_node-clause-read t c = λ ms rest e.
    let key_is = c.in-Ok-Some.ensures.value ∙ ap (λ o. Some (option_map (λ s. s.now) o, c.next_key.new.self)) c.in-Ok-Some.field-0-is in
    let i = c.loop-name.invariant.2 ms rest e in
    let x = member_named i.0 c.next_key.new.self c.in-Ok-Some.name.now key_is in
    let m = c.index-members-place.result in
    let some = c.in-Some.ensures.some in
    let place_is = ap (λ s. filled_first (list_of c.args.members.now) (slots_of s) c.in-Ok-Some.name.now x.one) (sym c.deref.ensures.value) ∙ some.2 x.one m
    ∙ ap (λ s. option_map (λ n. set (slots_of s) c.in-Some.place (Some n)) (item_by (instruction_of (get_or c.args.members.now c.in-Some.place m)) x.one)) c.deref.ensures.value ∙ ap (λ f. option_map (λ n. set (slots_of c.loop-name.slots.items) c.in-Some.place (Some n)) (item_by (instruction_of f) x.one)) (sym c.index-members-place.is) in
    member_refuses x (instruction_of m) c.in-Some.place c.args.reading.now.left c.loop-name.reading.left c.in-Err-read_node.fault place_is (omega (arith, some.0, c.loop-name.invariant.1))
    (ap (λ s. get_or s c.in-Some.place None) (sym c.deref.ensures.value) ∙ some.1) i.1 (c.in-Err-read_node.ensures.read x.one (members_tokens x.more ++ rest) x.stands)

pub read_members-loop-name-preserved : goal.read_members-loop-name-preserved
read_members-loop-name-preserved t c =
    let key_is = c.in-Ok-Some.ensures.value ∙ ap (λ o. Some (option_map (λ s. s.now) o, c.next_key.new.self)) c.in-Ok-Some.field-0-is in
    let m = c.index-members-place.result in
    let some = c.in-Some.ensures.some in
    let place = c.in-Some.place in
    let slots = c.loop-name.slots.items in (
      omega (arith, c.in-Ok-read_node.ensures.shorter, key_shorter c.loop-name.reading.reader (Some c.in-Ok-Some.name.now) c.next_key.new.self key_is, c.loop-name.invariant.0),
      ap length c.put_node.ensures ∙ length-set c.loop-name.slots.items c.in-Some.place (Some c.in-Ok-read_node.node) ∙ c.loop-name.invariant.1,
      λ ms rest e.
          let i = c.loop-name.invariant.2 ms rest e in
          let x = member_named i.0 c.next_key.new.self c.in-Ok-Some.name.now key_is in
          let place_is = ap (λ s. filled_first (list_of c.args.members.now) (slots_of s) c.in-Ok-Some.name.now x.one) (sym c.deref.ensures.value) ∙ some.2 x.one m
          ∙ ap (λ s. option_map (λ n. set (slots_of s) c.in-Some.place (Some n)) (item_by (instruction_of (get_or c.args.members.now c.in-Some.place m)) x.one)) c.deref.ensures.value ∙ ap (λ f. option_map (λ n. set (slots_of c.loop-name.slots.items) c.in-Some.place (Some n)) (item_by (instruction_of f) x.one)) (sym c.index-members-place.is) in
          let r = c.in-Ok-read_node.ensures.read x.one (members_tokens x.more ++ rest) x.stands in (
            subst (MembersLeft (list_of c.args.members.now) ms rest c.read_node.new.reading.reader) (sym c.put_node.ensures)
                (member_read x (instruction_of m) c.in-Some.place c.in-Ok-read_node.node c.read_node.new.reading.reader place_is r.0.0 r.1),
            subst (λ s. c.args.reading.now.left ≡ costs (slots_of s) + c.read_node.new.reading.left) (sym c.put_node.ensures)
                (member_counted slots place c.in-Ok-read_node.node c.args.reading.now.left c.loop-name.reading.left c.read_node.new.reading.left (omega (arith, some.0, c.loop-name.invariant.1))
                (ap (λ s. get_or s place None) (sym c.deref.ensures.value) ∙ some.1) i.1 r.0.1 (map-set slots place c.in-Ok-read_node.node)),
          ),
      subst (λ s. AreFilled s c.filled_in_front-front.result) c.deref-in-Some.ensures.value (c.filled_in_front-front.ensures),
    )

pub read_members-returns-clause-read : goal.read_members-returns-clause-read
read_members-returns-clause-read t c = λ ms rest e.
    let key_is = c.in-Ok-None.ensures.value ∙ ap (λ o. Some (option_map (λ s. s.now) o, c.next_key.new.self)) c.in-Ok-None.field-0-is in
    let i = c.loop-name.invariant.2 ms rest e in
    let x = members_end i.0 c.next_key.new.self key_is in
    finished_members c.finish.result (list_of c.args.members.now) ms (slots_of c.loop-name.slots.items) c.next_key.new.self rest c.args.reading.now.left c.loop-name.reading.left x.0 x.1 i.1 c.finish.ensures

pub read_node-returns-in-Field : goal.read_node-returns-in-Field
read_node-returns-in-Field t c = record {
  shorter = c.in-Ok.ensures.shorter;
  read = λ j rest e.
      let first = sym c.in-Ok.ensures.read ∙ e in
      let head = head_is j rest c.token.new.self.reader (token_of c.in-Ok.token) first in
      whole_node c.read_field.result c.args.flat.now c.in-Field.name c.in-Field.number c.in-Field.presence c.in-Field.whole c.in-Ok.token j c.token.new.self.reader rest c.args.reading.now.left c.token.new.self.left c.in-Field.is head c.in_default.not-Null
      (tail_is j rest c.token.new.self.reader (token_of c.in-Ok.token) first) c.in-Ok.ensures.left (c.read_field.ensures j head);
}

pub read_node-returns-in-Parts : goal.read_node-returns-in-Parts
read_node-returns-in-Parts t c = record {
  shorter = c.in-Ok.ensures.shorter;
  read = λ j rest e.
      let first = sym c.in-Ok.ensures.read ∙ e in
      let head = head_is j rest c.token.new.self.reader (token_of c.in-Ok.token) first in
      parts_node c.read_field-in-Parts.result c.args.flat.now c.in-Parts.name c.in-Parts.number c.in-Parts.presence c.in-Parts.exponent c.in-Parts.mantissa c.in-Ok.token j c.token.new.self.reader rest c.args.reading.now.left c.token.new.self.left c.in-Parts.is head
      c.in_default.not-Null (tail_is j rest c.token.new.self.reader (token_of c.in-Ok.token) first) c.in-Ok.ensures.left (c.read_field-in-Parts.ensures j head);
}

pub read_node-returns-in-Ok-read_members : goal.read_node-returns-in-Ok-read_members
read_node-returns-in-Ok-read_members t c = record {
  shorter = omega (arith, c.in-Ok-read_members.ensures.shorter, c.in-Ok.ensures.shorter);
  read = λ j rest e.
      let first = sym c.in-Ok.ensures.read ∙ e in
      let o = an_object j (sym (ap token_of c.in-BeginObject.is) ∙ head_is j rest c.token.new.self.reader (token_of c.in-Ok.token) first) in
      let r = c.in-Ok-read_members.ensures.read o.members rest (tail_is j rest c.token.new.self.reader (token_of c.in-Ok.token) first ∙ ap (λ k. rest_tokens k ++ rest) o.is) in (
        (
          group_is c.args.flat.now c.in-Group.name c.in-Group.number c.in-Group.presence c.in-Group.members j o.members c.in-Group.is o.is ∙ ap (λ l. option_map group_items (items_by (list_of l) o.members)) (sym c.deref.ensures.value) ∙ ap (option_map group_items) r.0.0
              ∙ ap Some (sym (node_group c.in-Ok-read_members.nodes)),
          omega (arith, r.0.1, c.in-Ok.ensures.left, ap nodes_of (node_group c.in-Ok-read_members.nodes)),
        ),
        r.1,
      );
}

pub read_node-returns-in-Ok-read_elements : goal.read_node-returns-in-Ok-read_elements
read_node-returns-in-Ok-read_elements t c = record {
  shorter = omega (arith, c.in-Ok-read_elements.ensures.shorter, c.in-Ok.ensures.shorter);
  read = λ j rest e.
      let first = sym c.in-Ok.ensures.read ∙ e in
      let o = an_array j (sym (ap token_of c.in-BeginArray.is) ∙ head_is j rest c.token.new.self.reader (token_of c.in-Ok.token) first) in
      let r = c.in-Ok-read_elements.ensures.read o.items rest (tail_is j rest c.token.new.self.reader (token_of c.in-Ok.token) first ∙ ap (λ k. rest_tokens k ++ rest) o.is) in (
        (
          sequence_is c.args.flat.now c.in-Sequence.name c.in-Sequence.number c.in-Sequence.presence c.in-Sequence.length c.in-Sequence.members j o.items c.in-Sequence.is o.is ∙ ap (λ l. option_map sequence_elements (elements_by (λ ms. items_by (list_of l) ms) o.items)) (sym c.deref-in-BeginArray.ensures.value)
              ∙ ap (option_map sequence_elements) r.0.0 ∙ ap Some (sym (node_sequence c.in-Ok-read_elements.elements)),
          omega (arith, r.0.1, c.in-Ok.ensures.left, ap nodes_of (node_sequence c.in-Ok-read_elements.elements)),
        ),
        r.1,
      );
}

pub read_node-returns-in-Err-read_elements : goal.read_node-returns-in-Err-read_elements
read_node-returns-in-Err-read_elements t c = record {
  shorter = omega (arith, c.in-Err-read_elements.ensures.shorter, c.in-Ok.ensures.shorter);
  read = λ j rest e.
      let first = sym c.in-Ok.ensures.read ∙ e in
      let o = an_array j (sym (ap token_of c.in-BeginArray.is) ∙ head_is j rest c.token.new.self.reader (token_of c.in-Ok.token) first) in
      let r = c.in-Err-read_elements.ensures.read o.items rest (tail_is j rest c.token.new.self.reader (token_of c.in-Ok.token) first ∙ ap (λ k. rest_tokens k ++ rest) o.is) in
      sequence_refuses (item_by (instruction_of c.args.flat.now) j) _ c.args.reading.now.left c.token.new.self.left c.in-Err-read_elements.fault
      (sequence_is c.args.flat.now c.in-Sequence.name c.in-Sequence.number c.in-Sequence.presence c.in-Sequence.length c.in-Sequence.members j o.items c.in-Sequence.is o.is
      ∙ ap (λ l. option_map sequence_elements (elements_by (λ ms. items_by (list_of l) ms) o.items)) (sym c.deref-in-BeginArray.ensures.value)) c.in-Ok.ensures.left r;
}
