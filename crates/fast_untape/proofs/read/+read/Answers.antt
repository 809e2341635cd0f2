use Rattle.std.proofs.Common.{◌≡◌, ◌∙◌, ◌+◌, ◌-◌, ◌++◌, ◌∷◌, [], None, ap, sym, refl, length, take, drop, map, arith, subst, append-nil, length-append, length-drop}
use Rattle.std.proofs.lemmas.List.{drop_all, drop-drop, length-map, map-append, take-append-drop}
use Rattle.fast_template.specs.Resolved.{instruction_of, list_of}
use Rattle.fast_stream.specs.Nodes.{element_count, elements_of, items_in, items_of, item_of}
use Rattle.fast_tape.specs.Tapes.{SayAll, element_kind, group_kind, long_node, marks_in, marks_in_elements, marks_of, of_group, of_sequence, sequence_kind}
use Rattle.fast_walk.proofs.Pieces.{is_group, is_sequence}
use Rattle.fast_nodes.proofs.Tries.{next_of}
use Rattle.fast_untape.specs.Reading.{SayFirst}
use Rattle.fast_untape.proofs.Reading.{Leaves, LeavesEach, all_left, drop_own, count_elements, elements_more, headed_first, is_false, items_more, leaves_element, leaves_item, none_left, own_is, says_behind, says_element, single_first, so_many, unfit_element, unfit_end, unfit_group, unfit_header, unfit_here, unfit_sequence}
use Rattle.fast_untape.proofs.read.+read.Goals as goal

-- ---- an item

pub item_at-returns-then-is_absent : goal.item_at-returns-then-is_absent
item_at-returns-then-is_absent t c =
    let split : c.args.nodes.now ≡ c.in-Some.first.now ∷ c.in-Some.behind.now = c.in-Some.ensures.cases.0 in
    rw split (single_first c.args.bytes.now c.in-Some.first.now c.in-Some.behind.now None (item_of c.node_of.result) c.node_of.ensures (c.if-is_absent.ensures.yes refl c.args.bytes.now))

pub item_at-returns-then-is_absent-2 : goal.item_at-returns-then-is_absent-2
item_at-returns-then-is_absent-2 t c =
    let split : c.args.nodes.now ≡ c.in-Some.first.now ∷ c.in-Some.behind.now = c.in-Some.ensures.cases.0 in
    rw split (single_first c.args.bytes.now c.in-Some.first.now c.in-Some.behind.now None (item_of c.node_of-then-is_absent-2.result) c.node_of-then-is_absent-2.ensures (c.if-is_absent-2.ensures.yes refl c.args.bytes.now))

pub item_at-returns-in-None : goal.item_at-returns-in-None
item_at-returns-in-None t c =
    let split : c.args.nodes.now ≡ c.in-Some.first.now ∷ c.in-Some.behind.now = c.in-Some.ensures.cases.0 in
    let g = c.in-Group in
    rw (split, is_group g.members g.is) (unfit_group c.args.bytes.now c.in-Some.first.now c.in-Some.behind.now g.name g.number g.presence (list_of g.members.items) (c.if-is_absent.ensures.no refl c.args.bytes.now)
    (λ ns rest b ranges join header says. absurd (c.in-None.ensures c.in-Some.first.now.instruction 0 rest b header join)))

pub item_at-returns-in-None-2 : goal.item_at-returns-in-None-2
item_at-returns-in-None-2 t c =
    let split : c.args.nodes.now ≡ c.in-Some.first.now ∷ c.in-Some.behind.now = c.in-Some.ensures.cases.0 in
    let g = c.in-Group in
    let own = c.in-Some-own_nodes in
    let unfit = rw (c.in-None-2.is, c.deref.ensures.value) at c.in_ok-items_in-in-Some-own_nodes.ensures in
    rw (split, is_group g.members g.is) (unfit_group c.args.bytes.now c.in-Some.first.now c.in-Some.behind.now g.name g.number g.presence (list_of g.members.items) (c.if-is_absent.ensures.no refl c.args.bytes.now)
    (λ ns rest b ranges join header says.
    let same = own_is c.in-Some.first.now c.in-Some.behind.now own.own.now rest b group_kind c.in-Some.first.now.instruction c.in-Some.first.now.number 0 own.ensures.0 own.ensures.2 own.ensures.1 join header in
    unfit ns ranges (rw (← same) says)))

pub item_at-returns-in-Some-2 : goal.item_at-returns-in-Some-2
item_at-returns-in-Some-2 t c =
    let split : c.args.nodes.now ≡ c.in-Some.first.now ∷ c.in-Some.behind.now = c.in-Some.ensures.cases.0 in
    let f = c.in-Some.first.now in
    let own = c.in-Some-own_nodes in
    let is = items_in c.in-Some-2.items.items in
    let zero : f.number ≡ 0 = omega (arith, c.if-first-ne0.false) in
    let header : f ≡ long_node group_kind f.instruction 0 (length own.own.now) = own.ensures.0 ∙ ap (λ n. long_node group_kind f.instruction n (length own.own.now)) zero in
    let says : SayAll c.args.bytes.now (marks_in is) own.own.now = rw (c.in-Some-2.is) at c.in_ok-items_in-in-Some-own_nodes.ensures in
    rw split (headed_first c.args.bytes.now f c.in-Some.behind.now own.own.now of_group (marks_in is) (item_of c.group_of.result) (ap marks_of c.group_of.ensures) header own.ensures.2 own.ensures.1 says)

pub item_at-returns-in-None-own_nodes : goal.item_at-returns-in-None-own_nodes
item_at-returns-in-None-own_nodes t c =
    let split : c.args.nodes.now ≡ c.in-Some.first.now ∷ c.in-Some.behind.now = c.in-Some.ensures.cases.0 in
    let g = c.in-Sequence in
    rw (split, is_sequence g.members g.is) (unfit_sequence c.args.bytes.now c.in-Some.first.now c.in-Some.behind.now g.name g.number g.presence g.length (list_of g.members.items) (c.if-is_absent-2.ensures.no refl c.args.bytes.now)
    (λ es rest b ranges join header says. absurd (c.in-None-own_nodes.ensures c.in-Some.first.now.instruction (element_count es) rest b header join)))

pub item_at-returns-in-None-3 : goal.item_at-returns-in-None-3
item_at-returns-in-None-3 t c =
    let split : c.args.nodes.now ≡ c.in-Some.first.now ∷ c.in-Some.behind.now = c.in-Some.ensures.cases.0 in
    let g = c.in-Sequence in
    let f = c.in-Some.first.now in
    let own = c.in-Some-own_nodes-2 in
    let unfit = rw (c.in-None-3.is, c.deref-in-Some-own_nodes-2.ensures.value) at c.in_ok-elements_in-in-Some-own_nodes-2.ensures in
    rw (split, is_sequence g.members g.is) (unfit_sequence c.args.bytes.now f c.in-Some.behind.now g.name g.number g.presence g.length (list_of g.members.items) (c.if-is_absent-2.ensures.no refl c.args.bytes.now)
    (λ es rest b ranges join header says.
    let same = own_is f c.in-Some.behind.now own.own.now rest b sequence_kind f.instruction f.number (element_count es) own.ensures.0 own.ensures.2 own.ensures.1 join header in
    unfit es ranges (rw (← same) says)))

pub item_at-returns-then-len-first : goal.item_at-returns-then-len-first
item_at-returns-then-len-first t c =
    let split : c.args.nodes.now ≡ c.in-Some.first.now ∷ c.in-Some.behind.now = c.in-Some.ensures.cases.0 in
    let f = c.in-Some.first.now in
    let own = c.in-Some-own_nodes-2 in
    let elements = c.in-Some-3.elements.items in
    let es = elements_of (map (λ e. items_in e.items) elements) in
    let read = rw (c.in-Some-3.is) at c.in_ok-elements_in-in-Some-own_nodes-2.ensures in
    let many : f.number ≡ element_count es = let a = count_elements (map (λ e. items_in e.items) elements) in let b = length-map elements (λ e. items_in e.items) in omega (arith, a, b, c.len.ensures, c.if-len-first.true) in
    let header : f ≡ long_node sequence_kind f.instruction (element_count es) (length own.own.now) = own.ensures.0 ∙ ap (λ n. long_node sequence_kind f.instruction n (length own.own.now)) many in
    rw split (headed_first c.args.bytes.now f c.in-Some.behind.now own.own.now (of_sequence (element_count es)) (marks_in_elements es) (item_of c.sequence_of.result) (ap marks_of c.sequence_of.ensures) header own.ensures.2 own.ensures.1 read.0)

pub item_at-returns-else-len-first : goal.item_at-returns-else-len-first
item_at-returns-else-len-first t c =
    let split : c.args.nodes.now ≡ c.in-Some.first.now ∷ c.in-Some.behind.now = c.in-Some.ensures.cases.0 in
    let g = c.in-Sequence in
    let f = c.in-Some.first.now in
    let own = c.in-Some-own_nodes-2 in
    let read = rw (c.in-Some-3.is, c.deref-in-Some-own_nodes-2.ensures.value) at c.in_ok-elements_in-in-Some-own_nodes-2.ensures in
    rw (split, is_sequence g.members g.is) (unfit_sequence c.args.bytes.now f c.in-Some.behind.now g.name g.number g.presence g.length (list_of g.members.items) (c.if-is_absent-2.ensures.no refl c.args.bytes.now)
    (λ es rest b ranges join header says. is_false _ (λ fits.
    let same = own_is f c.in-Some.behind.now own.own.now rest b sequence_kind f.instruction f.number (element_count es) own.ensures.0 own.ensures.2 own.ensures.1 join header in
    let many = read.1 es ranges (rw (← same) says) fits in
    let number = ap (λ (m : _). m.number) header in
    omega (arith, many, number, c.if-len-first.false))))

-- ---- elements

pub elements_in-returns-then-first-ne0 : goal.elements_in-returns-then-first-ne0
elements_in-returns-then-first-ne0 t c =
    let split : drop c.elements.at c.args.nodes.now ≡ c.in-Some.first.now ∷ c.in-Some.behind.now = sym (all_left c.args.nodes.now c.elements.at) ∙ c.in-Some.ensures.cases.0 in
    unfit_header c.args.bytes.now c.args.nodes.now (list_of c.args.members.now) c.in-Some.first.now c.in-Some.behind.now (length c.elements.elements.items) (rw split at c.elements.invariant.left)
    (λ own b header join. let number = ap (λ (m : _). m.number) header in omega (arith, number, c.if-first-ne0.true))

pub elements_in-returns-in-None : goal.elements_in-returns-in-None
elements_in-returns-in-None t c =
    let split : drop c.elements.at c.args.nodes.now ≡ c.in-Some.first.now ∷ c.in-Some.behind.now = sym (all_left c.args.nodes.now c.elements.at) ∙ c.in-Some.ensures.cases.0 in
    unfit_header c.args.bytes.now c.args.nodes.now (list_of c.args.members.now) c.in-Some.first.now c.in-Some.behind.now (length c.elements.elements.items) (rw split at c.elements.invariant.left)
    (λ own b header join. c.in-None.ensures c.in-Some.first.now.instruction 0 own b header join)

pub elements_in-returns-in-None-2 : goal.elements_in-returns-in-None-2
elements_in-returns-in-None-2 t c =
    let split : drop c.elements.at c.args.nodes.now ≡ c.in-Some.first.now ∷ c.in-Some.behind.now = sym (all_left c.args.nodes.now c.elements.at) ∙ c.in-Some.ensures.cases.0 in
    let own = c.in-Some-own_nodes in
    unfit_element c.args.bytes.now c.args.nodes.now (list_of c.args.members.now) c.in-Some.first.now c.in-Some.behind.now own.own.now (length c.elements.elements.items) (rw split at c.elements.invariant.left)
    own.ensures.0 own.ensures.2 (rw (c.in-None-2.is) at c.in_ok-items_in-in-Some-own_nodes.ensures)

pub elements_in-elements-preserved : goal.elements_in-elements-preserved
elements_in-elements-preserved t c =
    let split : drop c.elements.at c.args.nodes.now ≡ c.in-Some.first.now ∷ c.in-Some.behind.now = sym (all_left c.args.nodes.now c.elements.at) ∙ c.in-Some.ensures.cases.0 in
    let bytes = c.args.bytes.now in
    let nodes = c.args.nodes.now in
    let at = c.elements.at in
    let f = c.in-Some.first.now in
    let behind = c.in-Some.behind.now in
    let own = c.in-Some-own_nodes in
    let items = c.in-Some-2.items in
    let done = map (λ e. items_in e.items) c.elements.elements.items in
    let says : SayAll bytes (marks_in (items_in items.items)) own.own.now = rw (c.in-Some-2.is) at c.in_ok-items_in-in-Some-own_nodes.ensures in
    let zero : f.number ≡ 0 = omega (arith, c.if-first-ne0.false) in
    let header : f ≡ long_node element_kind f.instruction 0 (length own.own.now) = own.ensures.0 ∙ ap (λ n. long_node element_kind f.instruction n (length own.own.now)) zero in
    let long : length nodes - at ≡ length (f ∷ behind) = sym (length-drop at nodes) ∙ ap length split in
    record {
      within = omega (arith, long, own.ensures.1, c.elements.invariant.within);
      so_far = rw (c.in_ok-push-in-Some-2.ensures.items, map-append (λ e. items_in e.items) c.elements.elements.items (items ∷ []), elements_more done (items_in items.items))
          (says_behind bytes (marks_in_elements (elements_of done)) _ nodes at (length own.own.now + 1) c.elements.invariant.so_far (rw split (says_element bytes f behind own.own.now (marks_in (items_in items.items)) header own.ensures.2 says)));
      left = rw (ap (λ (l : _). length l) c.in_ok-push-in-Some-2.ensures.items ∙ length-append c.elements.elements.items (items ∷ []))
          (subst (λ l. LeavesEach bytes nodes (list_of c.args.members.now) l (length c.elements.elements.items + 1)) (drop_own f behind nodes at (length own.own.now) split)
          (leaves_element bytes nodes (list_of c.args.members.now) f behind (length own.own.now) (length c.elements.elements.items) (rw split at c.elements.invariant.left) own.ensures.0));
    }

pub elements_in-returns : goal.elements_in-returns
elements_in-returns t c =
    let none : drop c.elements.at c.args.nodes.now ≡ [] = none_left c.args.nodes.now c.elements.at c.in_default.ensures.cases in
    let all : take c.elements.at c.args.nodes.now ≡ c.args.nodes.now = sym (append-nil (take c.elements.at c.args.nodes.now)) ∙ ap (λ l. take c.elements.at c.args.nodes.now ++ l) (sym none) ∙ take-append-drop c.elements.at c.args.nodes.now in (
      subst (λ l. SayAll c.args.bytes.now (marks_in_elements (elements_of (map (λ e. items_in e.items) c.elements.elements.items))) l) all c.elements.invariant.so_far,
      so_many c.args.bytes.now c.args.nodes.now (list_of c.args.members.now) (length c.elements.elements.items) (rw none at c.elements.invariant.left),
    )

-- ---- items

pub items_in-returns-in-None : goal.items_in-returns-in-None
items_in-returns-in-None t c =
    let now = c.members in
    let flat = next_of c.args.members.now now.member c.index-members-member.result c.members-test.true c.index-members-member.is in
    let left = rw (flat) at now.invariant.left in
    let unfit = rw (all_left c.args.nodes.now now.at) at (rw (c.in-None.is) at c.in_ok-item_at.ensures) in
    unfit_here c.args.bytes.now c.args.nodes.now (drop now.at c.args.nodes.now) (list_of c.args.members.now) (list_of (drop (now.member + 1) c.args.members.now)) (instruction_of c.index-members-member.result) left unfit

pub items_in-members-preserved : goal.items_in-members-preserved
items_in-members-preserved t c =
    let now = c.members in
    let bytes = c.args.bytes.now in
    let nodes = c.args.nodes.now in
    let members = list_of c.args.members.now in
    let others = list_of (drop (now.member + 1) c.args.members.now) in
    let flat = next_of c.args.members.now now.member c.index-members-member.result c.members-test.true c.index-members-member.is in
    let left = rw (flat) at now.invariant.left in
    let done = map item_of now.items.items in
    let count = c.in-Some.count in
    let n = item_of c.in-Some.item in
    let read : SayFirst bytes (drop now.at nodes) count (marks_of n) = rw (all_left nodes now.at) at (rw (c.in-Some.is) at c.in_ok-item_at.ensures) in
    record {
      within = omega (arith, read.within, length-drop now.at nodes, now.invariant.within);
      so_far = rw (c.in_ok-push-in-Some.ensures.items, map-append item_of now.items.items (c.in-Some.item ∷ []), items_more done n)
          (says_behind bytes (marks_in (items_of done)) (marks_of n) nodes now.at count now.invariant.so_far read.says);
      left = subst (λ l. Leaves bytes nodes members l others) (drop-drop count now.at nodes) (leaves_item bytes nodes (drop now.at nodes) members others (instruction_of c.index-members-member.result) n count left read);
    }

pub items_in-returns-else-at-nodes : goal.items_in-returns-else-at-nodes
items_in-returns-else-at-nodes t c =
    let now = c.members in
    let nodes = c.args.nodes.now in
    let none : drop now.member c.args.members.now ≡ [] = drop_all now.member c.args.members.now c.members-test.false in
    unfit_end c.args.bytes.now nodes (drop now.at nodes) (list_of c.args.members.now) (rw none at now.invariant.left) (omega (arith, length-drop now.at nodes, now.invariant.within, c.if-at-nodes.false))
