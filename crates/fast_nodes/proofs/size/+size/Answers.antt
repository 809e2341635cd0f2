use Rattle.fast_nodes.proofs.Common.{rules, ◌≡◌, ◌<◌, ◌≤◌, ◌+◌, ◌∷◌, ◌∙◌, sym, ap, length, drop, inr, None, Some, nat_lt, Vec, lt-ltb, or_left, drop_more, Node, has_large_in}
use Rattle.fast_nodes.proofs.Sizes.{of_sequence, none_left, element_refused, all_left}
use Rattle.fast_nodes.proofs.Views.{seen}
use Rattle.fast_nodes.proofs.size.+size.Goals as goal

pub left_behind-returns-then-len-gt-SIZE_LIMIT : goal.left_behind-returns-then-len-gt-SIZE_LIMIT
left_behind-returns-then-len-gt-SIZE_LIMIT t c =
    let es = c.in-Sequence.elements in
    let many : 65535 < length es.items = search rules in
    of_sequence es c.args.node.now c.args.left None c.in-Sequence.is (inr (or_left (nat_lt 65535 (length es.items)) (has_large_in (seen es.items)) (lt-ltb 65535 (length es.items) many)))

pub left_behind-returns-then-left-eq0-2 : goal.left_behind-returns-then-left-eq0-2
left_behind-returns-then-left-eq0-2 t c =
    let es = c.in-Sequence.elements in
    let inside : c.elements.at < length es.items = search rules in
    let none : c.elements.left ≡ 0 = search rules in
    of_sequence es c.args.node.now c.args.left None c.in-Sequence.is (none_left es.items c.elements.at c.args.left c.elements.left _ inside none c.elements.invariant.count)

pub left_behind-returns-in-None : goal.left_behind-returns-in-None
left_behind-returns-in-None t c =
    let es = c.in-Sequence.elements in
    let e = c.index.result.now in
    let inside : c.elements.at < length es.items = search rules in
    let here = drop_more es.items c.elements.at e inside ∙ ap (λ (x : Vec Node). x ∷ drop (c.elements.at + 1) es.items) (sym c.index.ensures) in
    let some : 1 ≤ c.elements.left = search rules in
    of_sequence es c.args.node.now c.args.left None c.in-Sequence.is (element_refused es.items e c.elements.at c.args.left c.elements.left (nat_lt 65535 (length es.items)) here some
    c.elements.invariant.count c.elements.invariant.large (rw (c.deref-in-elements.ensures.value) at c.in-None.ensures))

pub left_behind-returns-after-elements : goal.left_behind-returns-after-elements
left_behind-returns-after-elements t c =
    let es = c.in-Sequence.elements in
    let end : length es.items ≤ c.elements.at = search rules in
    let few : length es.items ≤ 65535 = search rules in
    of_sequence es c.args.node.now c.args.left (Some c.elements.left) c.in-Sequence.is (all_left es.items c.elements.at c.args.left c.elements.left end few c.elements.invariant.count c.elements.invariant.large)
