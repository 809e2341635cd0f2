use Rattle.fast_nodes.proofs.Common.{◌≡◌, ◌+◌, drop, map, elements_of, items_in, nodes_in, nodes_in_elements, has_large, has_large_in}
use Rattle.fast_nodes.proofs.size.+size.Given as goal

abbrev pub invariant-left_behind_all-nodes : goal.invariant-left_behind_all-nodes
invariant-left_behind_all-nodes l = record {
  count : l.fn.left + nodes_in (items_in (drop l.at l.nodes)) ≡ nodes_in (items_in l.nodes) + l.left;
  large : has_large (items_in l.nodes) ≡ has_large (items_in (drop l.at l.nodes));
}

abbrev pub invariant-left_behind-elements : goal.invariant-left_behind-elements
invariant-left_behind-elements l = record {
  count : l.fn.left + nodes_in_elements (elements_of (map (λ e. items_in e.items) (drop l.at l.elements.items)))
      ≡ 1 + nodes_in_elements (elements_of (map (λ e. items_in e.items) l.elements.items)) + l.left;
  large : has_large_in (elements_of (map (λ e. items_in e.items) l.elements.items))
      ≡ has_large_in (elements_of (map (λ e. items_in e.items) (drop l.at l.elements.items)));
}
