use Rattle.fast_nodes.proofs.Common.{◌≡◌, length, drop, map, list_of, elements_of, items_in, elements_fit, items_fit}
use Rattle.fast_nodes.proofs.shape.+shape.Given as goal

abbrev pub invariant-all_fit-members : goal.invariant-all_fit-members
invariant-all_fit-members l = record {
  as_many : length l.flats ≡ length l.nodes;
  so_far : items_fit (list_of l.flats) (items_in l.nodes) ≡ items_fit (list_of (drop l.at l.flats)) (items_in (drop l.at l.nodes));
}

abbrev pub invariant-each_fits-elements : goal.invariant-each_fits-elements
invariant-each_fits-elements l = record {
  so_far : elements_fit (list_of l.members) (elements_of (map (λ e. items_in e.items) l.elements))
      ≡ elements_fit (list_of l.members) (elements_of (map (λ e. items_in e.items) (drop l.at l.elements)));
}
