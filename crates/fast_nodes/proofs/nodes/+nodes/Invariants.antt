use Rattle.fast_nodes.proofs.Common.{◌≡◌, length, books_of, level_of}
use Rattle.fast_nodes.proofs.Tries.{NodesLeft, ElementsLeft}
use Rattle.fast_nodes.proofs.nodes.+nodes.Given as goal

abbrev pub invariant-put_nodes-members : goal.invariant-put_nodes-members
invariant-put_nodes-members g l = record {
  as_many : length l.flats ≡ length l.nodes;
  left : NodesLeft l.flats l.nodes (books_of g.E.Entries l.fn.journal) (level_of l.fn.level) l.at (books_of g.E.Entries l.journal) (level_of l.level);
}

abbrev pub invariant-put_elements-elements : goal.invariant-put_elements-elements
invariant-put_elements-elements g l = ElementsLeft l.members l.elements (books_of g.E.Entries l.fn.journal) l.fn.out.items l.at (books_of g.E.Entries l.journal) l.out.items
