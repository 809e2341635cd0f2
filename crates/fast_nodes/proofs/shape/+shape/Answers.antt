use Rattle.fast_walk.proofs.Pieces.{is_sequence}
use Rattle.fast_nodes.proofs.Views.{is_elements}
use Rattle.fast_nodes.proofs.shape.+shape.Goals as goal

pub fits-returns-in-Sequence-node : goal.fits-returns-in-Sequence-node
fits-returns-in-Sequence-node t c =
    rw (is_sequence c.in-Sequence.members c.in-Sequence.is, is_elements c.in-Sequence-node.elements c.in-Sequence-node.is) (rw (c.deref-in-Sequence-node.ensures.value, c.deref-in-Sequence-node-2.ensures.value) at c.each_fits.ensures)
