use Rattle.fast_order.proofs.Common.{refl, sym, slice_get_read}
use Rattle.fast_order.proofs.order.row_of.Goals as goal

pub returns : goal.returns
returns c = (c.index-references-node.result, slice_get_read c.args.references.now _ c.args.node _ refl c.requires c.index-references-node.is, sym c.deref.ensures.value)
