use Rattle.fast_order.proofs.SearchTurns.{names_itself}
use Rattle.fast_order.proofs.order.refers_to_itself.Goals as goal

pub returns : goal.returns
returns c = names_itself c.args.references.now c.args.node c.row_of.result.now c.has_place.result c.row_of.ensures c.has_place.ensures
