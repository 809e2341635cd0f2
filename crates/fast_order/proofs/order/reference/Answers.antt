use Rattle.fast_order.proofs.SearchTurns.{reference_is}
use Rattle.fast_order.proofs.order.reference.Goals as goal

pub returns-clause-value : goal.returns-clause-value
returns-clause-value c = reference_is c.args.references.now c.args.node c.row_of.result.now c.row_of.ensures c.args.number c.place_at.result c.place_at.ensures.value
