use Rattle.fast_order.specs.Search.{state_of}
use Rattle.fast_order.proofs.SearchGroups.{order_is, first_is}
use Rattle.fast_order.proofs.order.order_of.Goals as goal

pub returns-in-Some : goal.returns-in-Some
returns-in-Some c =
    let found = rw c.deref.ensures.value at c.in-Some.ensures in
    first_is c.args.references.now (state_of c.in_ok-search.search) c.in-Some.first c.in_ok-search.ensures.0 c.in_ok-search.ensures.1 found.0 found.1

pub returns-in-None : goal.returns-in-None
returns-in-None c =
    let found = rw c.deref.ensures.value at c.in-None.ensures in
    order_is c.args.references.now (state_of c.in_ok-search.search) c.in_ok-search.ensures.0 c.in_ok-search.ensures.1 found
