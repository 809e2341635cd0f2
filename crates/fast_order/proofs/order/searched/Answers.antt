use Rattle.fast_order.specs.Search.{state_of}
use Rattle.fast_order.proofs.SearchTurns.{roots_more}
use Rattle.fast_order.proofs.order.searched.Goals as goal

pub loop-root-preserved : goal.loop-root-preserved
loop-root-preserved c = record {
  stands = c.in_ok-search_from.ensures.stands;
  at_rest = c.in_ok-search_from.ensures.at_rest;
  done = roots_more c.args.references.now (state_of c.loop-root.search) (state_of c.search_from.new.self) c.loop-root.root c.loop-root-test.true c.loop-root.invariant.done c.in_ok-search_from.ensures.done c.in_ok-search_from.ensures.seen c.in_ok-search_from.ensures.stands c.in_ok-search_from.ensures.at_rest;
}
