use Rattle.fast_walk.proofs.Common.{◌++◌, [], drop, refl, rules, templates_in, node_limit}
use Rattle.fast_walk.proofs.Steps.{exit_is}
use Rattle.fast_walk.proofs.Heads.{at_map}
use Rattle.fast_walk.proofs.traversal.Traversal.map.Goals as goal

pub returns-in_err-bits : goal.returns-in_err-bits
returns-in_err-bits c =
    rw (exit_is c.from_residual.result c.from_residual.ensures.1) (refl, λ other d. rw (at_map c.args.self.now.level (templates_in c.args.self.now.set.now) d (drop c.args.at c.args.bytes.now), c.in_err-bits.ensures.stops other d [] node_limit) refl)

pub returns : goal.returns
returns c = record {
  place = search rules;
  stage = refl;
  template = refl;
  spare = refl;
  map = c.in_ok-bits.ensures.map;
  set = refl;
  level = refl;
  goes = λ d more. rw (at_map c.args.self.now.level (templates_in c.args.self.now.set.now) d (drop c.args.at c.args.bytes.now ++ more), c.in_ok-bits.ensures.goes d [] node_limit more) refl;
}
