use Rattle.fast_walk.proofs.Common.{rules, arith, refl, ◌<◌, ◌-◌, first_limit}
use Rattle.fast_walk.proofs.Lacking.{part_opens}
use Rattle.fast_walk.proofs.traversal.Traversal.opening.Goals as goal

pub returns : goal.returns
returns c = λ d.
    let t = c.args.self.now in
    let part = c.in-Some.part.now in
    let few : c.first_limit.result - 1 < first_limit part.operator part.kind = omega (arith, c.first_limit.ensures) in
    (search rules, part_opens t.level t.walk d part _ c.in-Some.ensures (search rules) few refl refl)
