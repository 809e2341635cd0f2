use Rattle.fast_walk.proofs.Common.{drop, refl, map_goes}
use Rattle.fast_walk.proofs.Steps.{judge_goes}
use Rattle.fast_walk.proofs.bits.read_own_map.Goals as goal

pub returns-in-Ok-read_map-clause-goes : goal.returns-in-Ok-read_map-clause-goes
returns-in-Ok-read_map-clause-goes c = λ d bits spare more.
    let bytes = drop c.args.at c.args.bytes.now in
    rw (c.if-own_map.true, judge_goes c.args.level bytes more c.in-Ok.ensures, map_goes bytes c.in-Ok-read_map.x.0 (drop c.in-Ok-read_map.x.1 c.args.bytes.now) more c.in-Ok-read_map.ensures.gives) refl

pub returns-in-Ok-read_map-clause-map : goal.returns-in-Ok-read_map-clause-map
returns-in-Ok-read_map-clause-map c = rw (c.if-own_map.true) c.in-Ok-read_map.ensures.answer.2
