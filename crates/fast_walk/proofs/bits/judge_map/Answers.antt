use Rattle.fast_walk.proofs.Common.{drop, cause_of_wire, Cause}
use Rattle.fast_walk.proofs.ShortMaps.{short_map}
use Rattle.fast_walk.proofs.bits.judge_map.Goals as goal

pub returns-in-Strict : goal.returns-in-Strict
returns-in-Strict c = rw (c.in-Strict.is) (short_map cause_of_wire Cause.R7 (drop c.args.at c.args.bytes.now) (c.is_short_map.ensures c.if-is_short_map.true))
