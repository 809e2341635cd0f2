use Rattle.fast_wire.proofs.Levels.{map_is}
use Rattle.fast_wire.proofs.level.overlong_map.Goals as goal

pub returns-then-entity-gt1 : goal.returns-then-entity-gt1
returns-then-entity-gt1 c = map_is c.args.entity.now c.requires c.if-entity-gt1.true
