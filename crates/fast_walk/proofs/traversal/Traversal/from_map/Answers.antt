use Rattle.fast_walk.proofs.Messages.{map_stops}
use Rattle.fast_walk.proofs.traversal.Traversal.from_map.Goals as goal

pub returns-in-Err-clause-reads : goal.returns-in-Err-clause-reads
returns-in-Err-clause-reads g c = map_stops c.requires.stage c.requires.place c.requires.can c.in-Err.ensures.0 c.in-Err.ensures.1
