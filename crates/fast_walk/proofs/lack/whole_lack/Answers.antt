use Rattle.std.proofs.lemmas.Option.{IfSome_then}
use Rattle.fast_walk.proofs.Lacking.{entity_whole, vector_whole}
use Rattle.fast_walk.proofs.lack.whole_lack.Goals as goal

pub returns-in-Some : goal.returns-in-Some
returns-in-Some c = entity_whole (rw (c.first_limit.ensures.limit) at c.in-Some.ensures)

pub returns-in-None : goal.returns-in-None
returns-in-None c = IfSome_then c.units_lack.result c.units_lack.ensures (λ l h. vector_whole h)
