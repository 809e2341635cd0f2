use Rattle.fast_walk.proofs.Common.{rules, IfSome_then}
use Rattle.fast_walk.proofs.Lacking.{entity_lacks, whole_lacks}
use Rattle.fast_walk.proofs.lack.field_lack.Goals as goal

pub returns-in-Delta : goal.returns-in-Delta
returns-in-Delta c = IfSome_then c.entity_lack.result c.entity_lack.ensures (λ l h e. entity_lacks (search rules) (rw (c.in-Delta.is) h))

pub returns-in_default : goal.returns-in_default
returns-in_default c = IfSome_then c.whole_lack.result c.whole_lack.ensures (λ l h e. whole_lacks (search rules) c.in_default.not-Delta h)
