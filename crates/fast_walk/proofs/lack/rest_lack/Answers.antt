use Rattle.std.proofs.Common.{rules}
use Rattle.fast_walk.proofs.NewParts.{second_lacks}
use Rattle.fast_walk.proofs.lack.rest_lack.Goals as goal

pub returns-in-Err-NeedMore : goal.returns-in-Err-NeedMore
returns-in-Err-NeedMore c = second_lacks _ c.in-Ok.next (c.has_second.ensures c.if-not-has_second.false) c.in-Ok.ensures.gives c.in-Some.ensures (search rules)
