use Rattle.std.proofs.Common.{arith}
use Rattle.fast_field.proofs.Agreeing.{suffix_stops}
use Rattle.fast_field.proofs.cut.common_suffix.Goals as goal

pub returns-then-a-i : goal.returns-then-a-i
returns-then-a-i c = suffix_stops c.args.a.now c.args.b.now c.loop-i.i (omega arith) (omega arith) c.if-a-i.true c.loop-i.invariant
