use Rattle.std.proofs.Common.{arith}
use Rattle.fast_field.proofs.Agreeing.{prefix_on}
use Rattle.fast_field.proofs.cut.agreeing_front.Goals as goal

pub loop-i-preserved : goal.loop-i-preserved
loop-i-preserved c =
    let inv = c.loop-i.invariant in
    (omega arith, omega arith, prefix_on c.args.a.now c.args.b.now c.loop-i.i 16 (c.are_same.ensures c.if-are_same.true) inv.2)
