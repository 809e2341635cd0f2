use Rattle.fast_take.proofs.Common.{arith, of_one}
use Rattle.fast_take.proofs.Utf8Steps.{further}
use Rattle.fast_take.proofs.utf8.skip_ascii.Goals as goal

pub loop-next-preserved : goal.loop-next-preserved
loop-next-preserved c =
    further c.args.units.now c.args.at c.loop-next.next 1 c.loop-next.invariant (omega arith)
    (of_one c.args.units.now c.loop-next.next c.loop-next-test.true c.if-units-next-lt128.true)
