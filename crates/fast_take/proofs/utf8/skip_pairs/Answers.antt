use Rattle.fast_take.proofs.Common.{arith, of_two}
use Rattle.fast_take.proofs.Utf8Steps.{further}
use Rattle.fast_take.proofs.utf8.skip_pairs.Goals as goal

pub loop-next-preserved : goal.loop-next-preserved
loop-next-preserved c =
    let pair = c.is_pair.ensures.0 c.loop-next-test.true in
    further c.args.units.now c.args.at c.loop-next.next 2 c.loop-next.invariant (omega (arith, pair.0))
    (of_two c.args.units.now c.loop-next.next pair.0 (pair.1.0, omega (arith, pair.1.1)) (pair.2.0, omega (arith, pair.2.1)))
