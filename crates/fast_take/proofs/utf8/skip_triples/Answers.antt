use Rattle.fast_take.proofs.Common.{arith, inl, of_three}
use Rattle.fast_take.proofs.Utf8Steps.{further}
use Rattle.fast_take.proofs.utf8.skip_triples.Goals as goal

pub loop-next-preserved : goal.loop-next-preserved
loop-next-preserved c =
    let triple = c.is_triple.ensures.0 c.loop-next-test.true in
    further c.args.units.now c.args.at c.loop-next.next 3 c.loop-next.invariant (omega (arith, triple.0))
    (of_three c.args.units.now c.loop-next.next triple.0 (omega (arith, triple.1.0), omega (arith, triple.1.1)) (triple.2.0, omega (arith, triple.2.1)) (triple.3.0, omega (arith, triple.3.1))
    (omega (arith, triple.1, triple.2, triple.3)) (inl (omega (arith, triple.1, triple.2, triple.3))))
