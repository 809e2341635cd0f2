use Rattle.std.proofs.Common.{◌≡◌, arith}
use Rattle.fast_wire.proofs.integer.least_size.Goals as goal

pub returns : goal.returns
returns c =
    let e : c.loop-size.size ≡ 10 = omega arith in
    (omega arith, omega arith, c.requires, rw e at c.loop-size.invariant.1)
