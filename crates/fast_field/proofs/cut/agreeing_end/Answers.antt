use Rattle.std.proofs.Common.{◌≡◌, ◌-◌, ◌+◌, arith, length}
use Rattle.fast_field.proofs.Agreeing.{suffix_none, suffix_on}
use Rattle.fast_field.proofs.cut.agreeing_end.Goals as goal

pub loop-i-init : goal.loop-i-init
loop-i-init c = (omega arith, omega arith, suffix_none c.args.a.now c.args.b.now)

pub loop-i-preserved : goal.loop-i-preserved
loop-i-preserved c =
    let inv = c.loop-i.invariant in
    let a = c.args.a.now in
    let b = c.args.b.now in
    let i = c.loop-i.i in
    let from_a : length a - i - 16 ≡ length a - (i + 16) = omega arith in
    let from_b : length b - i - 16 ≡ length b - (i + 16) = omega arith in
    (omega arith, omega arith, suffix_on a b i 16 (omega arith) (omega arith) (rw (from_a, from_b) at (c.are_same.ensures c.if-are_same.true)) inv.2)
