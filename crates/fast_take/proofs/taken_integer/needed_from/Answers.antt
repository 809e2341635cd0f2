use Rattle.std.proofs.Common.{arith, sym, ◌∙◌}
use Rattle.fast_take.proofs.TakenIntegers.{one_further, one_less}
use Rattle.fast_take.proofs.taken_integer.needed_from.Goals as goal

pub loop-first-preserved : goal.loop-first-preserved
loop-first-preserved c =
    let u = c.args.unsigned in
    let bytes = c.args.bytes.now in
    let first = c.loop-first.first in
    let long = sym c.is_overlong.ensures ∙ c.loop-first-test.true in
    let s = c.requires.spelt in
    let further = one_further u bytes first c.args.next s.0 s.1 (c.loop-first.invariant.same s.0 s.1 s.2) long in
    record {
      above = omega arith;
      below = omega (arith, further);
      same = one_less u bytes c.args.at first c.args.next long c.loop-first.invariant.same;
    }
