use Rattle.std.proofs.Common.{drop, length-append, length-drop, refl, arith}
use Rattle.fast_walk.proofs.Lacking.{counted_waits}
use Rattle.fast_walk.proofs.lack.units_lack.Goals as goal

pub returns-else-count-have : goal.returns-else-count-have
returns-else-count-have c = record {
  vector = c.in-Unicode.is;
  lacks = λ more lacking.
      let size = length-append (drop c.in-Some.next c.args.bytes.now) more in
      let rest = length-drop c.in-Some.next c.args.bytes.now in
      counted_waits c.args.level c.args.kind c.args.presence c.args.bytes.now more (drop c.in-Some.next c.args.bytes.now) c.in-Some.count c.in-Unicode.is (c.is_fit_length.ensures c.if-is_fit_length.true more) (omega arith) (omega (arith, size, rest)) c.in-Some.ensures.count;
  number = refl;
}
