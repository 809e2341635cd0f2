use Rattle.std.proofs.Common.{◌≡◌, ◌+◌, ◌<◌, rules, arith, length, get_or}
use Rattle.fast_spelled.proofs.Fronts.{digits_more, first_digit, one_digit}
use Rattle.fast_spelled.proofs.pieces.unsigned.Goals as goal

pub returns-then-number-eq0 : goal.returns-then-number-eq0
returns-then-number-eq0 c =
    let first : c.in_ok-first.first.now ≡ 48 + 0 = omega (arith, c.in_ok-number.ensures, c.if-number-eq0.true) in
    one_digit c.args.bytes.now c.in_ok-first.left.now c.in_ok-first.first.now 0 c.in_ok-first.ensures.cases.0 first (omega arith)

pub loop-at-init : goal.loop-at-init
loop-at-init c =
    let number = c.in_ok-number.number in (
      omega (arith, c.in_ok-first.ensures.cases.1),
      first_digit c.args.bytes.now c.in_ok-first.left.now c.in_ok-first.first.now number c.in_ok-first.ensures.cases.0 c.in_ok-number.ensures.1 c.in_ok-number.ensures.0,
      omega (arith, c.if-number-eq0.false),
      omega (arith, c.in_ok-number.ensures.0),
    )

pub loop-at-preserved : goal.loop-at-preserved
loop-at-preserved c =
    let within : c.loop-at.at < length c.args.bytes.now = search rules in
    let few : c.from.result < 10 = search rules in
    let is : get_or c.args.bytes.now c.loop-at.at 0 ≡ 48 + c.from.result = search rules in (
      omega (arith, within),
      digits_more c.args.bytes.now c.loop-at.at c.loop-at.number c.from.result within c.loop-at.invariant.1 is c.loop-at.invariant.2 c.if-number-lt-MANY.true few,
      omega (arith, c.loop-at.invariant.2),
      omega (arith, c.if-number-lt-MANY.true, few),
    )
