use Rattle.std.proofs.Common.{◌+◌, ◌*◌, ◌<◌, arith, length, sym, subst, ap, ◌∙◌}
use Rattle.std.specs.List.{AllByRecursion}
use Rattle.hex.specs.Hex.{encode_lower}
use Rattle.fast_spelled.proofs.Fronts.{encode_none, pairs_more, small_more}
use Rattle.fast_spelled.proofs.pieces.hex_bytes.Goals as goal

pub loop-at-init : goal.loop-at-init
loop-at-init c = (omega arith, ap encode_lower c.in-Ok.ensures.items ∙ encode_none, subst (AllByRecursion (λ b. b < 256)) (sym c.in-Ok.ensures.items) tt)

pub loop-at-preserved : goal.loop-at-preserved
loop-at-preserved c =
    let within : c.loop-at.at + 1 < length c.args.digits.now = omega (arith, c.loop-at-test.true) in (
      omega (arith, within),
      pairs_more c.args.digits.now c.loop-at.bytes.items c.push.new.self.items c.loop-at.at c.in_ok-high.high c.in_ok-low.low within c.loop-at.invariant.1 c.in_ok-high.ensures.1 c.in_ok-low.ensures.1 c.in_ok-low.ensures.0 c.in-Ok-push.ensures.items,
      small_more c.loop-at.bytes.items c.push.new.self.items (16 * c.in_ok-high.high + c.in_ok-low.low) c.loop-at.invariant.2 (omega (arith, c.in_ok-high.ensures.0, c.in_ok-low.ensures.0)) c.in-Ok-push.ensures.items,
    )
