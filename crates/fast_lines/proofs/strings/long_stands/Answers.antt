use Rattle.std.proofs.Common.{◌-◌, length, arith}
use Rattle.fast_lines.proofs.Lanes.{both_plain}
use Rattle.fast_lines.proofs.strings.long_stands.Goals as goal

pub returns : goal.returns
returns c = λ yes. both_plain c.args.text.now c.loop-at.at (length c.args.text.now - 16) c.loop-at.invariant.1
    (λ k from to. c.lanes_stand-2.ensures yes k from (omega (arith, to, c.requires))) c.loop-at-test.false
