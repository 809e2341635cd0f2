use Rattle.std.proofs.Common.{◌-◌, length, refl, arith}
use Rattle.fast_lines.proofs.Lanes.{both_plain}
use Rattle.fast_lines.proofs.strings.all_stand.Goals as goal

pub returns-then-lanes_stand : goal.returns-then-lanes_stand
returns-then-lanes_stand c = λ yes. both_plain c.args.text.now 8 (length c.args.text.now - 8) (λ k to. c.if-lanes_stand.ensures refl k (omega arith) (omega (arith, to)))
    (λ k from to. c.lanes_stand-then-lanes_stand.ensures yes k from (omega (arith, to, c.if-text-ge8.true))) (omega (arith, c.if-text-ge16.false))
