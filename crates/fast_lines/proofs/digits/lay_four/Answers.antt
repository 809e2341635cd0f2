use Rattle.fast_lines.proofs.Common.{◌≡◌, ◌-◌, ◌*◌, ◌%◌, arith}
use Rattle.fast_lines.proofs.Written.{appended_more}
use Rattle.fast_lines.proofs.digits.lay_four.Goals as goal

pub returns-clause-laid : goal.returns-clause-laid
returns-clause-laid c =
    let e : c.args.four - c.hundreds-high.result * 100 ≡ c.args.four % 100 = omega (arith, c.hundreds-high.ensures) in
    rw (← c.hundreds-high.ensures, ← e) (appended_more _ _ _ _ _ c.lay_two-at.ensures.laid c.lay_two.ensures.laid)
