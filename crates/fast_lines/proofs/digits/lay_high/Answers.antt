use Rattle.fast_lines.proofs.Common.{arith}
use Rattle.fast_lines.proofs.Written.{appended_more}
use Rattle.fast_lines.proofs.Decimals.{decimal_many}
use Rattle.fast_lines.proofs.digits.lay_high.Goals as goal

pub returns-clause-laid : goal.returns-clause-laid
returns-clause-laid c =
    rw (decimal_many c.args.number c.if-number-lt100000000.false (omega (arith, c.requires.number)))
    (appended_more _ _ _ _ _ c.lay_few-at.ensures.laid c.lay_eight.ensures.laid)
