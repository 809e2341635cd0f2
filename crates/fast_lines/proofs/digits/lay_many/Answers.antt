use Rattle.fast_lines.proofs.Common.{arith}
use Rattle.fast_lines.proofs.Written.{appended_more}
use Rattle.fast_lines.proofs.Decimals.{decimal_many}
use Rattle.fast_lines.proofs.digits.lay_many.Goals as goal

pub returns-clause-laid : goal.returns-clause-laid
returns-clause-laid c =
    rw (decimal_many c.args.number c.requires.number (omega (arith, c.ranges.number.fits)))
    (appended_more _ _ _ _ _ c.lay_high-at.ensures.laid c.lay_eight.ensures.laid)
