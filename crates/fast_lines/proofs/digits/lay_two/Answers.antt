use Rattle.fast_lines.proofs.Written.{appended_more}
use Rattle.fast_lines.proofs.Decimals.{pairs_at}
use Rattle.fast_lines.proofs.digits.lay_two.Goals as goal

pub returns-clause-laid : goal.returns-clause-laid
returns-clause-laid c =
    let p = pairs_at c.args.two c.requires.number in
    rw (← p.0, ← p.1) (appended_more _ _ _ _ _ c.lay_byte-at.ensures.laid c.lay_byte.ensures.laid)
