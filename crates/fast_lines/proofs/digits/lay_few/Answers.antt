use Rattle.fast_lines.proofs.Common.{◌≡◌, ◌-◌, ◌*◌, ◌%◌, arith}
use Rattle.std.proofs.lemmas.Fmt.{decimal_digit}
use Rattle.fast_lines.proofs.Written.{appended_more}
use Rattle.fast_lines.proofs.Decimals.{decimal_two, decimal_three, decimal_four}
use Rattle.fast_lines.proofs.digits.lay_few.Goals as goal

pub returns-then-number-lt10-clause-laid : goal.returns-then-number-lt10-clause-laid
returns-then-number-lt10-clause-laid c = rw (decimal_digit c.args.number c.if-number-lt10.true) c.lay_byte.ensures.laid

pub returns-then-number-lt100-clause-laid : goal.returns-then-number-lt100-clause-laid
returns-then-number-lt100-clause-laid c = rw (decimal_two c.args.number c.if-number-lt10.false c.if-number-lt100.true) c.lay_two.ensures.laid

pub returns-then-number-lt1000-clause-laid : goal.returns-then-number-lt1000-clause-laid
returns-then-number-lt1000-clause-laid c =
    let e : c.args.number - c.hundreds-high.result * 100 ≡ c.args.number % 100 = omega (arith, c.hundreds-high.ensures) in
    rw (decimal_three c.args.number c.if-number-lt100.false c.if-number-lt1000.true, ← c.hundreds-high.ensures, ← e)
    (appended_more _ _ _ _ _ c.lay_byte-at.ensures.laid c.lay_two-then-number-lt1000.ensures.laid)

pub returns-clause-laid : goal.returns-clause-laid
returns-clause-laid c = rw (decimal_four c.args.number c.if-number-lt1000.false c.requires.number) c.lay_four.ensures.laid
