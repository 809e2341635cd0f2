use Rattle.fast_lines.proofs.Common.{arith}
use Rattle.fast_lines.proofs.Units.{unit_laid, width_at}
use Rattle.fast_lines.proofs.strings.lay_text_unit.Goals as goal

pub returns-clause-place : goal.returns-clause-place
returns-clause-place c = rw (c.from.ensures, c.from-place.ensures) (omega arith, omega (arith, width_at c.args.byte (omega (arith, c.ranges.byte.fits))))

pub returns-clause-laid : goal.returns-clause-laid
returns-clause-laid c = rw (c.put_word.ensures, c.from.ensures, c.from-place.ensures) (unit_laid c.args.bytes.now c.args.at c.args.byte (omega (arith, c.ranges.byte.fits)) c.requires)
