use Rattle.fast_lines.proofs.Common.{arith}
use Rattle.fast_lines.proofs.Units.{stands_at}
use Rattle.fast_lines.proofs.strings.stands.Goals as goal

pub returns : goal.returns
returns c = rw (c.from.ensures) (stands_at c.args.byte (omega (arith, c.ranges.byte.fits)))
