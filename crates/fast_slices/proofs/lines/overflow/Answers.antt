use Rattle.fast_slices.proofs.WrittenLines.{measured}
use Rattle.fast_slices.proofs.lines.overflow.Goals as goal

pub returns : goal.returns
returns c = measured c.args.numbered c.args.set.now c.args.lines.now _ _ c.run-ran.result c.measured.result c.run-ran.ensures c.measured.ensures
