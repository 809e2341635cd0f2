use Rattle.fast_wire.proofs.MarkedWords.{mark_found}
use Rattle.fast_wire.proofs.map_builder.marked_count.Goals as goal

pub returns-clause-mark : goal.returns-clause-mark
returns-clause-mark c = (mark_found c.args.word c.requires c.ranges.word.fits).0

pub returns-clause-bits : goal.returns-clause-bits
returns-clause-bits c = (mark_found c.args.word c.requires c.ranges.word.fits).1
