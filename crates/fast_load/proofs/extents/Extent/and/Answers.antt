use Rattle.std.proofs.Common.{rules}
use Rattle.fast_load.proofs.extents.Extent.and.Goals as goal

pub returns-clause-size : goal.returns-clause-size
returns-clause-size c = search rules depth 2
