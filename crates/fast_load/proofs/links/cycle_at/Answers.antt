use Rattle.std.proofs.Common.{rules}
use Rattle.fast_load.proofs.links.cycle_at.Goals as goal

pub returns : goal.returns
returns c = search rules depth 2
