use Rattle.std.proofs.Common.{rules}
use Rattle.fast_written.proofs.from_data.templates_in_data.Goals as goal

pub returns : goal.returns
returns c = search rules depth 2
