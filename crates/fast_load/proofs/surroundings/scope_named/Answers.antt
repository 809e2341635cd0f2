use Rattle.std.proofs.Common.{rules}
use Rattle.fast_load.proofs.surroundings.scope_named.Goals as goal

pub returns : goal.returns
returns c = search rules
