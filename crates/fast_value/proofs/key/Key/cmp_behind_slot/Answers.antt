use Rattle.std.proofs.Common.{rules}
use Rattle.fast_value.proofs.key.Key.cmp_behind_slot.Goals as goal

pub returns : goal.returns
returns c = search rules
