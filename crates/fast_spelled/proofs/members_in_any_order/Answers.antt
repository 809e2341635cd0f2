use Rattle.fast_spelled.proofs.Filling.{filled_is}
use Rattle.fast_spelled.proofs.members_in_any_order.Goals as goal

pub returns : goal.returns
returns c = filled_is
