use Rattle.fast_walk.proofs.Views.{item_of-group}
use Rattle.fast_untape.proofs.read.group_of.Goals as goal

pub returns : goal.returns
returns c = item_of-group c.args.items
