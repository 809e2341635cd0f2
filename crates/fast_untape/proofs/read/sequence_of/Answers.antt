use Rattle.fast_walk.proofs.Views.{item_of-sequence}
use Rattle.fast_untape.proofs.read.sequence_of.Goals as goal

pub returns : goal.returns
returns c = item_of-sequence c.args.elements
