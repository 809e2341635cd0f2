use Rattle.fast_wire.proofs.MarkedWords.{kept_none}
use Rattle.fast_wire.proofs.map_builder.MapBuilder.clear.Goals as goal

pub returns : goal.returns
returns c = kept_none _ c.clear.ensures.items
