use Rattle.fast_load.proofs.FlatLaws.{placed_none}
use Rattle.fast_load.proofs.flat_lists.append_placed.Goals as goal

pub returns-in-None : goal.returns-in-None
returns-in-None c = placed_none c.args.lists.now c.args.flats.now.items c.args.place c.in-None.ensures.lookup.3
