use Rattle.fast_dictionary.proofs.OrderedMaps.{insert_is}
use Rattle.fast_dictionary.proofs.map.set.Goals as goal

pub returns-clause-ok : goal.returns-clause-ok
returns-clause-ok c = insert_is c.args.entries.now c.insert.new.self c.args.key c.args.entry c.in_ok-insert.ensures.updates
