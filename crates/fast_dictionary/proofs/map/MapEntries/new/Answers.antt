use Rattle.std.proofs.Common.{rules}
use Rattle.fast_dictionary.proofs.map.MapEntries.new.Goals as goal

pub returns : goal.returns
returns c = search rules
