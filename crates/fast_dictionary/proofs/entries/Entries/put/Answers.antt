use Rattle.std.proofs.Common.{rules}
use Rattle.fast_dictionary.proofs.entries.Entries.put.Goals as goal

pub returns-clause-ok : goal.returns-clause-ok
returns-clause-ok g c = search rules
