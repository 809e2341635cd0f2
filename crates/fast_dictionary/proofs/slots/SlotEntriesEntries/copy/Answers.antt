use Rattle.std.proofs.Common.{rules}
use Rattle.fast_dictionary.proofs.slots.SlotEntriesEntries.copy.Goals as goal

pub returns-clause-same : goal.returns-clause-same
returns-clause-same c = search rules
