use Rattle.std.proofs.Common.{rules}
use Rattle.fast_dictionary.proofs.entry.EntryRef.copy.Goals as goal

pub returns-in_ok-copy-in-Assigned : goal.returns-in_ok-copy-in-Assigned
returns-in_ok-copy-in-Assigned c = search rules
