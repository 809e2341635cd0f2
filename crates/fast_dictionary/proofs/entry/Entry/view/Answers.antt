use Rattle.std.proofs.Common.{rules}
use Rattle.fast_dictionary.proofs.entry.Entry.view.Goals as goal

pub returns-in-Undefined : goal.returns-in-Undefined
returns-in-Undefined c = search rules

pub returns-in-Empty : goal.returns-in-Empty
returns-in-Empty c = search rules

pub returns-in-Assigned : goal.returns-in-Assigned
returns-in-Assigned c = search rules
