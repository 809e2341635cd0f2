use Rattle.std.proofs.Common.{rules}
use Rattle.fast_io.proofs.script.ScriptOutputWrite.write.Goals as goal

pub overflow_sub-self : goal.overflow_sub-self
overflow_sub-self c = search rules

pub returns-clause-count : goal.returns-clause-count
returns-clause-count c = search rules
