use Rattle.std.proofs.Common.{rules}
use Rattle.fast_value.proofs.key.Key.copy.Goals as goal

pub returns-in_err-copy : goal.returns-in_err-copy
returns-in_err-copy c = search rules

pub returns-in_err-copy-2 : goal.returns-in_err-copy-2
returns-in_err-copy-2 c = search rules

pub returns : goal.returns
returns c = search rules
