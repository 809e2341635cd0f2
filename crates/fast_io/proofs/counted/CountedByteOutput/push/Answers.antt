use Rattle.std.proofs.Common.{rules}
use Rattle.fast_io.proofs.counted.CountedByteOutput.push.Goals as goal

pub returns-in-Ok-clause-bytes : goal.returns-in-Ok-clause-bytes
returns-in-Ok-clause-bytes c = search rules

pub returns-in_default-clause-error : goal.returns-in_default-clause-error
returns-in_default-clause-error c = search rules
