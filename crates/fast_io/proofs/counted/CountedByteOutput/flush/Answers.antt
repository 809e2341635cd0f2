use Rattle.std.proofs.Common.{rules}
use Rattle.fast_io.proofs.counted.CountedByteOutput.flush.Goals as goal

pub returns-in-Ok-clause-error : goal.returns-in-Ok-clause-error
returns-in-Ok-clause-error c = search rules
