use Rattle.std.proofs.Common.{refl, rules}
use Rattle.fast_io.proofs.counted.CountedByteInput.pull.Goals as goal

pub returns-in-Ok-eq0-clause-error : goal.returns-in-Ok-eq0-clause-error
returns-in-Ok-eq0-clause-error g c = refl

pub returns-in-Ok-clause-error : goal.returns-in-Ok-clause-error
returns-in-Ok-clause-error g c = refl

pub returns-in-Err-clause-error : goal.returns-in-Err-clause-error
returns-in-Err-clause-error c = search rules
