use Rattle.std.proofs.Common.{refl}
use Rattle.fast_written.proofs.fault.fault_at.Goals as goal

pub returns : goal.returns
returns c = refl
