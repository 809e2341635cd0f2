use Rattle.std.proofs.Common.{refl}
use Rattle.fast_written.proofs.from_data.plain_operation.Goals as goal

pub returns : goal.returns
returns c = refl
