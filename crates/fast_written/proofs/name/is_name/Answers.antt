use Rattle.std.proofs.Common.{rules}
use Rattle.fast_written.proofs.name.is_name.Goals as goal

pub returns-then-bytes-le255 : goal.returns-then-bytes-le255
returns-then-bytes-le255 c = search rules
