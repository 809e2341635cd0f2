use Rattle.std.proofs.Common.{rules}
use Rattle.fast_written.proofs.profile.is_shape.Goals as goal

pub returns-in-Whole : goal.returns-in-Whole
returns-in-Whole c = search rules
