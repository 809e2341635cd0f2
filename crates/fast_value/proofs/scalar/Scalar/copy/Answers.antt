use Rattle.std.proofs.Common.{rules}
use Rattle.fast_value.proofs.scalar.Scalar.copy.Goals as goal

pub returns-in_ok-copy-in-Unicode-clause-value : goal.returns-in_ok-copy-in-Unicode-clause-value
returns-in_ok-copy-in-Unicode-clause-value c = search rules
