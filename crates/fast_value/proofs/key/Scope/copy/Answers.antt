use Rattle.std.proofs.Common.{rules}
use Rattle.fast_value.proofs.key.Scope.copy.Goals as goal

pub returns-in_ok-copy-in-Typed : goal.returns-in_ok-copy-in-Typed
returns-in_ok-copy-in-Typed c = search rules
