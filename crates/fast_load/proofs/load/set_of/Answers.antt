use Rattle.std.proofs.Common.{rules}
use Rattle.fast_load.proofs.load.set_of.Goals as goal

pub returns-in-Ok-Ok : goal.returns-in-Ok-Ok
returns-in-Ok-Ok c = search rules

pub returns-in-Ok-Err : goal.returns-in-Ok-Err
returns-in-Ok-Err c = search rules

pub resolve-requires-clause-passed : goal.resolve-requires-clause-passed
resolve-requires-clause-passed c = search rules depth 2
