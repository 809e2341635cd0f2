use Rattle.std.proofs.Common.{rules}
use Rattle.fast_load.proofs.operators.OperatorsJudge.judge.Goals as goal

pub returns-in_err-cause-in-Parts : goal.returns-in_err-cause-in-Parts
returns-in_err-cause-in-Parts c = search rules
