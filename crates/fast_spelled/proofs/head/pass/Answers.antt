use Rattle.fast_spelled.proofs.Heads.{passed, passes}
use Rattle.fast_spelled.proofs.head.pass.Goals as goal

pub returns-in-Ok-clause-read : goal.returns-in-Ok-clause-read
returns-in-Ok-clause-read c = λ j rest d e. passed j rest c.args.reader.now c.skip_value.new.self d e c.in-Ok.ensures.value

pub returns-in-Err-clause-read : goal.returns-in-Err-clause-read
returns-in-Err-clause-read c = λ j rest d e. passes j rest c.args.reader.now d e c.in-Err.ensures.value
