use Rattle.std.proofs.Common.{rules}
use Rattle.fast_io.proofs.counted.Counted.new.Goals as goal

pub returns-clause-calls : goal.returns-clause-calls
returns-clause-calls c = search rules
