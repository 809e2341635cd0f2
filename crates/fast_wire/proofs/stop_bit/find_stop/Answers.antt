use Rattle.std.proofs.Common.{rules}
use Rattle.fast_wire.proofs.stop_bit.find_stop.Goals as goal

pub returns-then-run-lt-LANES : goal.returns-then-run-lt-LANES
returns-then-run-lt-LANES c = search rules

pub returns : goal.returns
returns c = search rules

pub loop-at-preserved : goal.loop-at-preserved
loop-at-preserved c = search rules
