use Rattle.std.proofs.Common.{rules}
use Rattle.fast_written.proofs.from_data.read_template.Goals as goal

pub returns-then-not-fits : goal.returns-then-not-fits
returns-then-not-fits c = search rules
