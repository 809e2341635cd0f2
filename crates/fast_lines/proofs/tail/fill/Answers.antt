use Rattle.fast_lines.proofs.Laid.{stored_before}
use Rattle.fast_lines.proofs.tail.fill.Goals as goal

pub returns-clause-before : goal.returns-clause-before
returns-clause-before c = stored_before c.args.bytes.now _ c.args.at c.requires
