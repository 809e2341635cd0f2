use Rattle.std.proofs.Common.{rules}
use Rattle.fast_template.proofs.set.TemplateSet.find.Goals as goal

pub returns-in-None-clause-value : goal.returns-in-None-clause-value
returns-in-None-clause-value c = search rules depth 2
