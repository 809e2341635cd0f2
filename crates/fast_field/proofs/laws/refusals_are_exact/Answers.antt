use Rattle.fast_field.proofs.Refused.{refused_has_none}
use Rattle.fast_field.proofs.laws.refusals_are_exact.Goals as goal

pub returns-clause-refused : goal.returns-clause-refused
returns-clause-refused c = refused_has_none
