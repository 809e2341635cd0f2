use Rattle.std.proofs.Common.{inr, refl}
use Rattle.fast_host.proofs.refusal.Refusal.of_line.Goals as goal

pub returns-in-Ok-clause-line : goal.returns-in-Ok-clause-line
returns-in-Ok-clause-line c = inr (c.in-Ok.text, refl)
