use Rattle.fast_serve.proofs.Common.{inr, refl}
use Rattle.fast_serve.proofs.lines.of_message.Goals as goal

pub returns-in-Ok : goal.returns-in-Ok
returns-in-Ok c = inr (c.in-Ok.text, refl, c.in-Ok.ensures)
