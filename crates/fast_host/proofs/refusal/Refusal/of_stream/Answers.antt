use Rattle.std.proofs.Common.{◌∙◌, inr, refl, sym, subst, Option}
use Rattle.fast_host.specs.Refusals.{IsKnownOr, IsStreamOrMemory}
use Rattle.fast_host.specs.declared.refusal.Refusal.{Refusal}
use Rattle.fast_host.specs.declared.refusal.Refusal.TheVariants.{Stream}
use Rattle.fast_host.proofs.refusal.Refusal.of_stream.Goals as goal

pub returns-in-Ok : goal.returns-in-Ok
returns-in-Ok c =
    let none = sym c.in-None.is ∙ c.of_machine.ensures in
    subst (λ (known : Option Refusal). IsKnownOr known (IsStreamOrMemory c.args.fault) (Stream c.in-Ok.line)) none (inr (c.in-Ok.line, refl, c.in-Ok.ensures))
