use Rattle.std.proofs.Common.{◌∙◌, inr, refl, sym, subst, Option}
use Rattle.fast_host.specs.Refusals.{IsKnownOr, IsTemplatesOrMemory}
use Rattle.fast_host.specs.declared.refusal.Refusal.{Refusal}
use Rattle.fast_host.specs.declared.refusal.Refusal.TheVariants.{Templates}
use Rattle.fast_host.proofs.refusal.Refusal.of_load.Goals as goal

pub returns-in-Ok : goal.returns-in-Ok
returns-in-Ok c =
    let none = sym c.in-None.is ∙ c.load_refusal.ensures in
    subst (λ (known : Option Refusal). IsKnownOr known (IsTemplatesOrMemory c.args.fault) (Templates c.in-Ok.line)) none (inr (c.in-Ok.line, refl, c.in-Ok.ensures))
