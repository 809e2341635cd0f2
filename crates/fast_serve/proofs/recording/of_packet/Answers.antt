use Rattle.std.proofs.Common.{◌∙◌, inr, refl, sym, subst, Option}
use Rattle.fast_host.specs.Refusals.{IsKnownOr}
use Rattle.fast_host.specs.declared.refusal.Refusal.{Refusal}
use Rattle.fast_host.specs.declared.refusal.Refusal.TheVariants.{Stream}
use Rattle.fast_serve.specs.Packets.{IsPacketOrMemory}
use Rattle.fast_serve.proofs.recording.of_packet.Goals as goal

pub returns-in-Ok : goal.returns-in-Ok
returns-in-Ok c =
    let none = sym c.in-None.is ∙ c.of_machine.ensures in
    subst (λ (known : Option Refusal). IsKnownOr known (IsPacketOrMemory c.args.refused) (Stream c.in-Ok.line)) none (inr (c.in-Ok.line, refl, c.in-Ok.ensures))
