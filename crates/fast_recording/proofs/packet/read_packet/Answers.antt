use Rattle.std.proofs.Common.{[], ◌∷◌, refl, sym, ◌∙◌}
use Rattle.std.proofs.lemmas.Bool.{false≢true}
use Rattle.std.proofs.lemmas.Result.{MatchResult-weaker}
use Rattle.fast_walk.specs.Received.{handed_on}
use Rattle.fast_machine.proofs.Inputs.{of_bytes, refused_by_bytes}
use Rattle.fast_pass.proofs.Relayings.{goes_on, stops}
use Rattle.fast_pass.specs.Relays.{farther, outset}
use Rattle.fast_recording.proofs.Labels.{writes_none}
use Rattle.fast_recording.proofs.Machines.{begins}
use Rattle.fast_recording.proofs.packet.read_packet.Goals as goal

pub returns-in-Ok-clause-reads : goal.returns-in-Ok-clause-reads
returns-in-Ok-clause-reads g c = λ turns left.
    let reset = c.reset.ensures in
    let r = begins g.O.Output.waiting g.O.Output.makes g.met.O.Output.made g.met.O.PacketOutput.renews c.args.machine.now c.reset.new.self c.requires.rests reset.fault reset.follows turns left in
    let f = c.in-Ok.ensures.follows reset.fault (handed_on [] ∷ []) [] [] r.holds.follows in (
      (
        [],
        0,
        record {
          more = [];
          ended = f.0;
          relays = goes_on g.met.O.Output.made c.feed.new.self turns left (farther outset [] c.args.bytes.now f.0) c.in-Ok.ensures.answer f.1;
          written = refl;
          size_is = refl;
          because = ((λ e. absurd cc), tt);
        },
        writes_none _ _,
      ),
      λ sized. refl,
    )

pub returns-in-Err-clause-reads : goal.returns-in-Err-clause-reads
returns-in-Err-clause-reads g c = λ turns left.
    let reset = c.reset.ensures in
    let r = begins g.O.Output.waiting g.O.Output.makes g.met.O.Output.made g.met.O.PacketOutput.renews c.args.machine.now c.reset.new.self c.requires.rests reset.fault reset.follows turns left in
    let f = c.in-Err.ensures.follows reset.fault (handed_on [] ∷ []) [] [] r.holds.follows in
    let at = (rw (c.in-Err.ensures.answer) at f.1.at).0 in
    let more = c.in-Err.ensures.cause reset.fault in (
      (
        [],
        0,
        record {
          more = [];
          ended = f.0;
          relays = stops g.met.O.Output.made c.feed.new.self turns left (farther outset [] c.args.bytes.now f.0) c.in-Err.fault (refused_by_bytes c.in-Err.fault _ _ turns left _ _ (λ e. absurd (more e)) at) f.1;
          written = refl;
          size_is = refl;
          because = ((λ e. absurd cc), of_bytes c.in-Err.fault _ _ _ at.2 more);
        },
        writes_none _ _,
      ),
      λ sized. refl,
    )

pub returns-clause-reads : goal.returns-clause-reads
returns-clause-reads g c = λ turns left.
    let reset = c.reset.ensures in
    let r = begins g.O.Output.waiting g.O.Output.makes g.met.O.Output.made g.met.O.PacketOutput.renews c.args.machine.now c.reset.new.self c.requires.rests reset.fault reset.follows turns left in
    MatchResult-weaker c.take_in.result (c.take_in.ensures.takes left left)
    (λ x goes. (goes turns outset r, λ sized. absurd (false≢true (sym c.if-is_sized.false ∙ c.is_sized.ensures ∙ sized))))
    (λ s breaks. (breaks turns outset r, λ sized. absurd (false≢true (sym c.if-is_sized.false ∙ c.is_sized.ensures ∙ sized))))
