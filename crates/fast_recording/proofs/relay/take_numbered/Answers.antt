use Rattle.std.proofs.Common.{◌≡◌, ap}
use Rattle.fast_stream.specs.declared.mode.Mode.{Mode}
use Rattle.fast_recording.proofs.Numbered.{numbered_taken}
use Rattle.fast_recording.proofs.relay.take_numbered.Goals as goal

pub returns-clause-takes : goal.returns-clause-takes
returns-clause-takes g c =
    let level : c.args.machine.now.traversal.level ≡ c.args.manner.level = ap (λ (m : Mode). m.level) c.requires.ready.mode_is in
    numbered_taken _ _ _ _ c.args.number _ _ _ _ c.take_packet.result c.args.manner.numbered c.number_in_lines-number.result c.number_in_lines-number.ensures (rw (level) at c.take_packet.ensures.takes)
