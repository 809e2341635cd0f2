use Rattle.std.proofs.Common.{◌≡◌, ◌∙◌, Some, ap}
use Rattle.fast_kept.specs.declared.lent.Lent.{Lent}
use Rattle.fast_c.specs.Reading.{ReadsPacket}
use Rattle.fast_c.proofs.Held.{lent_reader}
use Rattle.fast_c.proofs.readers.read_packet_lent.Goals as goal

pub returns-in-Some-Reader : goal.returns-in-Some-Reader
returns-in-Some-Reader c =
    let was : c.args.lent.now ≡ Some (Lent.Reader c.in-Some-Reader.reader) = c.in-Some-Reader.is ∙ ap Some c.in-Some-Reader.field-0-is in
    lent_reader (ReadsPacket c.args.packet.now) (Unit {0}) c.args.lent.now c.in-Some-Reader.reader c.packet.new.self c.packet.result was (record { reads = c.packet.ensures.reads; whole = c.packet.ensures.whole; refused = c.packet.ensures.refused; too_long = c.packet.ensures.too_long; within = c.packet.ensures.within; stops = c.packet.ensures.stops; same = c.packet.ensures.same })
