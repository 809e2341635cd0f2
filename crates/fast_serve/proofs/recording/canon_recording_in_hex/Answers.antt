use Rattle.fast_serve.proofs.Common.{Ok, Err, Memory, refl, rules, err_from_is_err_and, writer_by}
use Rattle.fast_recording.specs.declared.fault.RecordingFault.{RecordingFault}
use Rattle.fast_serve.specs.Served.{CanonRecordingInHex}
use Rattle.fast_serve.proofs.Recordings.{failed_line, in_hex, in_hex_but}
use Rattle.fast_serve.proofs.recording.canon_recording_in_hex.Goals as goal

pub returns-in-Ok : goal.returns-in-Ok
returns-in-Ok g c =
    in_hex c.args.mode c.args.set.now c.args.turns c.args.recording.now _ _ _ _ c.deref.result.now (Ok c.in-Ok.field-0) _ _ c.write_hex_line.result (search rules) c.new.ensures.items c.in-Ok.ensures.answer c.deref.ensures.value
    c.write_hex_line.ensures

pub returns-in_err-write_hex_line-in-Err-Packet : goal.returns-in_err-write_hex_line-in-Err-Packet
returns-in_err-write_hex_line-in-Err-Packet g c =
    let old = writer_by g.O.ByteOutput.taken g.O.ByteOutput.errors g.O.ByteOutput.flushes c.args.out.now in
    let new = writer_by g.O.ByteOutput.taken g.O.ByteOutput.errors g.O.ByteOutput.flushes c.write_hex_line-in-Err-Packet.new.out in
    let refusal = c.in_err-write_hex_line-in-Err-Packet.field-0.0 in
    let p = err_from_is_err_and c.from_residual.result c.from_residual.ensures.1 in
    let all : CanonRecordingInHex c.args.mode c.args.set.now c.args.turns c.args.recording.now old new (Err refusal) =
    in_hex_but c.args.mode c.args.set.now c.args.turns c.args.recording.now _ _ _ _ c.deref-in-Err-Packet.result.now c.in-Err-Packet.field-0 (RecordingFault.Packet c.in-Err-Packet.refused) old new (Err refusal) (search rules)
    c.new.ensures.items c.in-Err-Packet.field-0-is c.in-Err-Packet.ensures.answer c.deref-in-Err-Packet.ensures.value
    (failed_line old new c.deref-in-Err-Packet.result.now c.in-Err-Packet.refused refusal c.in_err-write_hex_line-in-Err-Packet.ensures) in
    rw (p.1, p.2) all

pub returns-in-Err-Packet : goal.returns-in-Err-Packet
returns-in-Err-Packet g c =
    in_hex_but c.args.mode c.args.set.now c.args.turns c.args.recording.now _ _ _ _ c.deref-in-Err-Packet.result.now c.in-Err-Packet.field-0 (RecordingFault.Packet c.in-Err-Packet.refused) _ _ (Err c.of_packet.result) (search rules)
    c.new.ensures.items c.in-Err-Packet.field-0-is c.in-Err-Packet.ensures.answer c.deref-in-Err-Packet.ensures.value (search rules)

pub returns-in-Err-Write : goal.returns-in-Err-Write
returns-in-Err-Write g c =
    in_hex_but c.args.mode c.args.set.now c.args.turns c.args.recording.now _ _ _ _ _ c.in-Err-Write.field-0 RecordingFault.Write _ _ (Err Memory) (search rules) c.new.ensures.items c.in-Err-Write.field-0-is c.in-Err-Write.ensures.answer
    refl (refl, refl)

pub returns : goal.returns
returns g c =
    in_hex_but c.args.mode c.args.set.now c.args.turns c.args.recording.now _ _ _ _ _ c.in-Err-Memory.field-0 RecordingFault.Memory _ _ (Err Memory) (search rules) c.new.ensures.items c.in-Err-Memory.field-0-is
    c.in-Err-Memory.ensures.answer refl (refl, refl)
