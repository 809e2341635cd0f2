use Rattle.std.proofs.Common.{◌<◌, length, refl, arith, rules}
use Rattle.fast_wire.proofs.Calls.{all_bytes}
use Rattle.fast_recording.specs.Calls.{WritesCanonical}
use Rattle.fast_slices.proofs.Recordings.{as_records, fewer, has_read, overflows_from, settled_from}
use Rattle.fast_slices.proofs.recording.canon_recording.Goals as goal

pub returns : goal.returns
returns c =
    let a = c.canonicalise_packets-ran.ensures.answer in
    let recording = c.args.recording.now in
    let set = c.args.set.now in
    let bytes = all_bytes recording (λ k. omega (arith, c.type_inv.recording k)) in
    let h = has_read set recording c.new-input.result.rest.now c.canonicalise_packets-ran.new.reader.rest.now a.1 a.0 _ _ a.2 c.requires.sound bytes c.requires.few refl c.new-input.ensures refl refl refl in
    settled_from (WritesCanonical set) c.args.level set recording _ a.1 c.new-kept.result.bytes.items c.canonicalise_packets-ran.new.writer.bytes.items c.deref.result.now c.args.room.now c.settle.new.room c.canonicalise_packets-ran.result c.settle.result h (as_records set _ c.args.level _ _ a.1 c.canonicalise_packets-ran.result (fewer set recording _ a.1 h) a.4) c.new-kept.ensures
    c.deref.ensures.value c.deref.type_inv.0 c.settle.ensures

pub returns-then-len-room : goal.returns-then-len-room
returns-then-len-room c =
    let a = c.canonicalise_packets-ran.ensures.answer in
    let recording = c.args.recording.now in
    let set = c.args.set.now in
    let bytes = all_bytes recording (λ k. omega (arith, c.type_inv.recording k)) in
    let h = has_read set recording c.new-input.result.rest.now c.canonicalise_packets-ran.new.reader.rest.now a.1 a.0 _ _ a.2 c.requires.sound bytes c.requires.few refl c.new-input.ensures refl refl refl in
    let kept = c.canonicalise_packets-ran.new.writer.bytes.items in
    let longer : length c.args.room.now < length kept = search rules in
    overflows_from (WritesCanonical set) c.args.level set recording _ a.1 c.new-kept.result.bytes.items kept c.args.room.now c.args.room.now c.canonicalise_packets-ran.result c.canon_overflow.result h (as_records set _ c.args.level _ _ a.1 c.canonicalise_packets-ran.result (fewer set recording _ a.1 h) a.4) c.new-kept.ensures longer refl c.canon_overflow.ensures
