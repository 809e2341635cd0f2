use Rattle.std.proofs.Common.{refl, arith}
use Rattle.fast_wire.proofs.Calls.{all_bytes}
use Rattle.fast_recording.specs.Calls.{WritesLines}
use Rattle.fast_slices.proofs.Recordings.{has_read, measured}
use Rattle.fast_slices.proofs.recording.show_overflow.Goals as goal

pub returns : goal.returns
returns c =
    let a = c.show_packets-ran.ensures.answer in
    let recording = c.args.recording.now in
    let set = c.args.set.now in
    let bytes = all_bytes recording (λ k. omega (arith, c.type_inv.recording k)) in
    let h = has_read set recording c.new-input.result.rest.now c.show_packets-ran.new.reader.rest.now a.1 a.0 _ _ a.2 c.requires.sound bytes c.requires.few refl c.new-input.ensures refl refl refl in
    measured (WritesLines c.args.form set) c.args.level set recording _ _ _ _ _ a.1 c.show_packets-ran.result c.show_packets-ran.new.writer.count c.measured.result h a.4 c.measured.ensures
