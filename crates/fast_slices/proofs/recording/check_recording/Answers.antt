use Rattle.std.proofs.Common.{refl, arith}
use Rattle.fast_wire.proofs.Calls.{all_bytes}
use Rattle.fast_slices.proofs.Recordings.{counted_all, has_read}
use Rattle.fast_slices.proofs.recording.check_recording.Goals as goal

pub returns : goal.returns
returns c =
    let a = c.check_packets-ran.ensures.answer in
    let recording = c.args.recording.now in
    let set = c.args.set.now in
    let bytes = all_bytes recording (λ k. omega (arith, c.type_inv.recording k)) in
    let h = has_read set recording c.new-input.result.rest.now c.check_packets-ran.new.reader.rest.now a.1 a.0 _ _ a.2 c.requires.sound bytes c.requires.few refl c.new-input.ensures refl refl refl in
    counted_all set c.args.level recording _ _ _ a.1 _ _ c.check_packets-ran.result c.settle.result h a.4 c.settle.ensures
