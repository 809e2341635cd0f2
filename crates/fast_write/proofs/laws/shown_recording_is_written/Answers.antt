use Rattle.fast_template.specs.TemplateSets.{templates_in}
use Rattle.fast_write.proofs.RecordingsShown.{writes_shown_recording}
use Rattle.fast_write.proofs.laws.shown_recording_is_written.Goals as goal

pub returns : goal.returns
returns c =
    let set = c.args.set.now in
    let sound = c.slots.ensures.sound in
    writes_shown_recording set c.shown_packets_are_written.ensures (λ level bytes packets others. c.one_reading.ensures level set bytes packets others sound)
    (λ goes_on level at bytes packets. (c.outcomes_are_one.ensures.accepted goes_on level (templates_in set) at bytes packets).1)
