use Rattle.fast_write.proofs.Shown.{writes_what_is_shown}
use Rattle.fast_write.proofs.laws.shown_is_written.Goals as goal

pub returns : goal.returns
returns c =
    let sound = c.slots.ensures.sound in
    writes_what_is_shown c.args.set.now sound (c.lines_are_text.ensures c.args.set.now c.names_are_text.ensures) (λ mode stream ms ns. c.one_reading.ensures mode c.args.set.now stream ms ns sound)
