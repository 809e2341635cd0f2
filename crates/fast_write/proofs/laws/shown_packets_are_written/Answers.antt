use Rattle.fast_write.proofs.PacketsShown.{writes_shown_packets}
use Rattle.fast_write.proofs.laws.shown_packets_are_written.Goals as goal

pub returns : goal.returns
returns c =
    let set = c.args.set.now in
    let sound = c.slots.ensures.sound in
    let texts = c.lines_are_text.ensures set c.names_are_text.ensures in
    writes_shown_packets set sound (λ n ms text later others within some few lines. c.numbered_lines_spell_messages.ensures.spelled set n ms text later others sound texts within some few lines) (λ lines ms ns. c.numbered_lines_spell_messages.ensures.once set lines ms ns)
    (λ line n k m l. c.numbered_lines_spell_their_messages.ensures.once set line n k m l)
