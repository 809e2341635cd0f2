use Rattle.fast_writer.proofs.Common.{[], ap, ◌∙◌, rules, ◌≡◌, identifier, after_bit, part_needs_bit}
use Rattle.fast_writer.proofs.Opened.{drafts_opened}
use Rattle.fast_writer.proofs.Awaiting.{awaits, begun_drafted, begun_parts, lefts}
use Rattle.fast_writer.proofs.writer.WriterReceiver.begin.Goals as goal

pub returns-clause-goes : goal.returns-clause-goes
returns-clause-goes g c =
    let named : c.args.identifier.now ≡ identifier = search rules in
    let h = begun_parts c.args.self.now.run c.requires.begun.0 c.requires.begun.2 in
    let relays = rw (c.in-Some.is) at c.in_ok-id.ensures.relays in (
      relays.took,
      λ set ms members. rw (c.relay_identifier.ensures.around) (drafts_opened h.around (begun_drafted h c.is_sound.ensures) (rw (named) at relays.took.entry) (rw (named) at relays.spelt)),
    )

pub returns-clause-awaits : goal.returns-clause-awaits
returns-clause-awaits g c = λ b is was.
    let h = begun_parts c.args.self.now.run b was in
    awaits c.relay_identifier.new.run [] (after_bit (part_needs_bit c.args.identifier.now) b) (record {
      none = c.relay_identifier.ensures.none;
      left = c.in_ok-id.ensures.relays.spelt.marked.left ∙ ap (after_bit (part_needs_bit c.args.identifier.now)) h.left;
      around_is = ap lefts (ap (λ o. o.segments) c.relay_identifier.ensures.around ∙ h.around);
    })
