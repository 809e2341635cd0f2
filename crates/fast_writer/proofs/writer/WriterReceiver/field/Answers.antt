use Rattle.fast_writer.proofs.Opened.{drafts_field}
use Rattle.fast_writer.proofs.Awaiting.{behind, next_is, none_passed}
use Rattle.fast_writer.proofs.writer.WriterReceiver.field.Goals as goal

pub relay_part-requires-clause-none : goal.relay_part-requires-clause-none
relay_part-requires-clause-none g c = none_passed c.args.self.now.run c.args.part.now c.args.bit c.requires.awaits

pub relay_part-requires-clause-next : goal.relay_part-requires-clause-next
relay_part-requires-clause-next g c = next_is c.args.self.now.run c.args.part.now c.args.bit c.requires.awaits

pub returns-clause-goes : goal.returns-clause-goes
returns-clause-goes g c =
    let r = c.in_ok-_there.ensures.relays in
    (r.0, r.2.took, λ number is o next first. rw (c.relay_part.ensures.around) (drafts_field next first r.2.took.entry r.2.spelt))

pub returns-clause-awaits : goal.returns-clause-awaits
returns-clause-awaits g c = behind c.args.self.now.run c.relay_part.new.run c.args.part.now c.args.bit c.relay_part.ensures.none c.in_ok-_there.ensures.relays.2.spelt.marked.left c.relay_part.ensures.around
