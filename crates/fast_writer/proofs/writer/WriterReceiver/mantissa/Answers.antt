use Rattle.fast_writer.proofs.SpeltParts.{mantissa_taken}
use Rattle.fast_writer.proofs.Opened.{drafts_mantissa}
use Rattle.fast_writer.proofs.Awaiting.{behind, next_is, none_passed}
use Rattle.fast_writer.proofs.writer.WriterReceiver.mantissa.Goals as goal

pub relay_part-requires-clause-none : goal.relay_part-requires-clause-none
relay_part-requires-clause-none g c = none_passed c.args.self.now.run c.args.part.now c.args.bit c.requires.awaits

pub relay_part-requires-clause-next : goal.relay_part-requires-clause-next
relay_part-requires-clause-next g c = next_is c.args.self.now.run c.args.part.now c.args.bit c.requires.awaits

pub returns-clause-goes : goal.returns-clause-goes
returns-clause-goes g c =
    let r = c.in_ok-_there.ensures.relays in
    let x = mantissa_taken c.in_ok-_there._there c.requires.told c.requires.mandatory r.1 r.2.spelt in
    let took = rw (x.1) at r.2.took in
    (x.0, took, λ z o next. rw (c.relay_part.ensures.around) (drafts_mantissa next took.entry (rw (x.1) at r.2.spelt)))

pub returns-clause-awaits : goal.returns-clause-awaits
returns-clause-awaits g c = behind c.args.self.now.run c.relay_part.new.run c.args.part.now c.args.bit c.relay_part.ensures.none c.in_ok-_there.ensures.relays.2.spelt.marked.left c.relay_part.ensures.around
