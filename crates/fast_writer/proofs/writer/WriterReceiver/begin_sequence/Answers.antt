use Rattle.fast_writer.proofs.Common.{MatchResult-weaker}
use Rattle.fast_writer.proofs.Relays.{byte_relays}
use Rattle.fast_writer.proofs.Opened.{drafts_length}
use Rattle.fast_writer.proofs.Awaiting.{behind, next_is, none_passed}
use Rattle.fast_writer.proofs.writer.WriterReceiver.begin_sequence.Goals as goal

pub relay_count-requires-clause-none : goal.relay_count-requires-clause-none
relay_count-requires-clause-none g c = none_passed c.args.self.now.run c.args.part.now c.args.bit c.requires.awaits

pub relay_count-requires-clause-next : goal.relay_count-requires-clause-next
relay_count-requires-clause-next g c = next_is c.args.self.now.run c.args.part.now c.args.bit c.requires.awaits

pub returns-in-Ok-clause-goes : goal.returns-in-Ok-clause-goes
returns-in-Ok-clause-goes g c =
    let r = byte_relays c.args.level c.args.part.now c.args.bit (g.E.Entries.contents c.args.entries.now) c.in-Some.count c.args.bytes.now c.args.at c.args.self.now.run.draft.inner c.push.new.self.inner
    c.in-Some.ensures.bit (c.requires.bit c.in-Some.ensures.bit) c.in-Some.ensures.place (c.reads_as_usual.ensures c.if-reads_as_usual.true) c.in-Some.ensures.relays c.in-Ok.ensures.inner in
    (r.took, λ number members is o next first. rw (c.push.ensures.around) (drafts_length c.in-Some.count next first r.took.entry r.spelt))

pub returns-clause-goes : goal.returns-clause-goes
returns-clause-goes g c = MatchResult-weaker c.relay_count.result c.relay_count.ensures.relays
    (λ y r. (r.took, λ number members is o next first. rw (c.relay_count.ensures.around) (drafts_length y.0 next first r.took.entry r.spelt))) (λ f stops. tt)

pub returns-clause-awaits : goal.returns-clause-awaits
returns-clause-awaits g c = MatchResult-weaker c.relay_count.result c.relay_count.ensures.relays
    (λ y r. behind c.args.self.now.run c.relay_count.new.run c.args.part.now c.args.bit c.relay_count.ensures.none r.spelt.marked.left c.relay_count.ensures.around) (λ f stops. tt)
