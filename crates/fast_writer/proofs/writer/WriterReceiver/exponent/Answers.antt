use Rattle.fast_writer.proofs.Common.{MatchResult-weaker, exponent_of}
use Rattle.fast_writer.proofs.SpeltParts.{exponent_there}
use Rattle.fast_writer.proofs.Opened.{drafts_exponent}
use Rattle.fast_writer.proofs.Writers.{is_exponent}
use Rattle.fast_writer.proofs.Awaiting.{behind, next_is, none_passed}
use Rattle.fast_writer.proofs.writer.WriterReceiver.exponent.Goals as goal

pub relay_part-requires-clause-none : goal.relay_part-requires-clause-none
relay_part-requires-clause-none g c = none_passed c.args.self.now.run c.args.part.now c.args.bit c.requires.awaits

pub relay_part-requires-clause-next : goal.relay_part-requires-clause-next
relay_part-requires-clause-next g c = next_is c.args.self.now.run c.args.part.now c.args.bit c.requires.awaits

pub returns-clause-goes : goal.returns-clause-goes
returns-clause-goes g c = MatchResult-weaker c.relay_part.result c.relay_part.ensures.relays (λ y r.
    let x = exponent_there c.args.part.now.kind y.0 r.0 c.requires.told.kind_is r.1 in
    let took = rw (x.1) at r.2.took in
    (exponent_of x.0, took, is_exponent x.0 y.0 x.2, λ number mantissa is o next first. rw (c.relay_part.ensures.around) (drafts_exponent x.0 next first took.entry (rw (x.1) at r.2.spelt)))) (λ f stops. tt)

pub returns-clause-awaits : goal.returns-clause-awaits
returns-clause-awaits g c = MatchResult-weaker c.relay_part.result c.relay_part.ensures.relays
    (λ y r. behind c.args.self.now.run c.relay_part.new.run c.args.part.now c.args.bit c.relay_part.ensures.none r.2.spelt.marked.left c.relay_part.ensures.around) (λ f stops. tt)
