use Rattle.std.proofs.Common.{inr}
use Rattle.std.proofs.lemmas.Result.{err_from_is_err_and}
use Rattle.fast_template.specs.Resolved.{list_of}
use Rattle.fast_template.specs.TemplateSets.{templates_in}
use Rattle.fast_stream.specs.Nodes.{content_of}
use Rattle.fast_walk.proofs.Telling.{kept_hold}
use Rattle.fast_stream.specs.Streams.{members_of}
use Rattle.fast_encoder.proofs.NoForm.{no_form, no_form_of, written_of}
use Rattle.fast_nodes.proofs.Messages.{can_try, early_first}
use Rattle.fast_encoder.proofs.encoder.Encoder.encode.Goals as goal

pub put_message-requires-clause-ready : goal.put_message-requires-clause-ready
put_message-requires-clause-ready g c =
    let old = c.args.self.now in
    let found = c.in_ok-template.ensures.judged in
    rw (c.deref.ensures.value) (can_try old.set.now (content_of c.args.message.now) c.template_for.ensures.sound old.served (kept_hold (g.E.Entries.contents old.journal.entries) old.kept) found.known found.whole)

pub returns-clause-written : goal.returns-clause-written
returns-clause-written g c =
    let old = c.args.self.now in
    let found = c.in_ok-template.ensures.judged in
    written_of old.set.now (g.E.Entries.contents old.journal.entries) (g.E.Entries.contents c.put_message.new.journal.entries) (content_of c.args.message.now) (list_of c.in_ok-template.template.now.members.items)
    c.args.out.now.items c.put_message.new.out.items c.put_message.result found.known found.whole (rw (c.deref.ensures.value) at c.put_message.ensures.answer)

pub returns-in_err-template-clause-no_form : goal.returns-in_err-template-clause-no_form
returns-in_err-template-clause-no_form g c =
    let p = err_from_is_err_and c.from_residual.result c.from_residual.ensures.1 in
    let old = c.args.self.now in
    let d = g.E.Entries.contents old.journal.entries in
    rw (p.1, p.2) (no_form old.set.now d (content_of c.args.message.now) c.in_err-template.field-0.0 c.template_for.ensures.sound (kept_hold d old.kept) (inr (early_first (members_of (templates_in old.set.now) c.args.message.now.template) d (content_of c.args.message.now) c.in_err-template.ensures.judged)))

pub returns-clause-no_form : goal.returns-clause-no_form
returns-clause-no_form g c =
    let old = c.args.self.now in
    let d = g.E.Entries.contents old.journal.entries in
    let found = c.in_ok-template.ensures.judged in
    no_form_of old.set.now d (g.E.Entries.contents c.put_message.new.journal.entries) (content_of c.args.message.now) (list_of c.in_ok-template.template.now.members.items)
    c.args.out.now.items c.put_message.new.out.items c.put_message.result c.template_for.ensures.sound (kept_hold d old.kept) found.known found.whole (rw (c.deref.ensures.value) at c.put_message.ensures.answer)
