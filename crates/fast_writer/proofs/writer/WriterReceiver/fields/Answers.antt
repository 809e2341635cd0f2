use Rattle.fast_writer.proofs.Common.{ap, sym, ◌∙◌, IfOk-weaker, on_ok_weaker, bare_next}
use Rattle.fast_writer.proofs.Awaiting.{awaited, awaits, both, lefts}
use Rattle.fast_writer.proofs.writer.WriterReceiver.fields.Goals as goal

pub take_fields-requires-clause-left : goal.take_fields-requires-clause-left
take_fields-requires-clause-left g c = sym (awaited c.args.self.now.run c.requires.awaits.0 c.args.bits.now c.requires.awaits.1).left

pub take_fields-requires-in-Strict-clause-left : goal.take_fields-requires-in-Strict-clause-left
take_fields-requires-in-Strict-clause-left g c = sym (awaited c.args.self.now.run c.requires.awaits.0 c.args.bits.now c.requires.awaits.1).left

pub returns-in-Usual-clause-goes : goal.returns-in-Usual-clause-goes
returns-in-Usual-clause-goes g c =
    rw (c.in-Usual.is, c.take_fields.ensures.around) (IfOk-weaker c.take_fields.result _ _ (λ fields takes o next. takes.passes c.args.self.now.run.draft.around.ended c.args.self.now.run.draft.around.segments o (ap bare_next next)) c.take_fields.ensures.takes)

pub returns-in-Strict-clause-goes : goal.returns-in-Strict-clause-goes
returns-in-Strict-clause-goes g c =
    rw (c.in-Strict.is, c.take_fields-in-Strict.ensures.around) (IfOk-weaker c.take_fields-in-Strict.result _ _ (λ fields takes o next. takes.passes c.args.self.now.run.draft.around.ended c.args.self.now.run.draft.around.segments o (ap bare_next next)) c.take_fields-in-Strict.ensures.takes)

pub returns-in-Usual-clause-awaits : goal.returns-in-Usual-clause-awaits
returns-in-Usual-clause-awaits g c = let t = c.take_fields in on_ok_weaker t.result (λ h around was.
    awaits t.new.run around t.new.bits (record { none = h.0; left = sym h.1; around_is = ap (λ o. lefts o.segments) t.ensures.around ∙ (awaited c.args.self.now.run around c.args.bits.now was).around_is }))
    (both _ _ t.result t.ensures.none t.ensures.left)

pub returns-in-Strict-clause-awaits : goal.returns-in-Strict-clause-awaits
returns-in-Strict-clause-awaits g c = let t = c.take_fields-in-Strict in on_ok_weaker t.result (λ h around was.
    awaits t.new.run around t.new.bits (record { none = h.0; left = sym h.1; around_is = ap (λ o. lefts o.segments) t.ensures.around ∙ (awaited c.args.self.now.run around c.args.bits.now was).around_is }))
    (both _ _ t.result t.ensures.none t.ensures.left)
