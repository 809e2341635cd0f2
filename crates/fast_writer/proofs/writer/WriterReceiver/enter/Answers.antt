use Rattle.fast_writer.proofs.Common.{ap, ◌∙◌, ◌++◌, ◌∷◌, [], after_bit}
use Rattle.fast_writer.proofs.Opened.{drafts_entered}
use Rattle.fast_writer.proofs.Awaiting.{awaited, inside}
use Rattle.fast_writer.proofs.writer.WriterReceiver.enter.Goals as goal

pub returns-clause-has : goal.returns-clause-has
returns-clause-has c = λ presence members is bits o d next first optional mapped h.
    rw (c.enter.ensures.ended, c.in_ok-enter.ensures.segments, c.in_ok-enter.ensures.inner, c.mark_at_once.ensures.around) (drafts_entered bits next first optional c.mark_at_once.ensures.marked c.mark_at_once.ensures.bytes mapped h)

pub returns-clause-awaits : goal.returns-clause-awaits
returns-clause-awaits c = λ around own b bits bit is was.
    let a = awaited c.args.self.now.run around b was in
    let k = c.mark_at_once.new.self in
    inside (record { draft = c.enter.new.self; from = k.from; place = k.place; passed = k.passed }) c.args.map.now c.args.self.now.run.draft.around.segments k.draft.inner around own (after_bit c.args.optional b) bits is
    (c.mark_at_once.ensures.marked.left ∙ ap (after_bit c.args.optional) a.left) a.around_is c.mark_at_once.ensures.none
    (c.in_ok-enter.ensures.segments ∙ ap (λ o. o.segments ++ k.draft.inner ∷ []) c.mark_at_once.ensures.around) c.in_ok-enter.ensures.inner
