use Rattle.fast_writer.proofs.Opened.{drafts_element}
use Rattle.fast_writer.proofs.Awaiting.{awaited, inside}
use Rattle.fast_writer.proofs.writer.WriterReceiver.enter_element.Goals as goal

pub returns-clause-has : goal.returns-clause-has
returns-clause-has c = λ s bits o d next numbered mapped some h. rw (c.enter.ensures.ended, c.in_ok-enter.ensures.segments, c.in_ok-enter.ensures.inner) (drafts_element bits next some mapped h)

pub returns-clause-awaits : goal.returns-clause-awaits
returns-clause-awaits c = λ around own b bits is was.
    let r = c.args.self.now.run in
    let a = awaited r around b was in
    inside (record { draft = c.enter.new.self; from = r.from; place = r.place; passed = r.passed }) c.args.map.now r.draft.around.segments r.draft.inner around own b bits is
    a.left a.around_is a.none c.in_ok-enter.ensures.segments c.in_ok-enter.ensures.inner
