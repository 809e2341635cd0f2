use Rattle.fast_writer.proofs.Common.{refl, in_sequence}
use Rattle.fast_writer.proofs.Opened.{drafts_ended}
use Rattle.fast_writer.proofs.Awaiting.{last_around, outside}
use Rattle.fast_writer.proofs.writer.WriterReceiver.leave_element.Goals as goal

pub returns-clause-has : goal.returns-clause-has
returns-clause-has c = λ o d ws w s next rest is inside_is h.
    let l = last_around c.args.self.now.run c.requires.awaits in
    let e = c.leave.ensures.left l.0 l.1 l.2 in
    rw (e.0) (drafts_ended {inside = in_sequence s} ws w next rest is inside_is l.2 e.1 h)

pub returns-clause-awaits : goal.returns-clause-awaits
returns-clause-awaits c =
    let r = c.args.self.now.run in
    outside r (record { draft = c.leave.new.self; from = r.from; place = r.place; passed = r.passed }) refl c.leave.ensures.left

pub returns-clause-keeps : goal.returns-clause-keeps
returns-clause-keeps c = λ set ms d h.
    let l = last_around c.args.self.now.run c.requires.awaits in
    let e = c.leave.ensures.left l.0 l.1 l.2 in
    rw (e.0) h
