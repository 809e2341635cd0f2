use Rattle.fast_writer.proofs.Common.{refl, in_sequence, items_of, with_element}
use Rattle.fast_writer.proofs.Opened.{drafts_element, drafts_ended}
use Rattle.fast_writer.proofs.Awaiting.{last_around, onwards}
use Rattle.fast_writer.proofs.writer.WriterReceiver.next_element.Goals as goal

pub returns-clause-has : goal.returns-clause-has
returns-clause-has c = λ o d ws w s bits next rest is inside_is numbered mapped some h.
    let l = last_around c.args.self.now.run c.requires.awaits in
    let e = c.in_ok-go_on.ensures.gone l.0 l.1 l.2 in
    rw (e.2, e.3) (drafts_element {q = with_element s (items_of o.body.done)} bits refl some mapped (drafts_ended {inside = in_sequence s} ws w next rest is inside_is l.2 e.1 h))

pub returns-clause-awaits : goal.returns-clause-awaits
returns-clause-awaits c = λ around own b bits later is was.
    let r = c.args.self.now.run in
    onwards r (record { draft = c.go_on.new.self; from = r.from; place = r.place; passed = r.passed }) c.args.map.now around own b bits later refl c.in_ok-go_on.ensures.gone is was
