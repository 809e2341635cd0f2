use Rattle.std.proofs.Common.{◌≡◌, ◌++◌, ℕ, List, ap, sym, ◌∙◌}
use Rattle.fast_encoder.proofs.Outputs.{sent_more, sent_part}
use Rattle.fast_encoder.proofs.output.MessageOutputStream.write_message.Goals as goal

pub returns-in-Err-clause-sends : goal.returns-in-Err-clause-sends
returns-in-Err-clause-sends g c = λ runs messages last sent h.
    let w = c.in_ok-encode.ensures.written in
    let part = c.in-Err.ensures.part in
    let bytes : c.encode.new.out.items ≡ w.0 = w.1 ∙ ap (λ (l : List ℕ). l ++ w.0) c.clear.ensures.items in
    let parts = sym bytes ∙ sym c.deref.ensures.value ∙ part.1.parts in
    (part.1.front, part.1.appended, rw (c.if-self.false) (part.0, g.E.Entries.contents c.encode.new.self.journal.entries, sent_part part.1.front part.0 parts (rw (c.if-self.false) at h) w.2))

pub returns-in-Ok-clause-sends : goal.returns-in-Ok-clause-sends
returns-in-Ok-clause-sends g c = λ runs messages last sent h.
    let w = c.in_ok-encode.ensures.written in
    let bytes : c.encode.new.out.items ≡ w.0 = w.1 ∙ ap (λ (l : List ℕ). l ++ w.0) c.clear.ensures.items in
    (w.0, rw (c.deref.ensures.value, bytes) at c.in-Ok.ensures.written, rw (c.if-self.false) (sent_more (rw (c.if-self.false) at h) w.2))
