use Rattle.fast_show.proofs.Common.{◌++◌, ap, ap₂, sym, ◌∙◌, templates_in, written_of, ending}
use Rattle.fast_show.proofs.Writing.{has_finished}
use Rattle.fast_show.proofs.writer.LineWriterReceiver.finish.Goals as goal

pub returns-clause-stands : goal.returns-clause-stands
returns-clause-stands g c = λ o d next rest none known few has.
    let form = g.S.Escape.form in
    let before = rw (c.in_ok-tell_rest.ensures.none) at c.tell_rest.ensures.same in
    let ended = c.in_ok-end.ensures ∙ ap (λ l. written_of form l ++ ending form) c.tell_rest.ensures.line in
    let appended = c.in_ok-append_line.ensures.appended ∙ ap₂ (λ a b. a ++ b) before ended in
    (has_finished next rest none known appended has, has.before.1 ∙ ap (λ s. templates_in s.now) (sym (c.append_line.ensures.set ∙ c.tell_rest.ensures.set)))
