use Rattle.fast_serve.proofs.Common.{inr, asked_by, inputs_by}
use Rattle.fast_serve.proofs.Opened.{performs_behind, same_input}
use Rattle.fast_serve.proofs.serve.perform_asked.Goals as goal

pub returns-clause-performed : goal.returns-clause-performed
returns-clause-performed g c =
    let S = g.S.Source in
    let loaded = c.in_ok-set.ensures in
    let asked = asked_by c.args.request in
    let old = inputs_by S.file S.input S.unopened S.failed c.args.source.now in
    let now = inputs_by S.file S.input S.unopened S.failed c.load.new.source in
    let new = inputs_by S.file S.input S.unopened S.failed c.perform_with-answer.new.source in
    inr (
      c.in_ok-set.set,
      loaded.ok,
      performs_behind asked c.in_ok-set.set old now new _ _ _ _ _ _ (same_input old now asked.templates asked.input loaded.files loaded.input c.requires.one_is_a_file) loaded.opened loaded.unfailed c.perform_with-answer.ensures.performed,
    )
