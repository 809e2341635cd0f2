use Rattle.fast_command.proofs.Showings.{shows}
use Rattle.fast_command.proofs.shown.show_by.Goals as goal

pub returns-clause-answer : goal.returns-clause-answer
returns-clause-answer g c =
    let a = c.pass_through.ensures.answer in
    (a.0, a.1, a.2, a.3, shows c.args.mode g.S.Escape.form c.args.set.now c.args.turns _ _ _ a.1 c.pass_through.result a.4, a.5)
