use Rattle.fast_serve.proofs.Common.{Err, inl, inr, map, refl, asked_by}
use Rattle.fast_serve.proofs.Sayings.{said_alone, said_asked}
use Rattle.fast_serve.proofs.serve.serve.Goals as goal

pub returns-in-Err-clause-performed : goal.returns-in-Err-clause-performed
returns-in-Err-clause-performed g c =
    (Err c.of_line.result, _, c.report.ensures.status, inl (c.of_line.ensures.line, (refl, refl), refl), said_alone (map (λ w. w.now) c.args.words.now) _ _ c.of_line.result c.report.ensures.said)

pub returns-in-Ok-clause-performed : goal.returns-in-Ok-clause-performed
returns-in-Ok-clause-performed g c =
    let p = c.serve_request.ensures.performed in
    let asked = asked_by c.in-Ok.request in
    (p.0, p.1, p.2, inr (asked, c.in-Ok.ensures, p.3), said_asked (map (λ w. w.now) c.args.words.now) _ _ p.0 asked c.in-Ok.ensures p.4)
