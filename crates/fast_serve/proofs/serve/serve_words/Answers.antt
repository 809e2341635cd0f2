use Rattle.fast_serve.proofs.Common.{refl, inl, inr, Err, Memory}
use Rattle.fast_serve.proofs.Sayings.{said_alone}
use Rattle.fast_serve.proofs.serve.serve_words.Goals as goal

pub returns-clause-performed : goal.returns-clause-performed
returns-clause-performed g c = rw c.in-Ok.is (Err Memory, _, c.report-in-Err-texts_of.ensures.status, inl (refl, refl, refl, refl), said_alone _ _ _ Memory c.report-in-Err-texts_of.ensures.said)

pub returns-in-Ok-texts_of-clause-performed : goal.returns-in-Ok-texts_of-clause-performed
returns-in-Ok-texts_of-clause-performed g c =
    let same = rw (← c.deref-in-Ok-texts_of.ensures.value, c.deref.ensures.value) at c.in-Ok-texts_of.ensures in
    let p = rw same at c.serve.ensures.performed in
    rw c.in-Ok.is (p.0, p.1, p.2, inr p.3, p.4)
