use Rattle.fast_serve.proofs.Common.{List, ℕ, [], refl, sym, subst, append-nil, writer_by, text_of, SaysText}
use Rattle.fast_serve.proofs.serve.report_asked.Goals as goal

pub returns-else-request-clause-said : goal.returns-else-request-clause-said
returns-else-request-clause-said g c =
    let old = writer_by g.E.ByteOutput.taken g.E.ByteOutput.errors g.E.ByteOutput.flushes c.args.err.now in
    let new = writer_by g.E.ByteOutput.taken g.E.ByteOutput.errors g.E.ByteOutput.flushes c.report.new.err in
    ([], (λ e. refl), subst (λ (text : List ℕ). SaysText old new text) (sym (append-nil (text_of c.args.refusal.now))) c.report.ensures.said)
