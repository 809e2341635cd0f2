use Rattle.fast_serve.proofs.Common.{List, ℕ, ◌∙◌, subst, writer_by, SaysText}
use Rattle.fast_serve.proofs.Sayings.{handed_text}
use Rattle.fast_serve.proofs.serve.report.Goals as goal

pub returns-clause-said : goal.returns-clause-said
returns-clause-said g c =
    let old = writer_by g.E.ByteOutput.taken g.E.ByteOutput.errors g.E.ByteOutput.flushes c.args.err.now in
    let new = writer_by g.E.ByteOutput.taken g.E.ByteOutput.errors g.E.ByteOutput.flushes c.write_all.new.writer in
    let said = c.write_all.ensures in
    subst (λ (text : List ℕ). SaysText old new text) (c.as_bytes.ensures.value ∙ c.text.ensures)
    (handed_text old new c.as_bytes.result.now c.write_all.result said.written said.part said.failed said.flushed)
