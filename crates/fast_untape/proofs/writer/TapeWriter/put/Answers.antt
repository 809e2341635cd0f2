use Rattle.std.proofs.lemmas.Result.{err_from_is_err_and}
use Rattle.fast_template.specs.TemplateSets.{templates_in}
use Rattle.fast_stream.specs.Nodes.{content_of}
use Rattle.fast_untape.proofs.Messages.{early_put, read_refused, written_more}
use Rattle.fast_untape.proofs.writer.TapeWriter.put.Goals as goal

pub returns-in_err-message-clause-refused : goal.returns-in_err-message-clause-refused
returns-in_err-message-clause-refused g c =
    let p = err_from_is_err_and c.from_residual.result c.from_residual.ensures.1 in
    rw (p.1, p.2) (early_put (templates_in c.args.self.now.set.now) (g.E.Entries.contents c.args.self.now.encoder.journal.entries) c.args.bytes.now c.args.nodes.now c.in_err-message.field-0.0 c.in_err-message.ensures)

pub returns-in-Err-clause-refused : goal.returns-in-Err-clause-refused
returns-in-Err-clause-refused g c =
    read_refused _ c.args.bytes.now c.args.nodes.now c.in_ok-message.count (content_of c.in_ok-message.message) c.in-Err.fault c.in_ok-message.ensures (rw (c.args.self.now.same_set) at c.in-Err.ensures.refused)

pub returns-clause-put : goal.returns-clause-put
returns-clause-put g c =
    let old = c.args.self.now in
    let d = g.E.Entries.contents old.encoder.journal.entries in
    let e = g.E.Entries.contents c.encode.new.self.journal.entries in
    let m = content_of c.in_ok-message.message in
    let written = rw (old.same_set) at c.in-Ok.ensures.written in (
      m,
      c.in_ok-message.ensures,
      (rw (old.same_set) at c.in-Ok.ensures.allowed),
      λ messages taken has. written_more (templates_in old.set.now) messages m taken old.waiting.items c.encode.new.out.items written.0 d e written.1 written.2 has,
    )
