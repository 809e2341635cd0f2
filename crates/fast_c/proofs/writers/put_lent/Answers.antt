use Rattle.std.proofs.Common.{◌≡◌, ◌∙◌, Some, ap}
use Rattle.fast_kept.specs.declared.lent.Lent.{Lent}
use Rattle.fast_c.specs.Writing.{PutsAll}
use Rattle.fast_c.proofs.Held.{lent_writer}
use Rattle.fast_c.proofs.writers.put_lent.Goals as goal

pub returns-in-Some-Writer : goal.returns-in-Some-Writer
returns-in-Some-Writer c =
    let was : c.args.lent.now ≡ Some (Lent.Writer c.in-Some-Writer.writer) = c.in-Some-Writer.is ∙ ap Some c.in-Some-Writer.field-0-is in
    lent_writer (PutsAll c.args.nodes.now c.args.bytes.now) (Unit {0}) c.args.lent.now c.in-Some-Writer.writer c.put_all.new.self c.put_all.result was (record { more = c.put_all.ensures.put.0; begins = c.put_all.ensures.put.1; count = c.put_all.ensures.put.2; written = rw (c.put_all.ensures.set) c.put_all.ensures.put.3; all = c.put_all.ensures.all; refused = c.put_all.ensures.refused; set = c.put_all.ensures.set })
