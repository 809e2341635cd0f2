use Rattle.std.proofs.Common.{◌≡◌, ◌∙◌, Some, ap}
use Rattle.fast_kept.specs.declared.lent.Lent.{Lent}
use Rattle.fast_c.specs.Writing.{BeginsAnew}
use Rattle.fast_c.proofs.Held.{lent_writer}
use Rattle.fast_c.proofs.writers.begin_anew_lent.Goals as goal

pub returns-in-Some-Writer : goal.returns-in-Some-Writer
returns-in-Some-Writer c =
    let was : c.args.lent.now ≡ Some (Lent.Writer c.in-Some-Writer.writer) = c.in-Some-Writer.is ∙ ap Some c.in-Some-Writer.field-0-is in
    lent_writer (BeginsAnew) (Unit {0}) c.args.lent.now c.in-Some-Writer.writer c.reset.new.self tt was (record { set = c.reset.ensures.set; waiting = c.reset.ensures.waiting; written = c.reset.ensures.written })
