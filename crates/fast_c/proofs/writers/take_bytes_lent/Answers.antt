use Rattle.std.proofs.Common.{◌≡◌, ◌∙◌, Some, ap}
use Rattle.fast_kept.specs.declared.lent.Lent.{Lent}
use Rattle.fast_c.specs.Writing.{TakesBytes}
use Rattle.fast_c.proofs.Held.{lent_writer}
use Rattle.fast_c.proofs.writers.take_bytes_lent.Goals as goal

pub returns-in-Some-Writer : goal.returns-in-Some-Writer
returns-in-Some-Writer c =
    let was : c.args.lent.now ≡ Some (Lent.Writer c.in-Some-Writer.writer) = c.in-Some-Writer.is ∙ ap Some c.in-Some-Writer.field-0-is in
    lent_writer (TakesBytes c.args.room.now c.take.new.room) (c.take.new.room ≡ c.args.room.now) c.args.lent.now c.in-Some-Writer.writer c.take.new.self c.take.result was (record { fits = c.take.ensures.room; count = c.take.ensures.count; bytes = c.take.ensures.bytes; taken = rw (c.take.ensures.set) c.take.ensures.taken; short = c.take.ensures.short; set = c.take.ensures.set })
