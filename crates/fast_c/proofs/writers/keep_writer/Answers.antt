use Rattle.std.proofs.Common.{refl}
use Rattle.fast_c.proofs.Held.{keeps_writer}
use Rattle.fast_c.proofs.writers.keep_writer.Goals as goal

pub returns-in-Ok-keep : goal.returns-in-Ok-keep
returns-in-Ok-keep c =
    rw (← c.in-Some.ensures) (keeps_writer c.args.writer.now.value c.keep.new.self.value _ _ c.in-Ok-new.made c.no_counts.result c.no_counts.ensures c.in-Ok.ensures (c.in-Ok-keep.ensures.ok refl) c.in-Ok-new.ensures)
