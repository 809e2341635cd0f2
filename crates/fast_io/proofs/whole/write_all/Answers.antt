use Rattle.std.proofs.Common.{ap, ◌∙◌}
use Rattle.fast_io.specs.Counts.{counted}
use Rattle.fast_io.proofs.Outputs.{kept_whole}
use Rattle.fast_io.proofs.whole.write_all.Goals as goal

pub returns-in-Err-flush-clause-part : goal.returns-in-Err-flush-clause-part
returns-in-Err-flush-clause-part g c = kept_whole _ _ _ _ c.in-Ok.ensures.written c.in-Err-flush.ensures.bytes

pub returns-in-Ok-flush-clause-flushed : goal.returns-in-Ok-flush-clause-flushed
returns-in-Ok-flush-clause-flushed g c = c.in-Ok-flush.ensures.flush ∙ ap counted c.in-Ok.ensures.flushes
