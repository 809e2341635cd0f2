use Rattle.std.proofs.Common.{refl, sym}
use Rattle.fast_c.proofs.Held.{keeps_reader}
use Rattle.fast_c.proofs.readers.keep_reader.Goals as goal

pub returns-in-Ok-keep : goal.returns-in-Ok-keep
returns-in-Ok-keep c =
    rw (← c.in-Some.ensures) (keeps_reader c.args.word c.args.most_bytes c.args.reader.now.value c.keep.new.self.value _ _ _ c.most_bytes_of.result c.in-Ok-new.made c.no_counts.result c.no_counts.ensures (sym c.in-Some-stream_mode_of.ensures) c.most_bytes_of.ensures c.in-Ok.ensures (c.in-Ok-keep.ensures.ok refl) c.in-Ok-new.ensures)
