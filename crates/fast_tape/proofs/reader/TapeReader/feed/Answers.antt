use Rattle.std.proofs.Common.{[], append-nil}
use Rattle.fast_tape.proofs.reader.TapeReader.feed.Goals as goal

pub returns-then-chunk-gt-STREAM_LIMIT-clause-reads : goal.returns-then-chunk-gt-STREAM_LIMIT-clause-reads
returns-then-chunk-gt-STREAM_LIMIT-clause-reads g c = λ none fed messages waiting reads. ([], rw (append-nil fed, append-nil messages, append-nil waiting) reads)
