-- A segment that is written from a message in memory.
use Rattle.fast_writer.specs.Written.{Segment}
use Rattle.fast_writer.specs.declared.segment.Segment.{Segment as LevelNow}

abbrev pub level_of : LevelNow → Segment
level_of l = record { bits = l.bits; own = l.own; bytes = l.bytes.items }
