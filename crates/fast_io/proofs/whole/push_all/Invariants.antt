use Rattle.std.proofs.Common.{length, ◌≡◌}
use Rattle.fast_io.specs.Traffic.{Taken}
use Rattle.fast_io.proofs.whole.push_all.Given as goal

abbrev pub invariant-loop-rest : goal.invariant-loop-rest
invariant-loop-rest g l = Taken (g.W.ByteOutput.taken l.fn.writer) (g.W.ByteOutput.taken l.writer) l.bytes l.rest × (g.W.ByteOutput.errors l.writer ≡ g.W.ByteOutput.errors l.fn.writer) × (g.W.ByteOutput.flushes l.writer ≡ g.W.ByteOutput.flushes l.fn.writer)

abbrev pub decreases-loop-rest : goal.decreases-loop-rest
decreases-loop-rest g l = length l.rest
