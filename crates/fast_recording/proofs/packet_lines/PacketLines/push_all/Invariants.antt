use Rattle.std.proofs.Common.{◌≡◌, length}
use Rattle.fast_recording.proofs.Labels.{IsOnWay}
use Rattle.fast_recording.proofs.packet_lines.PacketLines.push_all.Given as goal

abbrev pub invariant-loop-rest : goal.invariant-loop-rest
invariant-loop-rest g l = record {
  on_way : IsOnWay l.fn.self l.self (g.W.ByteOutput.taken l.fn.writer) (g.W.ByteOutput.taken l.writer) l.bytes l.rest;
  errors : g.W.ByteOutput.errors l.writer ≡ g.W.ByteOutput.errors l.fn.writer;
  flushes : g.W.ByteOutput.flushes l.writer ≡ g.W.ByteOutput.flushes l.fn.writer;
}

abbrev pub decreases-loop-rest : goal.decreases-loop-rest
decreases-loop-rest g l = length l.rest
