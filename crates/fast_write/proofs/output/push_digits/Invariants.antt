use Rattle.std.proofs.Common.{◌≡◌, ◌≤◌, ◌-◌, length, take}
use Rattle.std.specs.Io.KnownBytes.{Appends}
use Rattle.hex.specs.Hex.{encode_lower}
use Rattle.fast_write.proofs.output.push_digits.Given as goal

abbrev pub invariant-loop-at : goal.invariant-loop-at
invariant-loop-at g l =
    let W = g.W.ByteOutput in
    record {
      place : l.at ≤ length l.bytes;
      room : length l.digits ≡ 4096;
      written : Appends (W.taken l.fn.writer) (W.taken l.writer) (encode_lower (take l.at l.bytes));
      errors : W.errors l.writer ≡ W.errors l.fn.writer;
      flushes : W.flushes l.writer ≡ W.flushes l.fn.writer;
    }

abbrev pub decreases-loop-at : goal.decreases-loop-at
decreases-loop-at g l = length l.bytes - l.at
