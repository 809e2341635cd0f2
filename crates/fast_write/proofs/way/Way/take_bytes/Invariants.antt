use Rattle.std.proofs.Common.{◌≡◌, ◌≤◌, ◌-◌, ◌++◌, ℕ, List, Option, length, take}
use Rattle.fast_write.specs.Ways.{GoesOn, IsSameWay, here}
use Rattle.fast_write.proofs.way.Way.take_bytes.Given as goal

abbrev pub invariant-loop-at : goal.invariant-loop-at
invariant-loop-at g l =
    let W = g.W.ByteOutput in
    record {
      place : l.at ≤ length l.bytes;
      same : IsSameWay (here l.fn.self) (here l.self);
      errors : W.errors l.writer ≡ W.errors l.fn.writer;
      flushes : W.flushes l.writer ≡ W.flushes l.fn.writer;
      goes : (before : Option (List ℕ)) (input : List ℕ) → GoesOn (here l.fn.self) before (W.taken l.fn.writer) input → GoesOn (here l.self) before (W.taken l.writer) (input ++ take l.at l.bytes);
    }

abbrev pub decreases-loop-at : goal.decreases-loop-at
decreases-loop-at g l = length l.bytes - l.at
