use Rattle.std.proofs.Common.{◌≡◌, ◌≤◌, ◌-◌, ℕ, List, [], Option, length}
use Rattle.fast_machine.specs.Inputs.{Reads, told_by}
use Rattle.fast_write.specs.Ways.{GoesOn, IsSameWay, here}
use Rattle.fast_write.proofs.write.take_all.Given as goal

abbrev pub invariant-loop-reads : goal.invariant-loop-reads
invariant-loop-reads g l =
    let R = g.R.ByteInput in
    let W = g.W.ByteOutput in
    record {
      few : l.reads ≤ l.turns;
      room : length l.chunk ≡ 4096;
      same : IsSameWay (here l.fn.way) (here l.way);
      errors : W.errors l.writer ≡ W.errors l.fn.writer;
      flushes : W.flushes l.writer ≡ W.flushes l.fn.writer;
      no_end : R.ends l.reader ≡ R.ends l.fn.reader;
      no_error : R.errors l.reader ≡ R.errors l.fn.reader;
      goes : (before : Option (List ℕ)) → GoesOn (here l.fn.way) before (W.taken l.fn.writer) [] → (input : List ℕ) × Reads (told_by R l.fn.reader) (told_by R l.reader) l.reads input × GoesOn (here l.way) before (W.taken l.writer) input;
    }

abbrev pub decreases-loop-reads : goal.decreases-loop-reads
decreases-loop-reads g l = l.turns - l.reads
