use Rattle.fast_pass.proofs.Common.{◌≡◌, ◌≤◌, ◌-◌, ℕ, List, [], length, IsCaused, Reads, told_by, Reached, IsSameStream, Step, outset}
use Rattle.fast_pass.proofs.relay.relay.Given as goal

abbrev pub invariant-reads : goal.invariant-reads
invariant-reads g l =
    let R = g.R.ByteInput in
    let W = g.W.ByteOutput in
    let O = g.O.Output in
    let a = told_by R l.fn.reader in
    let b = told_by R l.reader in
    record {
      few : l.reads ≤ l.turns;
      empty : O.waiting l.machine.receiver ≡ [];
      same : IsSameStream l.fn.machine l.machine;
      errors : W.errors l.writer ≡ W.errors l.fn.writer;
      flushes : W.flushes l.writer ≡ W.flushes l.fn.writer;
      relays : (input : List ℕ) × Reads a b l.reads input
          × Step O.waiting O.makes Reached.Open l.machine l.turns (R.left l.reader) (W.taken l.fn.writer) (W.taken l.writer) l.written outset input ((l.reads ≤ length input) × IsCaused Reached.Open ⊥ a b);
    }

abbrev pub decreases-reads : goal.decreases-reads
decreases-reads g l = l.turns - l.reads
