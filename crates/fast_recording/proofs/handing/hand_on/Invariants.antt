use Rattle.std.proofs.Common.{◌≡◌, ◌+◌, ℕ, List, [], None, false, cond, length}
use Rattle.fast_io.specs.Counts.{counted_by}
use Rattle.fast_pass.specs.Relays.{HandsOn, StandsStill}
use Rattle.fast_recording.specs.PacketLines.{Writes}
use Rattle.fast_recording.proofs.handing.hand_on.Given as goal

abbrev pub invariant-fronts : goal.invariant-fronts
invariant-fronts g l =
    let O = g.O.Output in
    let old = l.fn.machine in
    let new = l.machine in
    let W = g.W.ByteOutput in
    record {
      still : StandsStill old new;
      errors : W.errors l.writer ≡ W.errors l.fn.writer;
      flushes : W.flushes l.writer ≡ W.flushes l.fn.writer;
      ended : l.more ≡ false → O.waiting new.receiver ≡ [];
      -- a front of what waited is handed on and written, and the rest still waits
      fronts : (front : List ℕ) × HandsOn O.waiting O.makes old new None None front (counted_by 0 (length front)) × Writes l.fn.lines l.lines (W.taken l.fn.writer) (W.taken l.writer) front;
    }

abbrev pub decreases-fronts : goal.decreases-fronts
decreases-fronts g l = cond l.more (g.O.Output.left l.machine.receiver + 1) 0
