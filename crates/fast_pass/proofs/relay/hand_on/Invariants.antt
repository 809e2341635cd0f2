use Rattle.fast_pass.proofs.Common.{◌≡◌, ◌+◌, [], false, cond, Taken, HandsOn, StandsStill}
use Rattle.fast_pass.proofs.relay.hand_on.Given as goal

abbrev pub invariant-fronts : goal.invariant-fronts
invariant-fronts g l =
    let O = g.O.Output in
    let old = l.fn.machine in
    let new = l.machine in
    let W = g.W.ByteOutput in
    record {
      still : StandsStill old new;
      errors : W.errors l.writer ≡ W.errors l.fn.writer;
      flushes : W.flushes l.writer ≡ W.flushes l.fn.writer;
      ended : l.more ≡ false → O.waiting new.receiver ≡ [];
      -- a front of what waited is handed on, and the rest still waits
      fronts : (t : Taken (W.taken l.fn.writer) (W.taken l.writer) (O.waiting old.receiver) (O.waiting new.receiver))
          × HandsOn O.waiting O.makes old new (W.taken l.fn.writer) (W.taken l.writer) t.front l.count;
    }

abbrev pub decreases-fronts : goal.decreases-fronts
decreases-fronts g l = cond l.more (g.O.Output.left l.machine.receiver + 1) 0
