use Rattle.fast_pass.proofs.Common.{◌≡◌, ◌≤◌, ◌+◌, ◌++◌, ◌∷◌, [], length, length-append, arith, append-nil, refl, ◌∙◌, err_from_is_err_and, Reached, IsCaused, told_by, caused_by_turns, causes_on, causes_weaker, more_read, refused_by_turns, handed_on, IsSameStream, same_on, Step, outset}
use Rattle.fast_pass.proofs.Relayings.{behind, breaks, breaks_on, broke_off, front_of, goes_farther, hands_on}
use Rattle.fast_pass.proofs.relay.relay.Given as given
use Rattle.fast_pass.proofs.relay.relay.Goals as goal
use Rattle.fast_pass.proofs.relay.relay.Goals.{After-saturating_add-written-in-reads}

-- one read more, and what is made of it handed on
stepped : (g : given.Over) (c : After-saturating_add-written-in-reads g) {Because : Type 0} → Because
    → Step g.O.Output.waiting g.O.Output.makes c.in_ok-came.came c.hand_on.new.machine c.args.turns (g.R.ByteInput.left c.read_on.new.reader) (g.W.ByteOutput.taken c.args.writer.now) (g.W.ByteOutput.taken c.hand_on.new.writer) c.saturating_add-written-in-reads.result outset
    (c.reads.invariant.relays.0 ++ c.in_ok-came.ensures.read.0) Because
stepped g c because =
    let s = c.reads.invariant.relays.2 in
    hands_on (goes_farther s (c.in_ok-came.ensures.read.2 c.args.turns (behind s) s.relays) c.saturating_add-written.ensures because) c.in_ok-hand_on.ensures.hands.1 c.saturating_add-written-in-reads.ensures

caused : (g : given.Over) (c : After-saturating_add-written-in-reads g) → IsCaused c.in_ok-came.came ⊥ (told_by g.R.ByteInput c.args.reader.now) (told_by g.R.ByteInput c.read_on.new.reader)
caused g c =
    let s = c.reads.invariant.relays.2 in
    causes_on Reached.Open Reached.Open c.in_ok-came.came (told_by g.R.ByteInput c.args.reader.now) (told_by g.R.ByteInput c.reads.reader) (told_by g.R.ByteInput c.read_on.new.reader) refl s.because.1 (c.in_ok-came.ensures.read.2 c.args.turns (behind s) s.relays).because.1

same : (g : given.Over) (c : After-saturating_add-written-in-reads g) → IsSameStream c.args.machine.now c.hand_on.new.machine
same g c = same_on c.reads.invariant.same (same_on c.in_ok-came.ensures.same c.in_ok-hand_on.ensures.still.same)

pub reads-preserved : goal.reads-preserved
reads-preserved g c =
    let at = (goal.at.reads-preserved g c).After-saturating_add-written-in-reads in
    let v = c.reads.invariant in
    let r = c.in_ok-came.ensures in
    let h = c.in_ok-hand_on.ensures in
    let i = v.relays in
    let size = length-append i.0 r.read.0 in
    let some = (r.read.2 c.args.turns (behind i.2) i.2.relays).because.0 c.in-Open.is in
    let because : (c.reads.reads + 1 ≤ length (i.0 ++ r.read.0)) × IsCaused Reached.Open ⊥ (told_by g.R.ByteInput c.args.reader.now) (told_by g.R.ByteInput c.read_on.new.reader) = (omega (arith, some, size), rw (c.in-Open.is) at (caused g at)) in
    record {
      few = omega arith;
      empty = h.empty;
      same = same g at;
      errors = h.failed ∙ r.failed ∙ v.errors;
      flushes = h.flushes ∙ r.flushes ∙ v.flushes;
      relays = (i.0 ++ r.read.0, more_read _ _ _ c.reads.reads i.0 r.read.0 i.1 r.read.1, rw (c.in-Open.is) at (stepped g at because));
    }

pub returns-in_err-came-clause-answer : goal.returns-in_err-came-clause-answer
returns-in_err-came-clause-answer g c =
    let p = err_from_is_err_and c.from_residual.result c.from_residual.ensures.1 in
    let r = c.in_err-came.ensures in
    let i = c.reads.invariant.relays in
    let all = same_on c.reads.invariant.same r.same in
    rw (p.1, ← all.mode, ← all.set)
    (broke_off c.args.turns c.read_on.new.machine p.0 (c.reads.reads + 1) (more_read _ _ _ c.reads.reads i.0 r.read.0 i.1 r.read.1) (omega arith) (front_of (breaks_on i.2 (r.read.2 c.args.turns (behind i.2) i.2.relays))))

pub returns-in_err-hand_on-clause-answer : goal.returns-in_err-hand_on-clause-answer
returns-in_err-hand_on-clause-answer g c =
    let p = err_from_is_err_and c.from_residual-in_err-hand_on.result c.from_residual-in_err-hand_on.ensures.1 in
    let r = c.in_ok-came.ensures in
    let h = c.in_err-hand_on.ensures in
    let i = c.reads.invariant.relays in
    let s = goes_farther i.2 (r.read.2 c.args.turns (behind i.2) i.2.relays) c.saturating_add-written.ensures (tt {0}) in
    let all = same_on c.reads.invariant.same r.same in
    rw (p.1, ← all.mode, ← all.set)
    (broke_off c.args.turns c.hand_on.new.machine p.0 (c.reads.reads + 1) (more_read _ _ _ c.reads.reads i.0 r.read.0 i.1 r.read.1) (omega arith) (front_of (breaks s h.hands.0 [] h.hands.1 (append-nil (i.0 ++ r.read.0)))))

pub returns-in-End-clause-answer : goal.returns-in-End-clause-answer
returns-in-End-clause-answer g c =
    let at = (goal.at.returns-in-End-clause-answer g c).After-saturating_add-written-in-reads in
    let r = c.in_ok-came.ensures in
    let i = c.reads.invariant.relays in
    let s = rw (c.in-End.is) at (stepped g at (caused g at)) in
    let k = s.relays.counts refl in
    let all = same g at in (
      c.reads.reads + 1,
      i.0 ++ r.read.0,
      more_read _ _ _ c.reads.reads i.0 r.read.0 i.1 r.read.1,
      omega arith,
      rw (← all.mode, ← all.set) (record {
        messages = s.ended;
        out = s.more;
        ends = s.relays.holds;
        made = rw (c.in_ok-hand_on.ensures.empty, append-nil s.more) at s.relays.made;
        written = s.written;
        counts = λ i. record { messages = k.count_is i; read = k.fed_is i; written = s.size_is i };
      }),
      s.because,
    )

pub returns-in-Fault-clause-answer : goal.returns-in-Fault-clause-answer
returns-in-Fault-clause-answer g c =
    let at = (goal.at.returns-in-Fault-clause-answer g c).After-saturating_add-written-in-reads in
    let r = c.in_ok-came.ensures in
    let i = c.reads.invariant.relays in
    let s = rw (c.in-Fault.is) at (stepped g at (caused g at)) in
    let all = same g at in (
      c.reads.reads + 1,
      i.0 ++ r.read.0,
      more_read _ _ _ c.reads.reads i.0 r.read.0 i.1 r.read.1,
      omega arith,
      rw (← all.mode, ← all.set) (record { messages = s.ended; out = s.more; refuses = s.relays.holds; made = rw (c.in_ok-hand_on.ensures.empty, append-nil s.more) at s.relays.made; written = s.written }),
      causes_weaker Reached.Open (Reached.Fault c.in-Fault.fault) (c.reads.reads + 1 ≡ c.args.turns) (told_by g.R.ByteInput c.args.reader.now) (told_by g.R.ByteInput c.read_on.new.reader) s.because,
    )

pub returns-clause-answer : goal.returns-clause-answer
returns-clause-answer g c =
    let l = c.reads in
    let v = l.invariant in
    let i = v.relays in
    let s = i.2 in
    let cut = c.cut.ensures in
    let place = cut.place s.relays.holds.unrefused (handed_on s.more ∷ s.ended) i.0 s.ended s.relays.holds.follows in
    let few = v.few in
    let all : l.reads ≡ c.args.turns = omega (arith, few, c.reads-test.false) in (
      l.reads,
      i.0,
      i.1,
      few,
      rw (← v.same.mode, ← v.same.set) (record { messages = s.ended; out = s.more; refuses = refused_by_turns c.cut.result _ _ c.args.turns _ i.0 s.ended cut.cause place (omega (arith, all)); made = rw (v.empty, append-nil s.more) at s.relays.made; written = s.written }),
      caused_by_turns c.cut.result (l.reads ≡ c.args.turns) (told_by g.R.ByteInput c.args.reader.now) (told_by g.R.ByteInput l.reader) cut.cause s.because.1.0 s.because.1.1 all,
    )
