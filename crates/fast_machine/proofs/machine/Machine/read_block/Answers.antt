use Rattle.fast_machine.proofs.Common.{[], inl, inr, append-nil, ◌≡◌, ◌<◌, ◌+◌, ◌-◌, ◌++◌, ℕ, List, None, Some, length, drop, sym, ap, refl, arith, take_rest, templates_in, Truncated, Blocks, Content, Stage, StandsAt, StopsBehind, framed_as}
use Rattle.fast_machine.proofs.Runs.{carried_of, none_begun}
use Rattle.fast_machine.proofs.Calls.{Finds, finds_fault, finds_waiting, follows_kept, follows_refused, reads_none}
use Rattle.fast_machine.proofs.Followings.{fault_refused, size_other, size_template}
use Rattle.fast_machine.proofs.BlockReads.{IsOpen, block_cuts, block_goes, empty_window}
use Rattle.fast_machine.proofs.machine.Machine.read_block.Given as given
use Rattle.fast_machine.proofs.machine.Machine.read_block.Goals as goal
use Rattle.fast_machine.proofs.machine.Machine.read_block.Goals.{In-Some, After-set_is_sound, After-within-room}

opened : (g : given.Over) (c : After-within-room g) → IsOpen c.level.result c.args.self.now.left c.in-Ok.opened.0 c.in-Ok.opened.1 c.within-room.result c.args.bytes.now
opened g c = record {
  same = c.in-Ok.ensures.same;
  goes = c.in-Ok.ensures.goes;
  some = c.in-Ok.ensures.some;
  place = c.in-Ok.ensures.place;
  few = c.within-room.ensures.left;
  least = c.within-room.ensures.least;
}

-- what the read found where it stopped, of bytes of which the block has more if more are wanted
halted : (g : given.Over) (c : In-Some g) → IsOpen c.level.result c.args.self.now.left c.in-Ok.opened.0 c.in-Ok.opened.1 c.within-room.result c.args.bytes.now
    → (c.in-Some.halt.cause ≡ Truncated → length (drop (c.in-Ok.opened.1 + c.read_if_any-progress.result.at) c.args.bytes.now) < c.in-Ok.opened.0 - c.read_if_any-progress.result.at)
    → Finds Blocks c.args.self.now c.args.bytes.now c.read_if_any-progress.result.messages c.saturating_add-self.result (Some c.in-Some.halt) (c.in-Ok.opened.0 - c.read_if_any-progress.result.at)
    c.read_if_any-progress.new.traversal c.read_if_any-progress.new.receiver (g.E.Entries.contents c.read_if_any-progress.new.entries) (drop (c.in-Ok.opened.1 + c.read_if_any-progress.result.at) c.args.bytes.now)
halted g c block more =
    let p = c.read_if_any-progress in
    block_goes c.args.self.now c.saturating_add-self.result c.level.ensures block p.ensures.leaves p.ensures.ended c.saturating_add-self.ensures (Some c.in-Some.halt) c.in-Some.is more

pub returns-in-None-clause-reads : goal.returns-in-None-clause-reads
returns-in-None-clause-reads g c = (
  λ before fed messages short counts stands.
      let p = c.read_if_any-progress in
      let block = opened g (goal.at.returns-in-None-clause-reads g c).After-within-room in
      let f = (block_goes c.args.self.now c.saturating_add-self.result c.level.ensures block p.ensures.leaves p.ensures.ended c.saturating_add-self.ensures None c.in-None.is tt).found before fed messages short counts stands in
      let none = (rw (c.in-None.is) at p.ensures.leaves.ends).none in (
        f.ended,
        f.counts,
        (λ h.
            let empty = none (omega (arith, f.number_is, ap (λ (xs : List Content). length xs) h)) in
            omega (arith, empty.0, empty_window c.in-Ok.opened.0 c.in-Ok.opened.1 c.within-room.result c.args.bytes.now block.some block.place c.within-room.ensures.count block.least empty.1)),
        f.leaves,
      ),
  tt,
)

-- the stream stops at the size
stopped : (g : given.Over) (c : After-set_is_sound g) (before : List Content) (fed : List ℕ) (messages : List Content) → StandsAt Blocks c.args.self.now before c.args.bytes.now fed messages
    → StopsBehind (framed_as Blocks c.args.self.now.traversal) (templates_in c.args.self.now.traversal.set.now) fed messages (record { template = c.args.self.now.traversal.template; stop = record { cause = c.in-Err.cause; instruction = 0; left = length c.args.bytes.now } })
stopped g c before fed messages stands =
    let old = c.args.self.now in
    let t = old.traversal in
    let some : t.stage ≡ Stage.Map → 0 < length c.args.bytes.now = λ at. elim c.requires.some [ inl some ↦ some | inr begun ↦ absurd (none_begun t.stage at begun) ] in
    size_template c.in-Err.cause c.in-Err.ensures.stops.0 (g.E.Entries.serves old.entries) (old.ready c.requires.nothing.fault) some (rw (c.level.ensures) at c.in-Err.ensures.stops.1) stands

pub returns-in-Truncated-clause-reads : goal.returns-in-Truncated-clause-reads
returns-in-Truncated-clause-reads g c = reads_none Blocks c.args.self.now c.args.bytes.now _ c.hold.ensures.answer (λ before fed messages short counts stands.
    let stops = stopped g (goal.at.returns-in-Truncated-clause-reads g c).After-set_is_sound before fed messages stands in (
      [],
      rw (append-nil before, append-nil messages) (c.hold.ensures.follows before fed messages (omega (arith, short)) counts (rw (c.requires.framing) stands) (rw (c.requires.framing) (inr (rw (c.in-Truncated.is) at stops)))),
    ))

pub returns-in_default-clause-reads : goal.returns-in_default-clause-reads
returns-in_default-clause-reads g c =
    let k = c.keep.ensures in (
      k.keeps.kept,
      rw (k.fault.cause_is) (λ e. c.in_default.not-Truncated e),
      λ before fed messages short counts stands.
          let old = c.args.self.now in
          let t = old.traversal in
          let stops = stopped g (goal.at.returns-in_default-clause-reads g c).After-set_is_sound before fed messages stands in
          let refused = fault_refused c.keep.result (framed_as Blocks t) (templates_in t.set.now) _ fed messages old.fed old.messages c.set_is_sound.ensures.typed counts (omega (arith, short)) (carried_of stands) stops
          (size_other c.in-Err.cause c.in-Err.ensures.stops.0 (rw (c.level.ensures) at c.in-Err.ensures.stops.1) stands) k.fault in
          ([], rw (append-nil before, append-nil messages) (follows_refused k.keeps before c.args.bytes.now fed messages counts (rw (c.requires.framing) stands) (rw (c.requires.framing) refused))),
    )

pub returns-then-self-rest-clause-reads : goal.returns-then-self-rest-clause-reads
returns-then-self-rest-clause-reads g c =
    let k = c.keep-then-self-rest.ensures in (
      k.keeps.kept,
      rw (k.fault.cause_is) (λ e. absurd cc),
      λ before fed messages short counts stands.
          let old = c.args.self.now in
          let p = c.read_if_any-progress in
          let u = p.new.traversal in
          let size = ap (λ (xs : List ℕ). length xs) (take_rest c.args.bytes.now (c.in-Ok.opened.1 + p.result.at)) in
          let f = block_cuts old c.saturating_add-self.result c.level.ensures (opened g (goal.at.returns-then-self-rest-clause-reads g c).After-within-room) p.ensures.leaves p.ensures.ended c.saturating_add-self.ensures
          c.in-Some.halt c.keep-then-self-rest.new.self.receiver old.framing c.requires.framing c.in-Some.is c.in-Truncated-cause.is (omega (arith, size, c.if-self-rest.true)) k.keeps.left before fed messages short counts stands in
          let all = messages ++ f.ended in
          let refused = fault_refused c.keep-then-self-rest.result (framed_as old.framing u) (templates_in u.set.now) _ fed all old.fed c.saturating_add-self.result p.ensures.leaves.sound.typed f.counts (omega (arith, short)) f.leaves.0 f.leaves.1 (λ e. absurd cc) (rw size at k.fault) in
          (f.ended, follows_kept k.keeps (before ++ f.ended) fed all f.counts refused f.leaves.2),
    )

pub returns-else-self-rest-clause-reads : goal.returns-else-self-rest-clause-reads
returns-else-self-rest-clause-reads g c =
    let at = goal.at.returns-else-self-rest-clause-reads g c in
    let rest = take_rest c.args.bytes.now (c.in-Ok.opened.1 + c.read_if_any-progress.result.at) in
    let size = ap (λ (xs : List ℕ). length xs) rest in
    finds_waiting _ (halted g at.In-Some (opened g at.After-within-room) (λ wanted. omega (arith, size, c.if-self-rest.false))) c.in-Truncated-cause.is rest (rw (c.requires.framing) at c.hold-in-Truncated-cause.ensures.follows) c.hold-in-Truncated-cause.ensures.answer

pub returns-in_default-cause-clause-reads : goal.returns-in_default-cause-clause-reads
returns-in_default-cause-clause-reads g c =
    let at = goal.at.returns-in_default-cause-clause-reads g c in
    finds_fault c.fault_of-fault.result _ (halted g at.In-Some (opened g at.After-within-room) (λ wanted. absurd (c.in_default-cause.not-Truncated wanted))) (λ e. c.in_default-cause.not-Truncated e) c.fault_of-fault.ensures.cause c.read_if_any-progress.ensures.leaves.sound
    (ap (λ (xs : List ℕ). length xs) (sym (take_rest c.args.bytes.now (c.in-Ok.opened.1 + c.read_if_any-progress.result.at)))) (rw (c.template-template.ensures) at c.fault_of-fault.ensures.refused) refl c.requires.nothing.held c.requires.framing refl refl refl refl
