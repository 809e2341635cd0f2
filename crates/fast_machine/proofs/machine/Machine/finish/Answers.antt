use Rattle.fast_machine.proofs.Common.{◌≡◌, [], ℕ, List, length, refl, ap, arith, nil_from_length, Stage}
use Rattle.fast_machine.proofs.Runs.{none_begun}
use Rattle.fast_machine.proofs.Calls.{follows_refused}
use Rattle.fast_machine.proofs.Followings.{carries_all, ends_inside}
use Rattle.fast_machine.proofs.machine.Machine.finish.Goals.{then-has_begun-via-then-has_begun, then-has_begun-via-else-has_begun+then-held-gt0, then-has_begun-via-else-has_begun+else-held-gt0+then-self-gt0}
use Rattle.fast_machine.proofs.machine.Machine.finish.Goals as goal

pub returns-then-has_begun-clause-truncated : goal.returns-then-has_begun-clause-truncated
returns-then-has_begun-clause-truncated g c = λ none.
    let old = c.args.self.now in
    let t = old.traversal in
    let r = c.keep.ensures in
    let inside : (t.stage ≡ Stage.Map) × (old.held.items ≡ []) × (old.left ≡ 0) → ⊥ = λ at. elim c.then-has_begun.branch [
      | then-has_begun-via-then-has_begun w ↦ none_begun t.stage at.0 (c.has_begun.ensures.yes w.if-has_begun.true)
      | then-has_begun-via-else-has_begun+then-held-gt0 w ↦ (let size = c.held-held.ensures.held in let empty = ap (λ (xs : List ℕ). length xs) at.1 in absurd (omega (arith, size, empty, w.if-held-gt0.true)))
      | then-has_begun-via-else-has_begun+else-held-gt0+then-self-gt0 w ↦ (let empty = at.2 in absurd (omega (arith, empty, w.if-self-gt0.true)))
    ] in (
      r.fault.cause_is,
      λ before fed messages follows.
          let at = rw (none) at follows.at in
          follows_refused r.keeps before old.held.items fed messages follows.counts at.0
          (ends_inside old.framing old.left _ c.keep.result t old.held.items old.waiting fed messages old.fed old.messages c.set_is_sound.ensures.typed follows.counts old.short at inside (rw (c.held-held.ensures.held) at r.fault)),
    )

pub returns-clause-ok : goal.returns-clause-ok
returns-clause-ok g c =
    let old = c.args.self.now in
    let none = nil_from_length old.held.items (omega (arith, c.held-held.ensures.held, c.if-held-gt0.false)) in (
      refl,
      λ before fed messages follows.
          let at = rw (c.in_default.is) at follows.at in
          carries_all old.framing old.left _ old.traversal fed messages (c.if-has_begun.ensures.no (λ e. absurd cc)) (omega (arith, c.if-self-gt0.false))
          (rw none at at.0),
    )
