use Rattle.std.proofs.Common.{◌++◌, ◌∷◌, ◌-◌, ◌+◌, ◌∙◌, ℕ, List, [], Some, length, length-drop, take, drop, take-append-drop, refl, arith, ap}
use Rattle.std.proofs.lemmas.List.{take_all, take_rest}
use Rattle.std.proofs.lemmas.Result.{err_from_is_err_and}
use Rattle.fast_walk.specs.Received.{handed_on}
use Rattle.fast_machine.proofs.Calls.{same_on}
use Rattle.fast_machine.proofs.Inputs.{of_bytes, refused_by_bytes}
use Rattle.fast_pass.proofs.Relayings.{behind, breaks, feeds_on, hands_on, reads_on, stays, stops}
use Rattle.fast_recording.proofs.Handings.{hands_at, would_hand}
use Rattle.fast_recording.proofs.Labels.{part_on, writes_none, writes_on}
use Rattle.fast_recording.proofs.handing.take_in.Goals as goal

pub messages-init : goal.messages-init
messages-init g c = record {
  place = omega arith;
  fault = c.requires.fault;
  fed = omega arith;
  same = record { set = refl; mode = refl; same_keys = refl };
  errors = refl;
  flushes = refl;
  goes = λ left later turns way r. ([], 0, stays (Some []) (record { holds = r.holds; made = r.made; has = r.has; counts = r.counts }) ((λ e. absurd cc), tt), writes_none _ _);
}

pub returns-in-Err-clause-takes : goal.returns-in-Err-clause-takes
returns-in-Err-clause-takes g c = λ left later turns way r.
    let l = c.messages in
    let bytes = c.args.bytes.now in
    let slice = take (length bytes - l.at) (drop l.at bytes) in
    let s = l.invariant.goes left later turns way r in
    let b = behind s.2 in
    let f = c.in-Err.ensures.follows l.invariant.fault (handed_on b.handed ∷ b.messages) b.input b.messages s.2.relays.holds.follows in
    let at = (rw (c.in-Err.ensures.refused) at f.1.at).0 in
    let more = c.in-Err.ensures.cause l.invariant.fault in
    let whole = ap (λ (xs : List ℕ). take l.at bytes ++ xs) (take_rest bytes l.at) ∙ take-append-drop l.at bytes in (
      s.0,
      s.1,
      reads_on s.2 slice f.0 (stops g.met.O.Output.made c.feed_messages.new.self turns later _ c.in-Err.fault (refused_by_bytes c.in-Err.fault _ _ turns later _ _ (λ e. absurd (more e)) at) f.1)
          ((λ e. absurd cc), of_bytes c.in-Err.fault _ _ _ at.2 more) whole,
      s.3,
    )

pub messages-preserved : goal.messages-preserved
messages-preserved g c =
    let l = c.messages in
    let v = l.invariant in
    let bytes = c.args.bytes.now in
    let fed = c.in-Ok.ensures in
    let h = c.in_ok-hand_on_many.ensures in
    record {
      place = let few = fed.taken.1 in let before = v.place in omega (arith, few, ap (λ (xs : List ℕ). length xs) (take_rest bytes l.at) ∙ length-drop l.at bytes, before);
      fault = h.still.fault ∙ fed.open;
      fed = let more = (fed.fed v.fault).0 in let before = v.fed in let same = h.still.fed in omega (arith, more, before, same);
      same = same_on (same_on v.same fed.same) h.still.same;
      errors = h.failed ∙ v.errors;
      flushes = h.flushes ∙ v.flushes;
      goes = λ left later turns way r.
          let s = v.goes left later turns way r in
          let on = feeds_on g.met.O.Output.made bytes l.at c.in-Ok.taken c.feed_messages.new.self s.2 fed.open (fed.follows v.fault) in
          (s.0 ++ h.hands.0, _, hands_on on (hands_at s.0 h.hands.1) refl, writes_on s.3 h.hands.2);
    }

pub returns-in_err-hand_on_many-clause-takes : goal.returns-in_err-hand_on_many-clause-takes
returns-in_err-hand_on_many-clause-takes g c =
    let p = err_from_is_err_and c.from_residual.result c.from_residual.ensures.1 in
    rw (p.1) (λ left later turns way r.
    let l = c.messages in
    let v = l.invariant in
    let bytes = c.args.bytes.now in
    let next = l.at + c.in-Ok.taken in
    let h = c.in_err-hand_on_many.ensures in
    let s = v.goes left later turns way r in
    let on = feeds_on g.met.O.Output.made bytes l.at c.in-Ok.taken c.feed_messages.new.self s.2 c.in-Ok.ensures.open (c.in-Ok.ensures.follows v.fault) in
    let waits = g.O.Output.waiting c.feed_messages.new.self.receiver in
    (s.0 ++ waits, rw (h.still.same.mode, h.still.same.set) (breaks on [] (drop next bytes) (would_hand s.0 waits) (take-append-drop next bytes)), part_on waits s.3 h.hands))

pub returns-clause-takes : goal.returns-clause-takes
returns-clause-takes g c = λ left later turns way r. rw (take_all c.messages.at c.args.bytes.now (omega (arith, c.messages-test.false))) at (c.messages.invariant.goes left later turns way r)
