use Rattle.std.proofs.Common.{◌++◌, ◌∙◌, ℕ, List, [], ◌∷◌, append_assoc, append-nil, ap, refl, sym, subst, inl, inr}
use Rattle.fast_template.specs.TemplateSets.{templates_in}
use Rattle.fast_walk.specs.Received.{handed_on}
use Rattle.fast_machine.specs.Following.{mode_of}
use Rattle.fast_machine.proofs.Followings.{follows_behind}
use Rattle.fast_machine.proofs.Inputs.{reached_with}
use Rattle.fast_pass.specs.Relays.{GoesOn, handing}
use Rattle.fast_recording.proofs.Handings.{front_fails}
use Rattle.fast_recording.proofs.Labels.{part_of_all, writes_none, writes_on}
use Rattle.fast_recording.proofs.handing.hand_on.Goals as goal

pub fronts-init : goal.fronts-init
fronts-init g c = record {
  still = record { fault = refl; same = record { set = refl; mode = refl; same_keys = refl }; fed = refl };
  errors = refl;
  flushes = refl;
  ended = λ e. absurd cc;
  fronts = (
    [],
    record { written = tt; size_is = refl; whole = refl; has = λ way b. rw (append-nil way.handed) b; relays = λ at turns left way r. rw (append-nil way.handed) r },
    writes_none _ _,
  );
}

pub returns-in-Err-clause-hands : goal.returns-in-Err-clause-hands
returns-in-Err-clause-hands g c =
    let ready = c.finished.ensures in
    let f = c.fronts.invariant.fronts in
    front_fails _ f.0 _ _ ready.front.0 _ f.1.whole ready.front.1 ready.bytes f.2 c.in-Err.ensures.part

pub returns-in-Err-hand_on-clause-hands : goal.returns-in-Err-hand_on-clause-hands
returns-in-Err-hand_on-clause-hands g c =
    let ready = c.finished.ensures in
    let f = c.fronts.invariant.fronts in
    front_fails _ f.0 _ _ ready.front.0 _ f.1.whole ready.front.1 ready.bytes f.2 (part_of_all c.in-Ok.ensures.writes)

pub fronts-preserved : goal.fronts-preserved
fronts-preserved g c =
    let v = c.fronts.invariant in
    let front = v.fronts.0 in
    let t = v.fronts.1 in
    let old = c.fronts.machine in
    let new = c.hand_on.new.self in
    let h = c.in-Ok-hand_on.ensures in
    let R = g.O.Receiver in
    let O = g.O.Output in
    let ready = O.ready old.receiver in
    let rest = λ (xs : List ℕ). ap (λ (ys : List ℕ). xs ++ ys) h.rest ∙ sym (append_assoc xs ready (O.waiting new)) in
    let pushed = rw (c.finished.ensures.bytes) at c.in-Ok.ensures.writes in
    record {
      still = record { fault = v.still.fault; same = record { set = v.still.same.set; mode = v.still.same.mode; same_keys = v.still.same.same_keys }; fed = v.still.fed };
      errors = c.in-Ok.ensures.failed ∙ v.errors;
      flushes = c.in-Ok.ensures.flushes ∙ v.flushes;
      ended = h.none;
      fronts = (
        front ++ ready,
        record {
          written = tt;
          size_is = refl;
          whole = t.whole ∙ rest front;
          has = λ way x.
              let b = t.has way x in
              let before = way.handed ++ front in
              rw (← append_assoc way.handed front ready) (
                b.0,
                elim b.1 [
                  | inl k ↦ inl (h.keeps _ before way.messages b.0 k)
                  | inr k ↦ inr (h.stands _ before way.messages b.0 k)
                ],
              );
          relays = λ at turns left way r.
              let b = t.relays at turns left way r in
              let before = way.handed ++ front in
              rw (← append_assoc way.handed front ready) (record {
                holds = reached_with at (GoesOn old (handing way front)) _ (mode_of old) (templates_in old.traversal.set.now) turns left way.input way.messages
                    (λ go. record {
                      unrefused = go.unrefused;
                      follows = record {
                        at = follows_behind R.has R.stands R.keeps old.traversal old.receiver (g.E.Entries.contents old.entries) (handed_on before ∷ way.messages) new (handed_on (before ++ ready) ∷ way.messages)
                            (λ o same has. h.has o before way.messages _ same has) (λ x e stands. h.stands x before way.messages e stands) (λ x e keeps. h.keeps x before way.messages e keeps) old.fault old.framing old.left old.held.items old.waiting way.input way.messages go.follows.at;
                        counts = go.follows.counts;
                      };
                    }) b.holds;
                made = subst (λ (bytes : List ℕ). O.makes (templates_in old.traversal.set.now) way.messages bytes) (rest before) b.made;
                has = (
                  b.has.0,
                  elim b.has.1 [
                    | inl k ↦ inl (h.keeps _ before way.messages b.has.0 k)
                    | inr k ↦ inr (h.stands _ before way.messages b.has.0 k)
                  ],
                );
                counts = b.counts;
              });
        },
        writes_on v.fronts.2 pushed,
      );
    }
