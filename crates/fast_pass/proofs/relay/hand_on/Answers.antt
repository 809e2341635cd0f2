use Rattle.fast_pass.proofs.Common.{◌∷◌, ◌++◌, ◌∙◌, ℕ, List, [], length, append_assoc, append-nil, ap, refl, sym, subst, inl, inr, templates_in, mode_of, follows_behind, reached_with, Appends-nil, Appends-trans, handed_on, GoesOn, handing}
use Rattle.fast_pass.proofs.Relayings.{counts_more, taken_on}
use Rattle.fast_pass.proofs.relay.hand_on.Goals as goal

pub fronts-init : goal.fronts-init
fronts-init g c = record {
  still = record { fault = refl; same = record { set = refl; mode = refl; same_keys = refl }; fed = refl };
  errors = refl;
  flushes = refl;
  ended = λ e. absurd cc;
  fronts = (record { front = []; parts = refl; appended = Appends-nil _ }, record { written = Appends-nil _; size_is = refl; whole = refl; has = λ way b. rw (append-nil way.handed) b; relays = λ at turns left way r. rw (append-nil way.handed) r });
}

pub returns-in-Err-clause-hands : goal.returns-in-Err-clause-hands
returns-in-Err-clause-hands g c =
    let ready = c.finished-front.ensures in
    let part = c.in-Err.ensures.part in
    taken_on c.fronts.invariant.fronts.0 _ ready.front.0 ready.front.1 ready.bytes part.1

pub returns-in-Err-hand_on-clause-hands : goal.returns-in-Err-hand_on-clause-hands
returns-in-Err-hand_on-clause-hands g c =
    let ready = c.finished-front.ensures in
    let front = c.finished-front.result.now in
    taken_on c.fronts.invariant.fronts.0 _ ready.front.0 ready.front.1 ready.bytes (record { front = front; parts = sym (append-nil front); appended = c.in-Ok.ensures.written })

pub fronts-preserved : goal.fronts-preserved
fronts-preserved g c =
    let v = c.fronts.invariant in
    let t = v.fronts.0 in
    let old = c.fronts.machine in
    let new = c.hand_on.new.self in
    let h = c.in-Ok-hand_on.ensures in
    let R = g.O.Receiver in
    let O = g.O.Output in
    let ready = O.ready old.receiver in
    let rest = λ (xs : List ℕ). ap (λ (ys : List ℕ). xs ++ ys) h.rest ∙ sym (append_assoc xs ready (O.waiting new)) in
    let pushed = rw (c.finished-front.ensures.bytes) at c.in-Ok.ensures.written in
    record {
      still = record { fault = v.still.fault; same = record { set = v.still.same.set; mode = v.still.same.mode; same_keys = v.still.same.same_keys }; fed = v.still.fed };
      errors = c.in-Ok.ensures.failed ∙ v.errors;
      flushes = c.in-Ok.ensures.flushes ∙ v.flushes;
      ended = h.none;
      fronts = (
        record { front = t.front ++ ready; parts = t.parts ∙ rest t.front; appended = Appends-trans _ _ _ t.front ready t.appended pushed },
        record {
          written = Appends-trans _ _ _ t.front ready t.appended pushed;
          size_is = counts_more c.fronts.count _ _ t.front ready v.fronts.1.size_is (inl (ap (λ (xs : List ℕ). length xs) c.finished-front.ensures.bytes)) c.saturating_add-count.ensures;
          whole = t.parts ∙ rest t.front;
          has = λ way x.
              let b = v.fronts.1.has way x in
              let before = way.handed ++ t.front in
              rw (← append_assoc way.handed t.front ready) (
                b.0,
                elim b.1 [
                  | inl k ↦ inl (h.keeps _ before way.messages b.0 k)
                  | inr k ↦ inr (h.stands _ before way.messages b.0 k)
                ],
              );
          relays = λ at turns left way r.
              let b = v.fronts.1.relays at turns left way r in
              let before = way.handed ++ t.front in
              rw (← append_assoc way.handed t.front ready) (record {
                holds = reached_with at (GoesOn old (handing way t.front)) _ (mode_of old) (templates_in old.traversal.set.now) turns left way.input way.messages
                    (λ go. record {
                      unrefused = go.unrefused;
                      follows = record {
                        at = follows_behind R.has R.stands R.keeps old.traversal old.receiver (g.E.Entries.contents old.entries) (handed_on before ∷ way.messages) new (handed_on (before ++ ready) ∷ way.messages)
                            (λ o same has. h.has o before way.messages _ same has) (λ x e stands. h.stands x before way.messages e stands) (λ x e keeps. h.keeps x before way.messages e keeps) old.fault old.framing old.left old.held.items old.waiting way.input way.messages go.follows.at;
                        counts = go.follows.counts;
                      };
                    }) b.holds;
                made = subst (λ (bytes : List ℕ). O.makes (templates_in old.traversal.set.now) way.messages bytes) (rest before) b.made;
                has = (
                  b.has.0,
                  elim b.has.1 [
                    | inl k ↦ inl (h.keeps _ before way.messages b.has.0 k)
                    | inr k ↦ inr (h.stands _ before way.messages b.has.0 k)
                  ],
                );
                counts = b.counts;
              });
        },
      );
    }
