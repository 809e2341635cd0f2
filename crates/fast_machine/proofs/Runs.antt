-- How the reading of messages one behind the other stands after a piece and after a message.
use Rattle.fast_machine.proofs.Common.{◌≡◌, ◌≢◌, ◌<◌, ℕ, length, drop, take, take-append-drop, arith, List, [], ◌∷◌, ◌++◌, None, Some, Ok, refl, sym, ap, ◌∙◌, append_assoc, append-nil, ◌⊎◌, inl, inr, IsBytes, Level, Resolved, IsSound, templates_in, Dictionary, Stage, Traversal, Content, message_at, Reading, Ghosts, Truncated, IsSameSet, MessageRead, MessageStops, begun_at, begun_of, Halt, with_none, Forgets, Front, ReadsOn, ReadsRun, Having, Standing, Unfinished, message_found, from_mode_from, in_mode_from, carries_on, carries_one, outside, plainly, cases_lt}
use Rattle.fast_stream.specs.Streams.{CarriesFrom, MessageForm}
use Rattle.fast_walk.specs.declared.receiver.Receiver.{Ghosts as Receiving}

-- what is so of the rest, and how the messages stand, is said in other words
pub front_with : {S : Type 0} {A B : S → List ℕ → List Content → S → Type 0} {origin : S} {bytes : List ℕ} {messages : List Content} {Ends Later : S → List ℕ → Type 0}
    → Front A origin bytes messages Ends → ((xs : List ℕ) (s : S) → A origin xs messages s → B origin xs messages s) → ((s : S) (rest : List ℕ) → Ends s rest → Later s rest) → Front B origin bytes messages Later
front_with f carried ends = record { front = f.front; rest = f.rest; start = f.start; parts = f.parts; carried = carried f.front f.start f.carried; ends = ends f.start f.rest f.ends }

pub ends_with : {S : Type 0} {A : S → List ℕ → List Content → S → Type 0} {origin : S} {bytes : List ℕ} {messages : List Content} {Ends Later : S → List ℕ → Type 0}
    → Front A origin bytes messages Ends → ((s : S) (rest : List ℕ) → Ends s rest → Later s rest) → Front A origin bytes messages Later
ends_with f ends = front_with f (λ xs s h. h) ends

pub carried_of : {S : Type 0} {A : S → List ℕ → List Content → S → Type 0} {origin : S} {bytes : List ℕ} {messages : List Content} {Ends : S → List ℕ → Type 0} → Front A origin bytes messages Ends → Front A origin bytes messages (λ s rest. Unit {0})
carried_of f = ends_with f (λ s rest h. tt)

-- one message more
carries_more : (level : Level) (set : List Resolved) (ms : List Content) (m : Content) (a : Dictionary) (front x : List ℕ) (mid after : Dictionary)
    → CarriesFrom level set a front ms mid → MessageForm level set mid x m after → CarriesFrom level set a (front ++ x) (ms ++ m ∷ []) after
carries_more level set ms m a front x mid after h form =
    from_mode_from level set (ms ++ m ∷ []) (outside a) (outside after) (front ++ x)
    (carries_on (plainly level) set ms (m ∷ []) (outside a) (outside mid) (outside after) front x (in_mode_from level set ms a mid front h) (carries_one (plainly level) set (outside mid) (outside after) x m (form, refl)))

-- ---- the next message

module _ {G : Dictionary → (List ℕ → Reading) → Type 0} {t : Traversal} {unread : List ℕ} {start : Dictionary} {rest : List ℕ} (u : Unfinished G t unread start rest) where
  -- with no byte more
  pub now_reads : message_at t.level (templates_in t.set.now) start rest ≡ u.read unread
  now_reads = with_none (message_at t.level (templates_in t.set.now) start) u.read rest unread u.reads

  -- between two messages nothing is taken
  pub all_unread : t.stage ≡ Stage.Map → rest ≡ unread
  all_unread at = u.whole ∙ ap (λ (xs : List ℕ). xs ++ unread) (u.between at)

  some_rest : (t.stage ≡ Stage.Map → 0 < length unread) → 0 < length rest
  some_rest some = elim (cases_lt 0 (length rest)) [
    | inl more ↦ more
    | inr none ↦ u.some (λ at. let same = ap (λ (xs : List ℕ). length xs) (all_unread at) in let more = some at in absurd (omega (arith, none, same, more)))
  ]

-- between two messages
unfoldable pub unfinished_between : {R : Type 0} (has : Having R) (stands keeps : Standing R) (t : Traversal) (r : R) (d : Dictionary) (before : List Content) (unread : List ℕ) (start : Dictionary) (rest : List ℕ) → t.stage ≡ Stage.Map
    → stands r (templates_in t.set.now) before d → start ≡ d → rest ≡ unread → IsBytes rest → Unfinished (ReadsOn has stands keeps t r d before) t unread start rest
unfinished_between has stands keeps t r d before unread start rest at h is same fits = record {
  read = message_at t.level (templates_in t.set.now) d;
  goes = rw (at) (record { stands = h; start_is = is; reads = λ bytes. refl });
  fits = fits;
  reads = λ more. rw (is, same) refl;
  taken = [];
  whole = same;
  between = λ k. refl;
  some = λ other. absurd (other at);
}

pub none_begun : (s : Stage) → s ≡ Stage.Map → begun_at s ≡ 1 → ⊥
none_begun s e h = let zero = ap begun_at e in absurd (omega (arith, zero, h))

-- ---- a message

module _ {R E : Type 0} {receiver : Receiving R} {entries : Ghosts E} {t u : Traversal} {r q : R} {d e : E} {bytes : List ℕ} {n : ℕ} where
  -- it is read to its end
  pub message_ran : IsSound t.set.now → IsSameSet entries t d u e → MessageRead receiver entries t r d bytes 0 n u q e
      → ReadsRun receiver.has receiver.stands receiver.keeps t r (entries.contents d) bytes 1 None u q (entries.contents e) (drop n bytes)
  message_ran sound same read = λ before origin run messages s.
      let later = drop n bytes in
      let after = entries.contents e in
      let m = read.finishes before s.start s.ends.read s.ends.goes in
      let now = now_reads s.ends ∙ with_none s.ends.read (λ (rest : List ℕ). Ok (m.0, after, rest)) bytes later m.1 in
      let f = message_found t.level (templates_in t.set.now) sound.typed s.start s.rest m.0 after later s.ends.fits now in (
        m.0 ∷ [],
        refl,
        (
          record {
            front = s.front ++ f.front;
            rest = later;
            start = after;
            parts = s.parts ∙ ap (λ (y : List ℕ). s.front ++ y) f.parts ∙ sym (append_assoc s.front f.front later);
            carried = rw (same.set, same.level) (carries_more t.level (templates_in t.set.now) messages m.0 origin s.front f.front s.start after s.carried f.form);
            ends = unfinished_between receiver.has receiver.stands receiver.keeps u q after (before ++ m.0 ∷ []) later after later read.between (m.2 f.form.few) refl refl f.rest_bytes;
          },
          read.between,
        ),
      )

  -- it is not, and the receiver has forgotten it where no bytes are wanted
  pub message_halted : {s : R} {h : Halt} → (0 < length bytes) ⊎ (begun_of t ≡ 1) → IsSameSet entries t d u e → MessageStops receiver entries t r d bytes 0 (n, h) u q e
      → (h.cause ≡ Truncated → s ≡ q) → (h.cause ≢ Truncated → Forgets receiver.stands receiver.keeps q s)
      → ReadsRun receiver.has receiver.stands receiver.keeps t r (entries.contents d) bytes 0 (Some h) u s (entries.contents e) (drop n bytes)
  message_halted some same read waits left = λ before origin run messages b.
      let begins : t.stage ≡ Stage.Map → 0 < length bytes = λ at. elim some [ inl k ↦ k | inr k ↦ absurd (none_begun t.stage at k) ] in
      let carried : (xs : List ℕ) (s : Dictionary) → CarriesFrom t.level (templates_in t.set.now) origin xs messages s → CarriesFrom u.level (templates_in u.set.now) origin xs messages s = λ xs s h. rw (same.set, same.level) h in (
        [],
        refl,
        rw (append-nil before, append-nil messages) (
          front_with b carried (λ start rest x. tt),
          (λ other. front_with b carried (λ start rest x. (some_rest x begins, x.fits, rw (same.set, same.level) (now_reads x ∙ read.stops other before start x.read x.goes)))),
          (λ other.
              let w = read.waits other in
              front_with b carried (λ start rest x.
              let l = w.leaves before start x.read x.goes in
              record {
                read = l.0;
                goes = rw (waits other) l.1;
                fits = x.fits;
                reads = λ more. rw (same.set, same.level) (x.reads more ∙ l.2 more);
                taken = x.taken ++ take n bytes;
                whole = x.whole ∙ ap (λ (xs : List ℕ). x.taken ++ xs) (sym (take-append-drop n bytes)) ∙ sym (append_assoc x.taken (take n bytes) (drop n bytes));
                between = λ k. let at = w.between k in ap (λ (xs : List ℕ). xs ++ take n bytes) (x.between at.0) ∙ ap (λ (k : ℕ). take k bytes) at.1;
                some = λ began. some_rest x (λ old. let more = w.begun old began in let few = read.place.1 in omega (arith, more, few));
              })),
          (λ other. front_with b carried (λ start rest x. left other _ before start (read.keeps before start x.read x.goes))),
        ),
      )
