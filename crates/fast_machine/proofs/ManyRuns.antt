-- Messages that are read one behind the other, in one call.
use Rattle.std.specs.Prelude.{MatchOption, is_some}
use Rattle.fast_machine.proofs.Common.{◌≡◌, ◌≤◌, ◌<◌, ◌+◌, ◌⊎◌, ◌∙◌, ◌++◌, ℕ, [], List, false, Option, None, Some, refl, sym, ap, subst, arith, inl, inr, length, length-append, length-drop, drop, append_assoc, append-nil, Dictionary, Traversal, Halt, Truncated, Stage, Ghosts, Having, IsSameSet, LeadsOn, LeavesMessage, Progress, ReadsRun, Standing, begun_at, begun_of}
use Rattle.fast_walk.specs.Messages.{CanRead}
use Rattle.fast_walk.specs.Traversals.{ServesAll}
use Rattle.fast_walk.specs.declared.receiver.Receiver.{Ghosts as Receiving}
use Rattle.fast_machine.specs.Calls.{EndsBetween}

module _ {R : Type 0} (has : Having R) (stands keeps : Standing R) (t : Traversal) (r : R) (d : Dictionary) (bytes : List ℕ) where
  pub leads_none : LeadsOn has stands keeps t r d bytes 0 t r d bytes
  leads_none = λ before origin run messages s. ([], refl, rw (append-nil before, append-nil messages) s)

  module _ (u : Traversal) (q : R) (e : Dictionary) (rest : List ℕ) (n : ℕ) where
    -- where no fault was found
    run_leads : ReadsRun has stands keeps t r d bytes n None u q e rest → LeadsOn has stands keeps t r d bytes n u q e rest
    run_leads reads = λ before origin run messages s. let k = reads before origin run messages s in (k.0, k.1, k.2.0)

    module _ (leads : LeadsOn has stands keeps t r d bytes n u q e rest) (v : Traversal) (w : R) (f : Dictionary) (unread : List ℕ) (m : ℕ) where
      -- what is read behind the messages that have ended
      pub reads_behind : (halt : Option Halt) → ReadsRun has stands keeps u q e rest m halt v w f unread → ReadsRun has stands keeps t r d bytes (n + m) halt v w f unread
      reads_behind halt reads = λ before origin run messages s.
          let l = leads before origin run messages s in
          let k = reads (before ++ l.0) origin run (messages ++ l.0) l.2 in
          (l.0 ++ k.0, length-append l.0 k.0 ∙ ap (λ (c : ℕ). c + length k.0) l.1 ∙ ap (λ (c : ℕ). n + c) k.1, rw (← append_assoc before l.0 k.0, ← append_assoc messages l.0 k.0) k.2)

pub leads_behind : {R : Type 0} (has : Having R) (stands keeps : Standing R) (t : Traversal) (r : R) (d : Dictionary) (bytes : List ℕ) (u : Traversal) (q : R) (e : Dictionary) (rest : List ℕ) (n : ℕ) (leads : LeadsOn has stands keeps t r d bytes n u q e rest)
    (v : Traversal) (w : R) (f : Dictionary) (unread : List ℕ) (m : ℕ) → ReadsRun has stands keeps u q e rest m None v w f unread → LeadsOn has stands keeps t r d bytes (n + m) v w f unread
leads_behind has stands keeps t r d bytes u q e rest n leads v w f unread m reads =
    run_leads has stands keeps t r d bytes v w f unread (n + m) (reads_behind has stands keeps t r d bytes u q e rest n leads v w f unread m None reads)

pub begun_most : (s : Stage) → begun_at s ≤ 1
begun_most Stage.Map = omega arith
begun_most Stage.Identifier = omega arith
begun_most Stage.Body = omega arith

pub is_outside : (s : Stage) → s ≡ Stage.Map → begun_at s ≡ 0
is_outside s between = ap begun_at between

pub none_of : {A : Type 0} (o : Option A) → is_some o ≡ false → o ≡ None
none_of None h = refl
none_of (Some a) h = absurd cc

-- no more messages end than bytes are taken, but for the one that was open
pub some_taken : (s next : Stage) (rest taken messages at more : ℕ) → (0 < rest) ⊎ (begun_at s ≡ 1) → (begun_at s ≡ 0 → 0 < rest → 0 < taken) → more ≡ 1 → begun_at next ≡ 0 → messages + begun_at s ≤ at + 1
    → messages + more + begun_at next ≤ at + taken + 1
some_taken Stage.Map next rest taken messages at more some took one zero few =
    let rest_some : 0 < rest = elim some [ inl k ↦ k | inr begun ↦ absurd (omega (arith, begun)) ] in
    let more_taken = took refl rest_some in
    omega (arith, few, zero, one, more_taken)
some_taken Stage.Identifier next rest taken messages at more some took one zero few = omega (arith, few, zero, one)
some_taken Stage.Body next rest taken messages at more some took one zero few = omega (arith, few, zero, one)

-- what no call changes is served still
pub still_served : {E : Type 0} (entries : Ghosts E) (t u : Traversal) (d e : E) → IsSameSet entries t d u e → ServesAll (entries.serves d) t.set.now → ServesAll (entries.serves e) u.set.now
still_served entries t u d e same served = rw (same.same_keys) (subst (λ s. ServesAll (entries.serves d) s.now) (sym same.set) served)

-- behind what was read before
abbrev behind : ℕ → ℕ → Progress → Progress
behind at n p = record { at = at + p.at; messages = n + p.messages; halt = p.halt }

module _ {R E : Type 0} (receiver : Receiving R) (entries : Ghosts E) (t u v : Traversal) (w : R) (d e f : E) (bytes : List ℕ) (at n : ℕ) (p : Progress) where
  ends_behind : (h : Option Halt) → (0 < length (drop at bytes)) ⊎ (begun_of u ≡ 1) → (begun_of t ≡ 0 → begun_of u ≡ 0) → (h ≡ None → p.messages ≡ 1)
      → MatchOption h (EndsBetween receiver entries u v w f (drop at bytes) p) (λ h. h.cause ≡ Truncated → CanRead receiver entries v w f × (length (drop at bytes) ≤ p.at + 65554))
      → MatchOption h (EndsBetween receiver entries t v w f bytes (behind at n p)) (λ h. h.cause ≡ Truncated → CanRead receiver entries v w f × (length bytes ≤ at + p.at + 65554))
  ends_behind None some outside least ends = record {
    none = λ zero. let one = least refl in absurd (omega (arith, zero, one));
    took = λ t_outside more.
        let zero = outside t_outside in
        let rest : 0 < length (drop at bytes) = elim some [ inl k ↦ k | inr begun ↦ absurd (omega (arith, zero, begun)) ] in
        let taken = ends.took zero rest in
        omega (arith, taken);
    between = ends.between;
    can = ends.can;
  }
  ends_behind (Some h) some outside least ends = λ wanted.
      let k = ends wanted in
      let few = k.1 in
      let size = length-drop at bytes in
      (k.0, omega (arith, few, size))

  pub leaves_behind : IsSameSet entries t d u e → at ≤ length bytes → (0 < length (drop at bytes)) ⊎ (begun_of u ≡ 1) → (begun_of t ≡ 0 → begun_of u ≡ 0) → (p.halt ≡ None → p.messages ≡ 1)
      → LeavesMessage receiver entries u v w e f (drop at bytes) p → LeavesMessage receiver entries t v w d f bytes (behind at n p)
  leaves_behind same place some outside least leaves =
      let size = length-drop at bytes in
      let taken = leaves.place in
      record {
        place = omega (arith, taken, size, place);
        sound = leaves.sound;
        same = record { set = leaves.same.set ∙ same.set; level = leaves.same.level ∙ same.level; same_keys = leaves.same.same_keys ∙ same.same_keys };
        ends = ends_behind p.halt some outside least leaves.ends;
      }
