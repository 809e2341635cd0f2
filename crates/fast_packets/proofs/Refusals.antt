-- A recording is accepted or it has a first refusal.
use Rattle.std.proofs.Common.{Bool, false, List, ℕ, suc, [], ◌∷◌, ◌++◌, ◌+◌, ◌≡◌, ◌⊎◌, inl, inr, Some, None, length, map, refl, sym, ap, subst, ◌∙◌, arith}
use Rattle.fast_wire.specs.Reader.{IsBytes}
use Rattle.fast_wire.specs.declared.level.Level.{Level}
use Rattle.fast_template.specs.Resolved.{Resolved}
use Rattle.fast_stream.specs.declared.fault.Fault.{Fault}
use Rattle.fast_stream.specs.Nodes.{Content}
use Rattle.fast_stream.specs.Modes.{plainly}
use Rattle.fast_stream.specs.Readers.{IsNextReader}
use Rattle.fast_packets.specs.Recordings.{CarriesPackets}
use Rattle.fast_packets.specs.Outcomes.{FirstRefusal, Outcome, Outcomes, accepted, refusal_in, refused, sizeless}
use Rattle.fast_packets.proofs.Outcomes.{exist, only, outcomes_at}

module _ (level : Level) (set : List Resolved) where
  -- ---- packets that are accepted

  pub as_outcomes : (goes_on : Bool) (ps : List (List Content)) (at : ℕ) (bytes : List ℕ) → CarriesPackets level set bytes ps → Outcomes goes_on level set at bytes (map accepted ps)
  as_outcomes goes_on [] at bytes h = h
  as_outcomes goes_on (p ∷ ps) at bytes h = record {
    front = h.front;
    back = h.back;
    parts = h.parts;
    first = record { stream = h.between; packet = h.first.0; carried = h.first.1 };
    later = as_outcomes goes_on ps (at + length h.front) h.back h.second;
  }

  pub as_packets : (goes_on : Bool) (ps : List (List Content)) (at : ℕ) (bytes : List ℕ) → Outcomes goes_on level set at bytes (map accepted ps) → CarriesPackets level set bytes ps
  as_packets goes_on [] at bytes h = h
  as_packets goes_on (p ∷ ps) at bytes h = record {
    between = h.first.stream;
    front = h.front;
    back = h.back;
    parts = h.parts;
    first = (h.first.packet, h.first.carried);
    second = as_packets goes_on ps (at + length h.front) h.back h.later;
  }

  -- ---- up to the first refusal

  pub data Ends (os : List Outcome) : Type 0 where
    all : (ps : List (List Content)) → os ≡ map accepted ps → Ends os
    one : (ps : List (List Content)) (last : Outcome) (fault : Fault) → os ≡ map accepted ps ++ last ∷ [] → refusal_in last ≡ Some fault → Ends os

  behind_one : (p : List Content) (os : List Outcome) → Ends os → Ends (accepted p ∷ os)
  behind_one p os (all ps e) = all (p ∷ ps) (ap (λ (l : List Outcome). accepted p ∷ l) e)
  behind_one p os (one ps last fault e r) = one (p ∷ ps) last fault (ap (λ (l : List Outcome). accepted p ∷ l) e) r

  none_later : (o : Outcome) (later : List Outcome) → later ≡ [] → o ∷ later ≡ o ∷ []
  none_later o later e = ap (λ (l : List Outcome). o ∷ l) e

  pub ends : (os : List Outcome) (at : ℕ) (bytes : List ℕ) → Outcomes false level set at bytes os → Ends os
  ends [] at bytes h = all [] refl
  ends (accepted p ∷ later) at bytes h = behind_one p later (ends later (at + length h.front) h.back h.later)
  ends (refused ms place cause ∷ later) at bytes (inl h) = one [] (refused ms place cause) (record { cause = cause; place = place }) (none_later (refused ms place cause) later h.later) refl
  ends (refused ms place cause ∷ later) at bytes (inr h) = one [] (refused ms place cause) (record { cause = cause; place = place }) (none_later (refused ms place cause) later h.1) refl
  ends (sizeless place cause ∷ later) at bytes h = one [] (sizeless place cause) (record { cause = cause; place = place }) (none_later (sizeless place cause) later h.3) refl

  abbrev IsRefusedSomewhere : List ℕ → Type 0
  IsRefusedSomewhere bytes = (number : ℕ) × (fault : Fault) × FirstRefusal level set bytes number fault

  by_end : (os : List Outcome) (bytes : List ℕ) → Outcomes false level set 0 bytes os → Ends os → ((ps : List (List Content)) × CarriesPackets level set bytes ps) ⊎ IsRefusedSomewhere bytes
  by_end os bytes h (all ps e) = inl (ps, as_packets false ps 0 bytes (subst (λ (l : List Outcome). Outcomes false level set 0 bytes l) e h))
  by_end os bytes h (one ps last fault e r) = inr (
    length ps + 1,
    fault,
    record { packets = ps; last = last; outcomes = subst (λ (l : List Outcome). Outcomes false level set 0 bytes l) e h; refusal = r; number_is = refl },
  )

  -- ---- lists of outcomes with one refusal

  never : (p : List Content) (o : Outcome) (fault : Fault) → refusal_in o ≡ Some fault → accepted p ≡ o → ⊥
  never p o fault r e = let none : None ≡ Some fault = ap (λ (x : Outcome). refusal_in x) e ∙ r in absurd cc

  abbrev first_of : List Outcome → Outcome
  first_of (o ∷ os) = o
  first_of [] = accepted []

  abbrev rest_of : List Outcome → List Outcome
  rest_of (o ∷ os) = os
  rest_of [] = []

  no_refusal : (ps qs : List (List Content)) (last : Outcome) (fault : Fault) → refusal_in last ≡ Some fault → map accepted ps ≡ map accepted qs ++ last ∷ [] → ⊥
  no_refusal [] [] last fault r e = absurd cc
  no_refusal [] (q ∷ qs) last fault r e = absurd cc
  no_refusal (p ∷ ps) [] last fault r e = never p last fault r (ap first_of e)
  no_refusal (p ∷ ps) (q ∷ qs) last fault r e = no_refusal ps qs last fault r (ap rest_of e)

  same_refusal : (ps qs : List (List Content)) (last other : Outcome) (fault second : Fault) → refusal_in last ≡ Some fault → refusal_in other ≡ Some second → map accepted ps ++ last ∷ [] ≡ map accepted qs ++ other ∷ []
      → (length ps ≡ length qs) × (fault ≡ second)
  same_refusal [] [] last other fault second r s e =
      let same : Some fault ≡ Some second = sym r ∙ ap (λ (o : Outcome). refusal_in o) (ap first_of e) ∙ s in
      (refl, cc)
  same_refusal [] (q ∷ qs) last other fault second r s e = absurd (never q last fault r (sym (ap first_of e)))
  same_refusal (p ∷ ps) [] last other fault second r s e = absurd (never p other second s (ap first_of e))
  same_refusal (p ∷ ps) (q ∷ qs) last other fault second r s e =
      let later = same_refusal ps qs last other fault second r s (ap rest_of e) in
      (ap suc later.0, later.1)

  module _ (is : IsNextReader (plainly level) set) where
    pub one_list : (goes_on : Bool) (at : ℕ) (bytes : List ℕ) (os others : List Outcome) → Outcomes goes_on level set at bytes os → Outcomes goes_on level set at bytes others → os ≡ others
    one_list goes_on at bytes os others h k = only goes_on level set is os (suc (length bytes)) at bytes (omega arith) h ∙ sym (only goes_on level set is others (suc (length bytes)) at bytes (omega arith) k)

    pub some_list : (goes_on : Bool) (at : ℕ) (bytes : List ℕ) → IsBytes bytes → (os : List Outcome) × Outcomes goes_on level set at bytes os
    some_list goes_on at bytes fits = (outcomes_at goes_on level set (suc (length bytes)) at bytes, exist goes_on level set is (suc (length bytes)) at bytes (omega arith) fits)

    pub one_of_two : (bytes : List ℕ) → IsBytes bytes → ((ps : List (List Content)) × CarriesPackets level set bytes ps) ⊎ IsRefusedSomewhere bytes
    one_of_two bytes fits = let l = some_list false 0 bytes fits in by_end l.0 bytes l.1 (ends l.0 0 bytes l.1)

    pub not_both : (bytes : List ℕ) (ps : List (List Content)) (number : ℕ) (fault : Fault) → CarriesPackets level set bytes ps → FirstRefusal level set bytes number fault → ⊥
    not_both bytes ps number fault h f =
        no_refusal ps f.packets f.last fault f.refusal (one_list false 0 bytes (map accepted ps) (map accepted f.packets ++ f.last ∷ []) (as_outcomes false ps 0 bytes h) f.outcomes)

    pub one_refusal : (bytes : List ℕ) (number other : ℕ) (fault second : Fault) → FirstRefusal level set bytes number fault → FirstRefusal level set bytes other second → (number ≡ other) × (fault ≡ second)
    one_refusal bytes number other fault second f g =
        let same = same_refusal f.packets g.packets f.last g.last fault second f.refusal g.refusal
        (one_list false 0 bytes (map accepted f.packets ++ f.last ∷ []) (map accepted g.packets ++ g.last ∷ []) f.outcomes g.outcomes) in
        (f.number_is ∙ ap (λ (n : ℕ). n + 1) same.0 ∙ sym g.number_is, same.1)
