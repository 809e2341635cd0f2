-- Laws of streams in plain framing: those of every mode, at this one.
use Rattle.fast_stream.proofs.Common.{◌≡◌, ◌≢◌, ℕ, List, ◌++◌, ◌⊎◌, inl, inr, AllByRecursion, Level, IsBytes, Resolved, HaveTypedParts, Cause, Truncated, Place, Content, Carries, IsNextReader, plainly}
use Rattle.fast_stream.specs.Faults.{FirstFault}
use Rattle.fast_stream.proofs.Framings.{in_mode, from_mode, fault_in_mode, fault_from_mode}
use Rattle.fast_stream.proofs.MessageReaders.{message_reader}
use Rattle.fast_stream.proofs.ModeReaders.{next_reader}
pub use Rattle.fast_stream.proofs.ModeReaders.{message_some}
use Rattle.fast_stream.proofs.ModeStreams as modes

module _ (level : Level) (set : List Resolved) (typed : AllByRecursion (λ t. HaveTypedParts t.members) set) where
  reader : IsNextReader (plainly level) set
  reader = next_reader (plainly level) set (message_reader level set typed)

  pub one_list : (stream : List ℕ) (messages others : List Content) → Carries level set stream messages → Carries level set stream others → messages ≡ others
  one_list stream messages others h g = modes.one_list (plainly level) set reader stream messages others (in_mode level set stream messages h) (in_mode level set stream others g)

  pub not_both : (stream : List ℕ) (messages : List Content) (place : Place) (cause : Cause) → Carries level set stream messages → FirstFault level set stream place cause → ⊥
  not_both stream messages place cause h f = modes.not_both (plainly level) set reader stream messages place cause (in_mode level set stream messages h) (fault_in_mode level set stream place cause f)

  pub one_fault : (stream : List ℕ) (place other : Place) (cause second : Cause) → FirstFault level set stream place cause → FirstFault level set stream other second → (place ≡ other) × (cause ≡ second)
  one_fault stream place other cause second f g =
      modes.one_fault (plainly level) set reader stream place other cause second (fault_in_mode level set stream place cause f) (fault_in_mode level set stream other second g)

  pub one_of_two : (stream : List ℕ) → IsBytes stream → ((messages : List Content) × Carries level set stream messages) ⊎ ((place : Place) × (cause : Cause) × FirstFault level set stream place cause)
  one_of_two stream fits = elim (modes.one_of_two (plainly level) set reader stream fits) [
    | inl h ↦ inl (h.0, from_mode level set stream h.0 h.1)
    | inr h ↦ inr (h.0, h.1, fault_from_mode level set stream h.0 h.1 h.2)
  ]

  pub fault_stays : (stream more : List ℕ) (place : Place) (cause : Cause) → IsBytes (stream ++ more) → FirstFault level set stream place cause → cause ≢ Truncated → FirstFault level set (stream ++ more) place cause
  fault_stays stream more place cause fits f other =
      fault_from_mode level set (stream ++ more) place cause (modes.fault_stays (plainly level) set reader stream more place cause fits (fault_in_mode level set stream place cause f) other)
