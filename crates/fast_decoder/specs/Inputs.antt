-- What a stream of messages answered, of what its reader gave.
use Rattle.std.specs.Prelude.{◌≡◌, ◌≤◌, ℕ, ◌+◌, List, [], ◌∷◌, ◌++◌, length, map, reverse, Option, Some, None, Result, Ok, Err}
use Rattle.fast_template.specs.Resolved.{Resolved}
use Rattle.fast_template.specs.TemplateSets.{templates_in}
use Rattle.fast_stream.specs.declared.fault.Fault.{Fault}
use Rattle.fast_stream.specs.declared.mode.Mode.{Mode}
use Rattle.fast_stream.specs.declared.message.Message.{Message}
use Rattle.fast_machine.specs.declared.reached.Reached.{Reached}
use Rattle.fast_dictionary.specs.declared.entries.Entries.{Ghosts}
use Rattle.fast_decoder.specs.declared.decoder.Decoder.{Decoder}
use Rattle.fast_stream.specs.Nodes.{Content, content_of}
use Rattle.fast_machine.specs.Standing.{Carried}
use Rattle.fast_machine.specs.Following.{Follows as HasFed, mode_of}
use Rattle.fast_machine.specs.Inputs.{Refuses, EndsWith, HasReached}

-- a decoder with no fault follows these bytes, fed since its reset, and these messages, pushed since
pub record Follows {E : Type 0} {ghosts : Ghosts E} (d : Decoder E ghosts) (bytes : List ℕ) (messages : List Content) : Type 0 where
  pub goes_on : d.machine.fault ≡ None
  pub follows : HasFed d.machine [] bytes messages

-- the messages that wait, the next one last
abbrev pub waiting_in : List Message → List Content
waiting_in waiting = map content_of (reverse waiting)

-- A stream that has read these bytes since the reset, has answered these messages, and others wait; each read gave a
-- byte while it was open.
abbrev pub Stands : {E : Type 0} {ghosts : Ghosts E} → Reached → Decoder E ghosts → List Message → ℕ → ℕ → Option (List ℕ) → List ℕ → List Content → Type 0
Stands at decoder waiting turns reads left bytes answered =
    HasReached at (Follows decoder bytes (answered ++ waiting_in waiting) × (reads ≤ length bytes)) (mode_of decoder.machine) (templates_in decoder.machine.traversal.set.now) turns left bytes (answered ++ waiting_in waiting)

-- the message that is answered, if there is one
abbrev pub answered_in : Result (Option Message) Fault → List Content
answered_in (Ok (Some m)) = content_of m ∷ []
answered_in (Ok None) = []
answered_in (Err f) = []

-- What an answer says of the bytes read and of the messages answered since the reset, its own included: a prefix of
-- the bytes carries them; with none, all the bytes do and the reader has ended; with a fault, they are those before it.
abbrev pub Tells : Result (Option Message) Fault → Mode → List Resolved → ℕ → Option (List ℕ) → List ℕ → List Content → Type 0
Tells (Ok (Some m)) mode set turns left bytes answered = Carried mode set bytes answered
Tells (Ok None) mode set turns left bytes answered = EndsWith mode set left bytes answered
Tells (Err f) mode set turns left bytes answered = Refuses mode set turns left bytes answered f

-- What is answered, where no message waits, once the stream has ended or met a fault: that, again and again.
abbrev pub Repeats : Reached → Result (Option Message) Fault → Type 0
Repeats Reached.Open r = Unit {0}
Repeats Reached.End r = r ≡ Ok None
Repeats (Reached.Fault f) r = r ≡ Err f
