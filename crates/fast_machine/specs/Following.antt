-- How a decoder stands to the bytes fed since the reset and to the messages pushed since.
use Rattle.std.specs.Prelude.{◌≡◌, ◌≢◌, ◌⊎◌, ℕ, ◌+◌, List, [], length, Option, Some, None, Result, Ok, Err}
use Rattle.fast_machine.specs.Prelude.{Framing, Mode, Resolved, templates_in, Dictionary, Truncated, Memory, Fault, Place, Ghosts, Stage, Traversal, Content, Carries, FirstFault, EndsBetween}
use Rattle.fast_walk.specs.declared.receiver.Receiver.{Ghosts as Receiving}
use Rattle.fast_machine.specs.declared.machine.Machine.{Machine}
use Rattle.fast_machine.specs.Standing.{Carried, ReadsOn, HasAll, Having, Standing, Stands, StopsBehind, framed_as}

-- the numbers of bytes fed and of messages pushed
pub record Counts (fed count : ℕ) (bytes : List ℕ) (messages : List Content) : Type 0 where
  pub fed_is : fed ≡ length bytes
  pub count_is : count ≡ length messages

-- No message and no block is open, and no byte is held; or the bytes held are what there is of a piece that is not whole.
abbrev pub Waits : Framing → ℕ → Traversal → List ℕ → ℕ → List ℕ → List Content → Type 0
Waits framing left t held waiting bytes messages =
    ((t.stage ≡ Stage.Map) × (held ≡ []) × (left ≡ 0))
    ⊎ StopsBehind (framed_as framing t) (templates_in t.set.now) bytes messages (record { template = t.template; stop = record { cause = Truncated; instruction = waiting; left = length held } })

-- A fault is the first of the bytes, behind the messages; or memory was refused behind these.
abbrev pub Refused : Fault → Mode → List Resolved → List ℕ → List Content → Type 0
Refused f mode set bytes messages =
    Carried mode set bytes messages × (f.place.message ≡ length messages + 1)
    × (f.cause ≢ Memory → FirstFault mode set bytes f.place f.cause)
    × (f.cause ≡ Memory → (f.place.offset ≡ 0) × (f.place.template ≡ 0) × (f.place.instruction ≡ 0))

-- A prefix of the bytes carries the messages, and the place is where Truncated would be put in them, or their end
-- between two messages, and between two blocks.
pub record IsCutAt (mode : Mode) (set : List Resolved) (bytes : List ℕ) (messages : List Content) (place : Place) : Type 0 where
  pub carried : Carried mode set bytes messages
  pub behind : place.message ≡ length messages + 1
  pub at : FirstFault mode set bytes place Truncated ⊎ EndsBetween mode set bytes place

abbrev pub FollowsAt : {R : Type 0} → Having R → Standing R → Standing R → Option Fault → Framing → ℕ → Traversal → R → Dictionary → List ℕ → ℕ → List Content → List ℕ → List Content → Type 0
FollowsAt has stands keeps None framing left t r d held waiting before bytes messages =
    Stands framing left (ReadsOn has stands keeps t r d before) t held bytes messages × Waits framing left t held waiting bytes messages
FollowsAt has stands keeps (Some f) framing left t r d held waiting before bytes messages =
    Refused f (framed_as framing t) (templates_in t.set.now) bytes messages × (held ≡ []) × HasAll stands framing t r before bytes messages

-- A machine has been fed these bytes since its reset, in which these messages ended; its receiver has them behind those
-- that it had.
pub record Follows {R E : Type 0} {receiver : Receiving R} {entries : Ghosts E} (m : Machine R E receiver entries) (before : List Content) (bytes : List ℕ) (messages : List Content) : Type 0 where
  pub at : FollowsAt receiver.has receiver.stands receiver.keeps m.fault m.framing m.left m.traversal m.receiver (entries.contents m.entries) m.held.items m.waiting before bytes messages
  pub counts : Counts m.fed m.messages bytes messages

-- How many of the bytes fed are held: none where they carry messages, else those from the place on where Truncated is
-- put in them.
abbrev pub IsHeld : Mode → List Resolved → List ℕ → ℕ → ℕ → Type 0
IsHeld mode set bytes fed held =
    (((messages : List Content) × Carries mode set bytes messages) × (held ≡ 0))
    ⊎ ((place : Place) × FirstFault mode set bytes place Truncated × (fed ≡ place.offset + held))

-- how a machine reads its stream
abbrev pub mode_of : {R E : Type 0} {receiver : Receiving R} {entries : Ghosts E} → Machine R E receiver entries → Mode
mode_of m = framed_as m.framing m.traversal

-- a call answers the fault that is kept after it, if there is one
abbrev pub Answers : Result (Unit {0}) Fault → Option Fault → Type 0
Answers (Ok x) fault = fault ≡ None
Answers (Err f) fault = fault ≡ Some f
