-- What the calls of a machine answer and leave.
use Rattle.std.specs.Prelude.{◌≡◌, ◌≢◌, ◌≤◌, ◌<◌, ◌^◌, ℕ, ◌+◌, List, [], ◌++◌, length, take, drop, Option, Some, None, Result, Ok, Err, IfSome, IfNone, MatchOption}
use Rattle.fast_machine.specs.Prelude.{Cause, Truncated, Memory, Fault, Framing, Mode, Content, IsSound, templates_in, Ghosts, Stage, Traversal, Halt, CanRead, IsSameSet, begun_of, stop_of}
use Rattle.fast_walk.specs.declared.receiver.Receiver.{Ghosts as Receiving}
use Rattle.fast_machine.specs.declared.machine.Machine.{Machine}
use Rattle.fast_machine.specs.declared.messages.Progress.{Progress}
use Rattle.fast_machine.specs.Runs.{Forgets}
use Rattle.fast_machine.specs.Standing.{Carried, ReadsOn, Stands, StopsBehind}
use Rattle.fast_machine.specs.Following.{Counts, Follows, Refused, Waits, mode_of}

-- no fault is kept and no byte is held, so that nothing is known of what follows it
pub record HoldsNothing {R E : Type 0} {receiver : Receiving R} {entries : Ghosts E} (m : Machine R E receiver entries) : Type 0 where
  pub fault : m.fault ≡ None
  pub held : m.held.items ≡ []
  pub unknown : m.end ≡ 0

-- of what was fed these bytes are unread, and the machine reads on from them
abbrev pub StandsAt : {R E : Type 0} {receiver : Receiving R} {entries : Ghosts E} → Framing → Machine R E receiver entries → List Content → List ℕ → List ℕ → List Content → Type 0
StandsAt {receiver = receiver} {entries = entries} framing m before unread fed messages =
    Stands framing m.left (ReadsOn receiver.has receiver.stands receiver.keeps m.traversal m.receiver (entries.contents m.entries) before) m.traversal unread fed messages

-- The machine stands there, the bytes and the messages are counted, and the stream stops at these bytes, at the instruction
-- with this number.
abbrev pub FollowsWaiting : {R E : Type 0} {receiver : Receiving R} {entries : Ghosts E} → Machine R E receiver entries → List ℕ → ℕ → Machine R E receiver entries → Type 0
FollowsWaiting old unread number new = (before : List Content) (fed : List ℕ) (messages : List Content)
    → length fed < 2 ^ 61 → Counts old.fed old.messages fed messages → StandsAt old.framing old before unread fed messages
    → Waits old.framing old.left old.traversal unread number fed messages → Follows new before fed messages

-- the same behind the messages that end in these bytes
abbrev pub FollowsBehind : {R E : Type 0} {receiver : Receiving R} {entries : Ghosts E} → Framing → Machine R E receiver entries → List ℕ → Machine R E receiver entries → Type 0
FollowsBehind framing old unread new = (before : List Content) (fed : List ℕ) (messages : List Content)
    → length fed ≤ 2 ^ 60 → Counts old.fed old.messages fed messages → StandsAt framing old before unread fed messages
    → (ended : List Content) × Follows new (before ++ ended) fed (messages ++ ended)

-- and where a message ends at a place in them, or they are all read: the bytes from there on are unread
abbrev pub StandsBehind : {R E : Type 0} {receiver : Receiving R} {entries : Ghosts E} → Framing → Machine R E receiver entries → List ℕ → ℕ → Machine R E receiver entries → Type 0
StandsBehind framing old unread place new = (before : List Content) (fed : List ℕ) (messages : List Content)
    → length fed ≤ 2 ^ 60 → Counts old.fed old.messages fed messages → StandsAt framing old before unread fed messages
    → (ended : List Content) × Counts new.fed new.messages fed (messages ++ ended) × (ended ≡ [] → place ≡ length unread) × StandsAt framing new (before ++ ended) (drop place unread) fed (messages ++ ended)

-- A machine reads on in these bytes: it answers the place behind the next message, or none and holds what is not read,
-- or the fault that it keeps.
abbrev pub ReadsNext : {R E : Type 0} {receiver : Receiving R} {entries : Ghosts E} → Framing → Machine R E receiver entries → List ℕ → Result (Option ℕ) Fault → Machine R E receiver entries → Type 0
ReadsNext framing old bytes (Ok next) new = IfSome next (λ place. StandsBehind framing old bytes place new) × IfNone next ((new.fault ≡ None) × FollowsBehind framing old bytes new)
ReadsNext framing old bytes (Err fault) new = (new.fault ≡ Some fault) × (fault.cause ≢ Truncated) × FollowsBehind framing old bytes new

-- it answers none, or why no bytes can be held
abbrev pub AnswersNone : Result (Option ℕ) Fault → Option Fault → Type 0
AnswersNone (Ok place) fault = (place ≡ None) × (fault ≡ None)
AnswersNone (Err f) fault = (fault ≡ Some f) × (f.cause ≢ Truncated)

-- a place that it answers is within the bytes, behind one of them where a message begins there, and none is held
pub record IsBehind {R E : Type 0} {receiver : Receiving R} {entries : Ghosts E} (old : Machine R E receiver entries) (bytes : List ℕ) (place : ℕ) (new : Machine R E receiver entries) : Type 0 where
  pub within : place ≤ length bytes
  pub between : new.traversal.stage ≡ Stage.Map
  pub fault : new.fault ≡ None
  pub held : new.held.items ≡ []
  pub took : begun_of old.traversal ≡ 0 → 0 < place

-- whatever the machine follows
abbrev pub StillFollows : {R E : Type 0} {receiver : Receiving R} {entries : Ghosts E} → Machine R E receiver entries → Machine R E receiver entries → Type 0
StillFollows old new = (before : List Content) (fed : List ℕ) (messages : List Content) → Follows old before fed messages → Follows new before fed messages

-- and these bytes behind it
abbrev pub FollowsOn : {R E : Type 0} {receiver : Receiving R} {entries : Ghosts E} → Machine R E receiver entries → List ℕ → Machine R E receiver entries → Type 0
FollowsOn old chunk new = (before : List Content) (fed : List ℕ) (messages : List Content) → Follows old before fed messages → Follows new before (fed ++ chunk) messages

-- and the messages that they end
abbrev pub FollowsAll : {R E : Type 0} {receiver : Receiving R} {entries : Ghosts E} → Machine R E receiver entries → List ℕ → Machine R E receiver entries → Type 0
FollowsAll old chunk new = (before : List Content) (fed : List ℕ) (messages : List Content) → Follows old before fed messages
    → (ended : List Content) × Follows new (before ++ ended) (fed ++ chunk) (messages ++ ended)

-- up to a place in them, which is answered; a fault is behind them all
abbrev pub FollowsTaken : {R E : Type 0} {receiver : Receiving R} {entries : Ghosts E} → Machine R E receiver entries → List ℕ → Result ℕ Fault → Machine R E receiver entries → Type 0
FollowsTaken old chunk (Ok n) new = FollowsAll old (take n chunk) new
FollowsTaken old chunk (Err f) new = FollowsAll old chunk new

-- what no call changes
pub record IsSameStream {R E : Type 0} {receiver : Receiving R} {entries : Ghosts E} (old new : Machine R E receiver entries) : Type 0 where
  pub set : new.traversal.set ≡ old.traversal.set
  pub mode : mode_of new ≡ mode_of old
  pub same_keys : entries.serves new.entries ≡ entries.serves old.entries

-- nothing but the bytes held, what is said of them, the receiver and the fault has changed
pub record StaysAt {R E : Type 0} {receiving : Receiving R} {serving : Ghosts E} (old new : Machine R E receiving serving) : Type 0 where
  pub traversal : new.traversal ≡ old.traversal
  pub entries : new.entries ≡ old.entries
  pub fed : new.fed ≡ old.fed
  pub messages : new.messages ≡ old.messages
  pub framing : new.framing ≡ old.framing
  pub left : new.left ≡ old.left

-- the fault of the message behind so many, with this cause and this place of its piece
pub record IsFault (fault : Fault) (cause : Cause) (messages offset template instruction : ℕ) : Type 0 where
  pub cause_is : fault.cause ≡ cause
  pub message_is : messages < 2 ^ 61 → fault.place.message ≡ messages + 1
  pub offset_is : fault.place.offset ≡ offset
  pub template_is : fault.place.template ≡ template
  pub instruction_is : fault.place.instruction ≡ instruction

-- a machine keeps a fault, and its receiver has forgotten what was open
pub record KeepsFault {R E : Type 0} {receiver : Receiving R} {entries : Ghosts E} (old : Machine R E receiver entries) (fault : Fault) (new : Machine R E receiver entries) : Type 0 where
  pub kept : new.fault ≡ Some fault
  pub held : new.held.items ≡ []
  pub left : Forgets receiver.stands receiver.keeps old.receiver new.receiver
  pub stays : StaysAt old new

-- the fault of a halt, behind which so many of the bytes fed are left: the first of what was fed
abbrev pub IsFaultOf : Halt → ℕ → ℕ → ℕ → ℕ → Fault → Type 0
IsFaultOf halt messages fed left template fault = (mode : Mode) (t : Traversal) (rest bytes : List ℕ) (ms : List Content)
    → IsSound t.set.now → Counts fed messages bytes ms → length bytes < 2 ^ 61 → t.template ≡ template → length rest ≡ left
    → Carried mode (templates_in t.set.now) bytes ms
    → (halt.cause ≢ Memory → StopsBehind mode (templates_in t.set.now) bytes ms (stop_of t.template halt rest))
    → Refused fault mode (templates_in t.set.now) bytes ms

-- The reading has ended between two messages.
pub record EndsBetween {R E : Type 0} (receiver : Receiving R) (entries : Ghosts E) (t u : Traversal) (r : R) (e : E) (bytes : List ℕ) (progress : Progress) : Type 0 where
  -- none ends only where there is no byte
  pub none : progress.messages ≡ 0 → (progress.at ≡ 0) × (length bytes ≡ 0)
  -- a message that begins here has a byte
  pub took : begun_of t ≡ 0 → 0 < length bytes → 0 < progress.at
  pub between : u.stage ≡ Stage.Map
  pub can : CanRead receiver entries u r e

-- how far the reading of the next message came, and what it leaves where it ended, or where bytes are wanted: few are left
pub record LeavesMessage {R E : Type 0} (receiver : Receiving R) (entries : Ghosts E) (t u : Traversal) (r : R) (d e : E) (bytes : List ℕ) (progress : Progress) : Type 0 where
  pub place : progress.at ≤ length bytes
  pub sound : IsSound u.set.now
  pub same : IsSameSet entries t d u e
  pub ends : MatchOption progress.halt (EndsBetween receiver entries t u r e bytes progress) (λ h. h.cause ≡ Truncated → CanRead receiver entries u r e × (length bytes ≤ progress.at + 65554))
