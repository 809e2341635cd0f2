-- How a stream on its way through an output stands to the bytes read and to the bytes handed on.
use Rattle.std.specs.Prelude.{◌≡◌, ◌≢◌, ◌⊎◌, ℕ, List, [], ◌∷◌, ◌++◌, length, Option, Some, None, Result, Ok, Err, MatchResult}
use Rattle.std.specs.Io.KnownBytes.{Appends}
use Rattle.fast_io.specs.Counts.{counted, counted_by}
use Rattle.fast_io.specs.Traffic.{Taken}
use Rattle.fast_template.specs.Resolved.{Resolved}
use Rattle.fast_template.specs.TemplateSets.{templates_in}
use Rattle.fast_dictionary.specs.Dictionary.{Dictionary}
use Rattle.fast_dictionary.specs.declared.entries.Entries.{Ghosts}
use Rattle.fast_machine.specs.declared.reached.Reached.{Reached}
use Rattle.fast_machine.specs.declared.machine.Machine.{Machine}
use Rattle.fast_walk.specs.declared.receiver.Receiver.{Ghosts as Receiving}
use Rattle.fast_stream.specs.Nodes.{Content}
use Rattle.fast_stream.specs.declared.fault.Fault.{Fault}
use Rattle.fast_stream.specs.declared.fault.Cause.TheVariants.{Read, Truncated, Turns}
use Rattle.fast_stream.specs.declared.mode.Mode.{Mode}
use Rattle.fast_machine.specs.Calls.{IsSameStream}
use Rattle.fast_machine.specs.Following.{Counts, Follows, mode_of}
use Rattle.fast_machine.specs.Progress.{HasRefused}
use Rattle.fast_machine.specs.Inputs.{HasReached, OnFault}
use Rattle.fast_machine.specs.Standing.{Carried}
use Rattle.fast_walk.specs.Received.{handed_on}
use Rattle.fast_pass.specs.declared.fault.CanonFault.{CanonFault}
use Rattle.fast_pass.specs.declared.stop.Stop.{Stop}
use Rattle.fast_pass.specs.declared.summary.Summary.{Summary}

-- what an output makes of messages of a set
abbrev pub Making : Type 1
Making = List Resolved → List Content → List ℕ → Type 0

-- how far a stream is on its way: these bytes were handed on, and these read, in which these messages ended
pub record Way : Type 0 where
  pub handed : List ℕ
  pub input : List ℕ
  pub messages : List Content

abbrev pub outset : Way
outset = record { handed = []; input = []; messages = [] }

-- these bytes more were handed on, and these read, in which these messages more ended
abbrev pub farther : Way → List ℕ → List ℕ → List Content → Way
farther way more got ended = record { handed = way.handed ++ more; input = way.input ++ got; messages = way.messages ++ ended }

-- only handed on
abbrev pub handing : Way → List ℕ → Way
handing way more = record { handed = way.handed ++ more; input = way.input; messages = way.messages }

-- a machine with no fault has been fed the bytes read
pub record GoesOn {O E : Type 0} {receiver : Receiving O} {entries : Ghosts E} (m : Machine O E receiver entries) (way : Way) : Type 0 where
  pub unrefused : m.fault ≡ None
  pub follows : Follows m (handed_on way.handed ∷ way.messages) way.input way.messages

-- the output has the messages, whatever is open in it
abbrev pub HasMade : {O E : Type 0} {receiver : Receiving O} {entries : Ghosts E} → Machine O E receiver entries → Way → Type 0
HasMade {receiver = receiver} m way =
    (d : Dictionary)
    × (receiver.keeps m.receiver (templates_in m.traversal.set.now) (handed_on way.handed ∷ way.messages) d
    ⊎ receiver.stands m.receiver (templates_in m.traversal.set.now) (handed_on way.handed ∷ way.messages) d)

-- The bytes read carry the messages, and then what was reached says how it goes on; the bytes handed on, and those
-- that wait in the output, are what it makes of the messages.
pub record Relays {O E : Type 0} {receiver : Receiving O} {entries : Ghosts E} (waiting : O → List ℕ) (makes : Making) (at : Reached) (m : Machine O E receiver entries) (turns : ℕ) (left : Option (List ℕ)) (way : Way) : Type 0 where
  pub holds : HasReached at (GoesOn m way) (mode_of m) (templates_in m.traversal.set.now) turns left way.input way.messages
  pub made : makes (templates_in m.traversal.set.now) way.messages (way.handed ++ waiting m.receiver)
  pub has : HasMade m way
  pub counts : at ≡ Reached.End → Counts m.fed m.messages way.input way.messages

-- ---- a step

-- Behind a way these bytes more were read, and this is so; and more was handed on, of this size.
pub record Step {O E : Type 0} {receiver : Receiving O} {entries : Ghosts E} (waiting : O → List ℕ) (makes : Making) (at : Reached) (m : Machine O E receiver entries) (turns : ℕ) (left taken_old taken_new : Option (List ℕ)) (size : ℕ) (way : Way) (got : List ℕ) (Because : Type 0) : Type 0 where
  pub more : List ℕ
  pub ended : List Content
  pub relays : Relays waiting makes at m turns left (farther way more got ended)
  pub written : Appends taken_old taken_new more
  pub size_is : size ≡ counted_by 0 (length more)
  pub because : Because

-- the bytes of one read end no stream, and are refused for what they are
abbrev pub IsOfBytes : Reached → Type 0
IsOfBytes at = (at ≢ Reached.End) × OnFault at (λ c. (c ≢ Truncated) × (c ≢ Read) × (c ≢ Turns))

-- Behind a way these bytes more were read, and a write failed or memory was refused: a front of what more was made is handed on.
pub record Break (makes : Making) (mode : Mode) (set : List Resolved) (taken_old taken_new : Option (List ℕ)) (way : Way) (got : List ℕ) : Type 0 where
  pub more : List ℕ
  pub rest : List ℕ
  pub ended : List Content
  pub carried : Carried mode set (way.input ++ got) (way.messages ++ ended)
  pub made : makes set (way.messages ++ ended) ((way.handed ++ more) ++ rest)
  pub written : Appends taken_old taken_new more

-- What comes of these bytes, from a machine that goes on, wherever its stream is: a step to what is reached, for which there
-- is a cause, or a break.
abbrev pub Goes : {O E : Type 0} {receiver : Receiving O} {entries : Ghosts E} → (O → List ℕ) → Making → Result (Reached × ℕ) Stop → Machine O E receiver entries → Machine O E receiver entries → Option (List ℕ) → Option (List ℕ) → Option (List ℕ) → Option (List ℕ) → List ℕ → (Reached → Type 0) → Type 0
Goes waiting makes result old new left later taken_old taken_new got Because = MatchResult result
    (λ x. (turns : ℕ) (way : Way) → Relays waiting makes Reached.Open old turns left way → Step waiting makes x.0 new turns later taken_old taken_new x.1 way got (Because x.0))
    (λ s. (turns : ℕ) (way : Way) → Relays waiting makes Reached.Open old turns left way → Break makes (mode_of new) (templates_in new.traversal.set.now) taken_old taken_new way got)

-- ---- what is handed on

-- These bytes of an output, of this size, are handed on, wherever the stream is.
pub record HandsOn {O E : Type 0} {receiver : Receiving O} {entries : Ghosts E} (waiting : O → List ℕ) (makes : Making) (old new : Machine O E receiver entries) (taken_old taken_new : Option (List ℕ)) (more : List ℕ) (size : ℕ) : Type 0 where
  pub written : Appends taken_old taken_new more
  pub size_is : size ≡ counted_by 0 (length more)
  pub whole : waiting old.receiver ≡ more ++ waiting new.receiver
  pub has : (way : Way) → HasMade old way → HasMade new (handing way more)
  pub relays : (at : Reached) (turns : ℕ) (left : Option (List ℕ)) (way : Way) → Relays waiting makes at old turns left way → Relays waiting makes at new turns left (handing way more)

-- some are, or a front of what waits
abbrev pub Hands : {O E : Type 0} {receiver : Receiving O} {entries : Ghosts E} → (O → List ℕ) → Making → Result ℕ Stop → Machine O E receiver entries → Machine O E receiver entries → Option (List ℕ) → Option (List ℕ) → Type 0
Hands waiting makes (Ok size) old new taken_old taken_new = (more : List ℕ) × HandsOn waiting makes old new taken_old taken_new more size
Hands waiting makes (Err s) old new taken_old taken_new = (rest : List ℕ) × Taken taken_old taken_new (waiting old.receiver) rest

-- nothing was read, and no fault is new
pub record StandsStill {O E : Type 0} {receiver : Receiving O} {entries : Ghosts E} (old new : Machine O E receiver entries) : Type 0 where
  pub fault : new.fault ≡ old.fault
  pub same : IsSameStream old new
  pub fed : new.fed ≡ old.fed

-- ---- what is answered

-- a stream that was read to its end, of which so many bytes were handed on, or to a fault, or what kept its relay from going on
abbrev pub answer_of : {O E : Type 0} {receiver : Receiving O} {entries : Ghosts E} → Result (Option Fault × ℕ) Stop → Machine O E receiver entries → Result Summary CanonFault
answer_of (Ok (None, size)) m = Ok (record { messages = m.messages; read = m.fed; written = size })
answer_of (Ok (Some fault, size)) m = Err (CanonFault.Stream fault)
answer_of (Err Stop.Write) m = Err CanonFault.Write
answer_of (Err Stop.Memory) m = Err CanonFault.Memory

-- Whose memory was refused: the stream is answered as refused only where the receiver of its machine was refused none; and
-- Memory only where it was, or where handing on broke off, and the writer was not flushed.
abbrev pub IsWhose : {O E : Type 0} {receiver : Receiving O} {entries : Ghosts E} → Result Summary CanonFault → Machine O E receiver entries → ℕ → ℕ → Type 0
IsWhose (Err (CanonFault.Stream fault)) m flushes_old flushes_new = HasRefused m → ⊥
IsWhose (Err CanonFault.Memory) m flushes_old flushes_new = HasRefused m ⊎ (flushes_new ≡ flushes_old)
IsWhose r m flushes_old flushes_new = Unit {0}

-- ---- the calls of the writer

-- a call of the writer failed where a failed write keeps the relay from going on, and only there
abbrev pub errors_behind : {T : Type 0} → Result T Stop → ℕ → ℕ
errors_behind (Err Stop.Write) old = counted old
errors_behind r old = old
