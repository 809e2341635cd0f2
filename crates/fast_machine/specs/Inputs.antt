-- What a reader gave to a stream, and how far the stream came.
use Rattle.std.specs.Prelude.{◌≡◌, ◌≢◌, ◌⊎◌, ◌≤◌, ℕ, ◌+◌, ◌*◌, List, length, Option}
use Rattle.std.specs.Io.KnownBytes.{Consumes, IsAtEnd}
use Rattle.fast_io.specs.Counts.{counted, counted_by}
use Rattle.fast_io.specs.declared.input.ByteInput.{Ghosts as Giving}
use Rattle.fast_template.specs.Resolved.{Resolved}
use Rattle.fast_stream.specs.declared.fault.Cause.{Cause}
use Rattle.fast_stream.specs.declared.fault.Fault.{Fault}
use Rattle.fast_stream.specs.declared.mode.Mode.{Mode}
use Rattle.fast_stream.specs.declared.place.Place.{Place}
use Rattle.fast_machine.specs.declared.reached.Reached.{Reached}
use Rattle.fast_stream.specs.Nodes.{Content}
use Rattle.fast_stream.specs.Modes.{Carries, FirstFault, EndsBetween}
use Rattle.fast_machine.specs.Standing.{Carried}

-- what a reader tells of itself: the bytes left where they are told, how many calls were made, how many of them
-- failed, and how many met the end
pub record Reader : Type 0 where
  pub left : Option (List ℕ)
  pub calls : ℕ
  pub errors : ℕ
  pub ends : ℕ

abbrev pub reader_by : {R : Type 0} → (R → Option (List ℕ)) → (R → ℕ) → (R → ℕ) → (R → ℕ) → R → Reader
reader_by left calls errors ends r = record { left = left r; calls = calls r; errors = errors r; ends = ends r }

abbrev pub told_by : {R : Type 0} → Giving R → R → Reader
told_by input r = reader_by input.left input.calls input.errors input.ends r

-- So many reads, each of at most 4,096 bytes, gave these bytes.
pub record Reads (old new : Reader) (count : ℕ) (got : List ℕ) : Type 0 where
  pub consumed : Consumes old.left new.left got
  pub called : new.calls ≡ counted_by old.calls count
  pub few : length got ≤ 4096 * count

-- Where and why the bytes read are refused. Truncated comes only where the reader ended; of a read that failed or was
-- used up the place is where Truncated would be put in the bytes read, or their end between two messages, and between
-- two blocks; each of the reads that are used up gave a byte, so none met the end; and want of memory has no place but
-- the message.
abbrev pub RefusedBy : Cause → Mode → List Resolved → ℕ → Option (List ℕ) → List ℕ → Place → Type 0
RefusedBy Cause.Truncated mode set turns left bytes place = FirstFault mode set bytes place Cause.Truncated × IsAtEnd left
RefusedBy Cause.Read mode set turns left bytes place = FirstFault mode set bytes place Cause.Truncated ⊎ EndsBetween mode set bytes place
RefusedBy Cause.Turns mode set turns left bytes place = (FirstFault mode set bytes place Cause.Truncated ⊎ EndsBetween mode set bytes place) × (turns ≤ length bytes)
RefusedBy Cause.Memory mode set turns left bytes place = (place.offset ≡ 0) × (place.template ≡ 0) × (place.instruction ≡ 0)
RefusedBy c mode set turns left bytes place = FirstFault mode set bytes place c

-- a prefix of the bytes carries the messages, and behind them is the fault
pub record Refuses (mode : Mode) (set : List Resolved) (turns : ℕ) (left : Option (List ℕ)) (bytes : List ℕ) (messages : List Content) (f : Fault) : Type 0 where
  pub carried : Carried mode set bytes messages
  pub behind : f.place.message ≡ length messages + 1
  pub refused : RefusedBy f.cause mode set turns left bytes f.place

-- the reader has ended, and its bytes carry just the messages
pub record EndsWith (mode : Mode) (set : List Resolved) (left : Option (List ℕ)) (bytes : List ℕ) (messages : List Content) : Type 0 where
  pub carried : Carries mode set bytes messages
  pub ended : IsAtEnd left

-- How far a stream came, that has found these messages in these bytes; while it is open its decoder goes on from them.
abbrev pub HasReached : Reached → Type 0 → Mode → List Resolved → ℕ → Option (List ℕ) → List ℕ → List Content → Type 0
HasReached Reached.Open GoesOn mode set turns left bytes messages = GoesOn
HasReached Reached.End GoesOn mode set turns left bytes messages = EndsWith mode set left bytes messages
HasReached (Reached.Fault f) GoesOn mode set turns left bytes messages = Refuses mode set turns left bytes messages f

-- a fact on the cause of a fault, where one was reached
abbrev pub OnFault : Reached → (Cause → Type 0) → Type 0
OnFault (Reached.Fault f) Is = Is f.cause
OnFault at Is = Unit {0}

-- a fault of this cause was reached
abbrev pub IsFaultOf : Cause → Reached → Type 0
IsFaultOf c (Reached.Fault f) = f.cause ≡ c
IsFaultOf c at = ⊥

-- A read failed where the cause is Read, and none where it is another; one met the end where it is Truncated, and none
-- where it is another; and it is Turns only where all reads were made.
pub record IsFaultBy (cause : Cause) (UsedUp : Type 0) (old new : Reader) : Type 0 where
  pub read : cause ≡ Cause.Read → new.errors ≡ counted old.errors
  pub unfailed : cause ≢ Cause.Read → new.errors ≡ old.errors
  pub met : cause ≡ Cause.Truncated → new.ends ≡ counted old.ends
  pub unmet : cause ≢ Cause.Truncated → new.ends ≡ old.ends
  pub turns : cause ≡ Cause.Turns → UsedUp

-- What the counts of a reader show of a stream that was open: none failed or met the end while it is open; one met it
-- where it ended, and none failed; and where it is refused, they show the cause.
abbrev pub IsCaused : Reached → Type 0 → Reader → Reader → Type 0
IsCaused Reached.Open UsedUp old new = (new.errors ≡ old.errors) × (new.ends ≡ old.ends)
IsCaused Reached.End UsedUp old new = (new.ends ≡ counted old.ends) × (new.errors ≡ old.errors)
IsCaused (Reached.Fault f) UsedUp old new = IsFaultBy f.cause UsedUp old new

-- The same of a call on any stream: one that is not open reads nothing more, and stays.
abbrev pub Causes : Reached → Reached → Type 0 → Reader → Reader → Type 0
Causes Reached.Open now UsedUp old new = IsCaused now UsedUp old new
Causes before now UsedUp old new = (now ≡ before) × (new ≡ old)
