-- What passes of a stream through an output, and what is answered.
use Rattle.std.specs.Prelude.{◌≡◌, ◌≤◌, ℕ, List, ◌++◌, length, Option, Result, Ok, Err}
use Rattle.std.specs.Io.KnownBytes.{Appends}
use Rattle.fast_template.specs.Resolved.{Resolved}
use Rattle.fast_stream.specs.declared.fault.Fault.{Fault}
use Rattle.fast_stream.specs.declared.mode.Mode.{Mode}
use Rattle.fast_stream.specs.Nodes.{Content}
use Rattle.fast_io.specs.Counts.{counted, counted_by}
use Rattle.fast_machine.specs.declared.reached.Reached.{Reached}
use Rattle.fast_machine.specs.Inputs.{EndsWith, IsCaused, Reader, Reads, Refuses}
use Rattle.fast_machine.specs.Standing.{Carried}
use Rattle.fast_pass.specs.declared.fault.CanonFault.{CanonFault}
use Rattle.fast_pass.specs.declared.summary.Summary.{Summary}
use Rattle.fast_pass.specs.Relays.{Making}

-- The reader has ended, and the bytes read carry the messages; what is made of them was written, and all is counted: the
-- bytes written up to the greatest number that a count has.
pub record PassesAll (makes : Making) (mode : Mode) (set : List Resolved) (left taken_old taken_new : Option (List ℕ)) (input : List ℕ) (summary : Summary) : Type 0 where
  pub messages : List Content
  pub out : List ℕ
  pub ends : EndsWith mode set left input messages
  pub made : makes set messages out
  pub written : Appends taken_old taken_new out
  pub counts : summary ≡ record { messages = length messages; read = length input; written = counted_by 0 (length out) }

-- The stream is refused: what is made of the messages before the fault was written.
pub record PassesBefore (makes : Making) (mode : Mode) (set : List Resolved) (turns : ℕ) (left taken_old taken_new : Option (List ℕ)) (input : List ℕ) (fault : Fault) : Type 0 where
  pub messages : List Content
  pub out : List ℕ
  pub refuses : Refuses mode set turns left input messages fault
  pub made : makes set messages out
  pub written : Appends taken_old taken_new out

-- A write failed or memory was refused: a front was written of what is made of messages that were read.
pub record PassesFront (makes : Making) (mode : Mode) (set : List Resolved) (taken_old taken_new : Option (List ℕ)) (input : List ℕ) : Type 0 where
  pub messages : List Content
  pub front : List ℕ
  pub rest : List ℕ
  pub carried : Carried mode set input messages
  pub made : makes set messages (front ++ rest)
  pub written : Appends taken_old taken_new front

-- What passes of a stream through an output.
abbrev pub Passes : Making → Mode → List Resolved → ℕ → Option (List ℕ) → Option (List ℕ) → Option (List ℕ) → List ℕ → Result Summary CanonFault → Type 0
Passes makes mode set turns left taken_old taken_new input (Ok summary) = PassesAll makes mode set left taken_old taken_new input summary
Passes makes mode set turns left taken_old taken_new input (Err (CanonFault.Stream fault)) = PassesBefore makes mode set turns left taken_old taken_new input fault
Passes makes mode set turns left taken_old taken_new input (Err f) = PassesFront makes mode set taken_old taken_new input

-- ---- the calls of the reader and the writer

-- an answer has its cause in the counts of the reader
abbrev pub IsCausedBy : Result Summary CanonFault → Type 0 → Reader → Reader → Type 0
IsCausedBy (Ok summary) UsedUp old new = (new.ends ≡ counted old.ends) × (new.errors ≡ old.errors)
IsCausedBy (Err (CanonFault.Stream fault)) UsedUp old new = IsCaused (Reached.Fault fault) UsedUp old new
IsCausedBy (Err f) UsedUp old new = Unit {0}

-- So many reads, no more than asked for, gave bytes of which this passes, and the reader's counts show why this is answered.
abbrev pub PassesBy : Making → Mode → List Resolved → ℕ → Reader → Reader → Option (List ℕ) → Option (List ℕ) → Result Summary CanonFault → Type 0
PassesBy makes mode set turns old new taken_old taken_new result =
    (count : ℕ) × (input : List ℕ) × Reads old new count input × (count ≤ turns) × Passes makes mode set turns new.left taken_old taken_new input result × IsCausedBy result (count ≡ turns) old new

-- a failed write is answered exactly where a call of the writer failed
abbrev pub errors_after : Result Summary CanonFault → ℕ → ℕ
errors_after (Err CanonFault.Write) old = counted old
errors_after r old = old

-- one flush before the end and before a refused stream is answered
abbrev pub FlushesOnce : Result Summary CanonFault → ℕ → ℕ → Type 0
FlushesOnce (Ok summary) old new = new ≡ counted old
FlushesOnce (Err (CanonFault.Stream fault)) old new = new ≡ counted old
FlushesOnce (Err f) old new = Unit {0}
