-- What passes of a recording through an output, and what is answered.
use Rattle.std.specs.Prelude.{◌≡◌, ◌≢◌, ◌≤◌, ◌⊎◌, ℕ, ◌+◌, Bool, false, List, [], ◌∷◌, ◌++◌, length, map, Option, Some, None, Result, Ok, Err}
use Rattle.std.specs.Io.KnownBytes.{Appends, IsAtEnd}
use Rattle.fast_wire.specs.declared.level.Level.{Level}
use Rattle.fast_template.specs.Resolved.{Resolved}
use Rattle.fast_stream.specs.Nodes.{Content}
use Rattle.fast_stream.specs.declared.fault.Cause.{Cause}
use Rattle.fast_stream.specs.declared.fault.Fault.{Fault}
use Rattle.fast_stream.specs.declared.place.Place.{Place}
use Rattle.fast_stream.specs.Blocks.{IsSize}
use Rattle.fast_stream.specs.Modes.{plainly}
use Rattle.fast_io.specs.Counts.{counted, counted_by}
use Rattle.fast_machine.specs.Inputs.{Reader, Reads}
use Rattle.fast_machine.specs.Standing.{Carried}
use Rattle.fast_packets.specs.Outcomes.{Outcome, Outcomes, accepted, refusal_in, refused, size_place, sizeless}
use Rattle.fast_packets.specs.Recordings.{packet_limit}
use Rattle.fast_recording.specs.Told.{told_from}
use Rattle.fast_recording.specs.Made.{FrontWritten, Writing, WrittenOf}
use Rattle.fast_recording.specs.declared.fault.PacketFault.{PacketFault}
use Rattle.fast_recording.specs.declared.fault.RecordingFault.{RecordingFault}
use Rattle.fast_recording.specs.declared.summary.RecordingSummary.{RecordingSummary}

-- ---- what is counted: bytes written up to the greatest number that a count has

abbrev pub messages_of : Outcome → ℕ
messages_of (accepted ms) = length ms
messages_of (refused ms place cause) = length ms
messages_of (sizeless place cause) = 0

abbrev pub messages_in : List Outcome → ℕ
messages_in [] = 0
messages_in (o ∷ later) = messages_of o + messages_in later

abbrev pub count_refusal : Option Fault → ℕ
count_refusal None = 0
count_refusal (Some fault) = 1

abbrev pub refused_in : List Outcome → ℕ
refused_in [] = 0
refused_in (o ∷ later) = count_refusal (refusal_in o) + refused_in later

-- the bytes up to a size that is refused, and else all
abbrev pub read_of : ℕ → List Outcome → ℕ
read_of all [] = all
read_of all (accepted ms ∷ later) = read_of all later
read_of all (refused ms place cause ∷ later) = read_of all later
read_of all (sizeless place cause ∷ later) = place.offset

abbrev pub summary_of : List Outcome → ℕ → ℕ → RecordingSummary
summary_of os all out = record { packets = length os; refused = refused_in os; messages = messages_in os; read = read_of all os; written = counted_by 0 out }

-- ---- what is written and told

-- the bytes that the writer took, and the writer of refusals, where they tell them
pub record Outputs : Type 0 where
  pub taken : Option (List ℕ)
  pub told : Option (List ℕ)

abbrev pub outputs : Option (List ℕ) → Option (List ℕ) → Outputs
outputs taken told = record { taken = taken; told = told }

-- these bytes more were written, and these lines
pub record Grows (old new : Outputs) (out lines : List ℕ) : Type 0 where
  pub written : Appends old.taken new.taken out
  pub said : Appends old.told new.told lines

-- What comes of the bytes read; of that, it is written what is made of all, and these are told.
pub record Recorded (goes_on : Bool) (level : Level) (set : List Resolved) (Writes : Writing) (old new : Outputs) (input : List ℕ) (outcomes told : List Outcome) : Type 0 where
  pub out : List ℕ
  pub are : Outcomes goes_on level set 0 input outcomes
  pub made : WrittenOf Writes 1 outcomes out
  pub grown : Grows old new out (told_from 1 told)

-- where the run does not go on behind a refusal there is none
abbrev pub HasAccepted : Bool → List Outcome → Type 0
HasAccepted goes_on outcomes = goes_on ≡ false → (packets : List (List Content)) × (outcomes ≡ map accepted packets)

-- ---- why a run ends

-- what is so where the reader has ended, where it has not been asked for the rest, and where it fails with a cause
pub record Why : Type 1 where
  pub Ended : Type 0
  pub Open : Type 0
  pub Failed : Cause → Type 0

-- a size is refused that has come whole
abbrev pub EndsInSize : List Outcome → Type 0
EndsInSize os = (before : List Outcome) × (place : Place) × (cause : Cause) × (os ≡ before ++ sizeless place cause ∷ []) × (cause ≢ Cause.Truncated)

-- All packets were read, or those up to a size that is refused.
pub record RecordsAll (why : Why) (goes_on : Bool) (level : Level) (set : List Resolved) (Writes : Writing) (old new : Outputs) (input : List ℕ) (summary : RecordingSummary) : Type 0 where
  pub outcomes : List Outcome
  pub recorded : Recorded goes_on level set Writes old new input outcomes outcomes
  pub accepts : HasAccepted goes_on outcomes
  pub ended : why.Ended ⊎ (EndsInSize outcomes × why.Open)
  pub counts : summary ≡ summary_of outcomes (length input) (length recorded.out)

-- The run does not go on behind this refusal, the first, which is answered and not told. Truncated comes only where the
-- reader has ended.
pub record RecordsBefore (why : Why) (level : Level) (set : List Resolved) (Writes : Writing) (old new : Outputs) (input : List ℕ) (f : PacketFault) : Type 0 where
  pub packets : List (List Content)
  pub last : Outcome
  pub recorded : Recorded false level set Writes old new input (map accepted packets ++ last ∷ []) []
  pub refusal : refusal_in last ≡ Some f.fault
  pub number_is : f.packet ≡ length packets + 1
  pub ended : f.fault.cause ≡ Cause.Truncated → why.Ended

-- The packet that is open where no more bytes can be read: none, with the place where the next one would begin; or one that
-- is refused there as if the recording ended.
abbrev pub IsCutAt : ℕ → List Outcome → Place → Type 0
IsCutAt all [] place = place ≡ size_place all
IsCutAt all (last ∷ later) place = (refusal_in last ≡ Some (record { cause = Cause.Truncated; place = place })) × (later ≡ [])

-- A read failed or the reads are used up. What has come of the packet that is open is judged, and not told.
pub record RecordsCut (why : Why) (goes_on : Bool) (level : Level) (set : List Resolved) (Writes : Writing) (old new : Outputs) (input : List ℕ) (f : PacketFault) : Type 0 where
  pub outcomes : List Outcome
  pub cut : List Outcome
  pub recorded : Recorded goes_on level set Writes old new input (outcomes ++ cut) outcomes
  pub accepts : HasAccepted goes_on outcomes
  pub number_is : f.packet ≡ length outcomes + 1
  pub place_is : IsCutAt (length input) cut f.fault.place
  pub failed : why.Failed f.fault.cause

-- a packet of a size, of whose stream these messages have come
pub record HasCome (level : Level) (set : List Resolved) (bytes : List ℕ) (messages : List Content) : Type 0 where
  pub size : List ℕ
  pub come : List ℕ
  pub behind : List ℕ
  pub room : ℕ
  pub parts : bytes ≡ size ++ (come ++ behind)
  pub size_is : IsSize level size room
  pub few : length come ≤ room
  pub limited : room ≤ packet_limit
  pub carried : Carried (plainly level) set come messages

-- A write failed or memory was refused, behind these packets of the bytes read, in one of which these messages were read. A
-- front was written of what is made of them, and a front of the lines told.
pub record RecordsFront (goes_on : Bool) (level : Level) (set : List Resolved) (Writes : Writing) (old new : Outputs) (input : List ℕ) : Type 0 where
  pub front : List ℕ
  pub back : List ℕ
  pub parts : input ≡ front ++ back
  pub outcomes : List Outcome
  pub are : Outcomes goes_on level set 0 front outcomes
  pub out : List ℕ
  pub made : WrittenOf Writes 1 outcomes out
  pub messages : List Content
  pub more : List ℕ
  pub read : ((messages ≡ []) × (more ≡ [])) ⊎ HasCome level set back messages
  pub next : FrontWritten Writes (length outcomes + 1) messages more
  pub told : List ℕ
  pub untold : List ℕ
  pub lines_are : told_from 1 outcomes ≡ told ++ untold
  pub grown : Grows old new (out ++ more) told

abbrev pub RecordsPackets : Why → Bool → Level → List Resolved → Writing → Outputs → Outputs → List ℕ → Result RecordingSummary RecordingFault → Type 0
RecordsPackets why goes_on level set Writes old new input (Ok summary) = RecordsAll why goes_on level set Writes old new input summary
RecordsPackets why goes_on level set Writes old new input (Err (RecordingFault.Packet f)) =
    ((goes_on ≡ false) × RecordsBefore why level set Writes old new input f) ⊎ RecordsCut why goes_on level set Writes old new input f
RecordsPackets why goes_on level set Writes old new input (Err e) = RecordsFront goes_on level set Writes old new input

-- ---- the calls of the devices

-- the reader has ended
abbrev pub HasEnded : Reader → Reader → Type 0
HasEnded old new = IsAtEnd new.left × (new.ends ≡ counted old.ends) × (new.errors ≡ old.errors)

-- it gave bytes at each read
abbrev pub IsOpen : Reader → Reader → Type 0
IsOpen old new = (new.ends ≡ old.ends) × (new.errors ≡ old.errors)

-- a read failed; or all reads are made, and none met the end or failed
abbrev pub HasFailed : Type 0 → Reader → Reader → Cause → Type 0
HasFailed UsedUp old new Cause.Read = new.errors ≡ counted old.errors
HasFailed UsedUp old new Cause.Turns = UsedUp × IsOpen old new
HasFailed UsedUp old new c = ⊥

abbrev pub by_reader : Type 0 → Reader → Reader → Why
by_reader UsedUp old new = record { Ended = HasEnded old new; Open = IsOpen old new; Failed = HasFailed UsedUp old new }

-- all reads are made, and each of them gave a byte
abbrev pub IsUsedUp : ℕ → ℕ → List ℕ → Type 0
IsUsedUp turns count input = (count ≡ turns) × (turns ≤ length input)

-- So many reads, no more than asked for, gave bytes of which this is answered, and the reader's counts show why.
abbrev pub RecordsBy : Bool → Level → List Resolved → Writing → ℕ → Reader → Reader → Outputs → Outputs → Result RecordingSummary RecordingFault → Type 0
RecordsBy goes_on level set Writes turns from now old new result =
    (count : ℕ) × (input : List ℕ) × Reads from now count input × (count ≤ turns)
    × RecordsPackets (by_reader (IsUsedUp turns count input) from now) goes_on level set Writes old new input result

-- a failed write is answered exactly where a call of the writer failed, and so of the writer of refusals
abbrev pub writes_failed : Result RecordingSummary RecordingFault → ℕ → ℕ
writes_failed (Err RecordingFault.Write) old = counted old
writes_failed r old = old

abbrev pub tells_failed : Result RecordingSummary RecordingFault → ℕ → ℕ
tells_failed (Err RecordingFault.Tell) old = counted old
tells_failed r old = old

-- one flush before the end and before a refusal is answered
abbrev pub FlushesOnce : Result RecordingSummary RecordingFault → ℕ → ℕ → Type 0
FlushesOnce (Ok summary) old new = new ≡ counted old
FlushesOnce (Err (RecordingFault.Packet f)) old new = new ≡ counted old
FlushesOnce (Err e) old new = Unit {0}
