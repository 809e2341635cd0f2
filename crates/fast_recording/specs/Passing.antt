-- How a recording stands on its way: what came of its packets so far.
use Rattle.std.specs.Prelude.{◌≡◌, ◌≢◌, ◌≤◌, ◌<◌, ◌⊎◌, ◌^◌, ℕ, ◌+◌, Bool, true, false, List, [], ◌∷◌, ◌++◌, length, take, drop, Option, Some, None, Result, Ok, Err}
use Rattle.std.specs.declared.alloc.AllocError.{AllocError}
use Rattle.fast_io.specs.Counts.{counted}
use Rattle.fast_machine.specs.Inputs.{Reader, Reads}
use Rattle.fast_wire.specs.declared.level.Level.{Level}
use Rattle.fast_template.specs.Resolved.{Resolved}
use Rattle.fast_template.specs.TemplateSets.{IsSound}
use Rattle.fast_dictionary.specs.declared.entries.Entries.{Ghosts}
use Rattle.fast_stream.specs.declared.fault.Cause.{Cause}
use Rattle.fast_stream.specs.Modes.{plainly}
use Rattle.fast_walk.specs.declared.receiver.Receiver.{Ghosts as Receiving}
use Rattle.fast_machine.specs.declared.machine.Machine.{Machine}
use Rattle.fast_machine.specs.Following.{mode_of}
use Rattle.fast_packets.specs.Outcomes.{Accepts, Behind, Outcome, RefusesPacket, accepted, refused, sizeless}
use Rattle.fast_recording.specs.Told.{told_from}
use Rattle.fast_recording.specs.Made.{Writing, WrittenOf}
use Rattle.fast_recording.specs.Packets.{Rests}
use Rattle.fast_recording.specs.Begins.{IsOpenAt}
use Rattle.fast_recording.specs.Recorded.{Grows, HasEnded, IsOpen, Outputs, RecordsAll, RecordsBefore, RecordsCut, RecordsFront, Why, summary_of}
use Rattle.fast_recording.specs.declared.fault.PacketFault.{PacketFault}
use Rattle.fast_recording.specs.declared.halt.Halt.{Halt}
use Rattle.fast_recording.specs.declared.relay.Came.{Came}
use Rattle.fast_recording.specs.declared.summary.RecordingSummary.{RecordingSummary}

-- all that a machine made is handed on, and it reads plain streams of a sound set at a level
pub record IsReady {O E : Type 0} {receiver : Receiving O} {entries : Ghosts E} (waiting : O → List ℕ) (level : Level) (m : Machine O E receiver entries) : Type 0 where
  pub rests : Rests waiting m
  pub mode_is : mode_of m ≡ plainly level
  pub sound : IsSound m.traversal.set.now

-- What comes of packets that are whole, behind each of which the next is read.
abbrev pub Settled : Bool → Level → List Resolved → ℕ → List ℕ → List Outcome → Type 0
Settled goes_on level set at bytes [] = bytes ≡ []
Settled goes_on level set at bytes (accepted ms ∷ later) =
    Behind (λ x. Accepts level set x ms) (λ n y. Settled goes_on level set n y later) at bytes
Settled goes_on level set at bytes (refused ms place cause ∷ later) =
    (goes_on ≡ true) × Behind (λ x. RefusesPacket level set at x ms place cause) (λ n y. Settled goes_on level set n y later) at bytes
Settled goes_on level set at bytes (sizeless place cause ∷ later) = ⊥

-- These bytes are whole packets; what is made of them is written, they are counted, and those that are refused are told.
pub record Passes (goes_on : Bool) (level : Level) (set : List Resolved) (Writes : Writing) (counts : RecordingSummary) (old new : Outputs) (front : List ℕ) : Type 0 where
  pub outcomes : List Outcome
  pub settled : Settled goes_on level set 0 front outcomes
  pub out : List ℕ
  pub made : WrittenOf Writes 1 outcomes out
  pub grown : Grows old new out (told_from 1 outcomes)
  pub counts_are : counts ≡ summary_of outcomes (length front) (length out)

-- a whole packet more
abbrev pub SettledOne : Bool → Level → List Resolved → ℕ → List ℕ → Outcome → Type 0
SettledOne goes_on level set at bytes (accepted ms) = Accepts level set bytes ms
SettledOne goes_on level set at bytes (refused ms place cause) = (goes_on ≡ true) × RefusesPacket level set at bytes ms place cause
SettledOne goes_on level set at bytes (sizeless place cause) = ⊥

-- The run ends: all that came of the bytes is told, or the refusal behind which it does not go on is answered, or the packet
-- that is open where a device fails.
abbrev pub EndsBy : Why → Bool → Level → List Resolved → Writing → RecordingSummary → Outputs → Outputs → List ℕ → Option PacketFault → Type 0
EndsBy why goes_on level set Writes counts old new input None = RecordsAll why goes_on level set Writes old new input counts
EndsBy why goes_on level set Writes counts old new input (Some f) =
    ((goes_on ≡ false) × RecordsBefore why level set Writes old new input f) ⊎ RecordsCut why goes_on level set Writes old new input f

-- because of the bytes
abbrev pub by_bytes : Why
by_bytes = record { Ended = ⊥; Open = Unit {0}; Failed = λ c. ⊥ }

-- because no more of them come, for this cause
abbrev pub by_cause : Cause → Why
by_cause cause = record { Ended = cause ≡ Cause.Truncated; Open = ⊥; Failed = λ c. (c ≡ cause) × (cause ≢ Cause.Truncated) }

-- no more bytes come: the reader has ended or failed, or the reads are used up
abbrev pub IsEnd : Cause → Type 0
IsEnd cause = (cause ≡ Cause.Truncated) ⊎ (cause ≡ Cause.Read) ⊎ (cause ≡ Cause.Turns)

-- ---- what functions answer, wherever the recording stands

-- so many bytes are counted exactly
abbrev pub AreFew : List ℕ → List ℕ → Type 0
AreFew front bytes = length front + length bytes ≤ 2 ^ 60

abbrev pub After : Bool → Level → List Resolved → Writing → RecordingSummary → Outputs → Outputs → List ℕ → List ℕ → Result (Option PacketFault) Halt → Type 0
After goes_on level set Writes counts old new front input (Ok None) = Passes goes_on level set Writes counts old new front
After goes_on level set Writes counts old new front input (Ok (Some f)) = EndsBy by_bytes goes_on level set Writes counts old new input (Some f)
After goes_on level set Writes counts old new front input (Err e) = RecordsFront goes_on level set Writes old new input

-- a whole packet
abbrev pub TakesOn : Bool → Level → (List Resolved → Writing) → List Resolved → RecordingSummary → RecordingSummary → Outputs → Outputs → List ℕ → Result (Option PacketFault) Halt → Type 0
TakesOn goes_on level Writes templates before after now later bytes result =
    (set : List Resolved) (old : Outputs) (front behind : List ℕ) → templates ≡ set → AreFew front bytes
    → Passes goes_on level set (Writes set) before old now front
    → After goes_on level set (Writes set) after old later (front ++ bytes) (front ++ (bytes ++ behind)) result

-- the packets that bytes begin with
abbrev pub Comes : Bool → Level → List Resolved → Writing → RecordingSummary → Outputs → Outputs → List ℕ → List ℕ → Result Came Halt → Type 0
Comes goes_on level set Writes counts old new front bytes (Ok (Came.Open at behind)) =
    (at ≤ length bytes) × IsOpenAt level (drop at bytes) behind × Passes goes_on level set Writes counts old new (front ++ take at bytes)
Comes goes_on level set Writes counts old new front bytes (Ok Came.End) = EndsBy by_bytes goes_on level set Writes counts old new (front ++ bytes) None
Comes goes_on level set Writes counts old new front bytes (Ok (Came.Refused f)) = EndsBy by_bytes goes_on level set Writes counts old new (front ++ bytes) (Some f)
Comes goes_on level set Writes counts old new front bytes (Err e) = RecordsFront goes_on level set Writes old new (front ++ bytes)

abbrev pub TakesPackets : Bool → Level → (List Resolved → Writing) → List Resolved → RecordingSummary → RecordingSummary → Outputs → Outputs → List ℕ → Result Came Halt → Type 0
TakesPackets goes_on level Writes templates before after now later bytes result =
    (set : List Resolved) (old : Outputs) (front : List ℕ) → templates ≡ set → AreFew front bytes
    → Passes goes_on level set (Writes set) before old now front
    → Comes goes_on level set (Writes set) after old later front bytes result

-- what is left of the bytes is less than a packet with its size may have
abbrev pub LeavesFew : List ℕ → Came → Type 0
LeavesFew bytes (Came.Open at behind) = length (drop at bytes) ≤ 65544
LeavesFew bytes came = Unit {0}

-- a packet that is not whole, of which no more comes for a cause
abbrev pub Ends : Cause → Bool → Level → List Resolved → Writing → RecordingSummary → Outputs → Outputs → List ℕ → Result (Option PacketFault) Halt → Type 0
Ends cause goes_on level set Writes counts old new input (Ok refusal) = EndsBy (by_cause cause) goes_on level set Writes counts old new input refusal
Ends cause goes_on level set Writes counts old new input (Err e) = RecordsFront goes_on level set Writes old new input

abbrev pub EndsOpen : Bool → Level → (List Resolved → Writing) → List Resolved → RecordingSummary → RecordingSummary → Outputs → Outputs → List ℕ → Cause → Result (Option PacketFault) Halt → Type 0
EndsOpen goes_on level Writes templates before after now later bytes cause result =
    (set : List Resolved) (old : Outputs) (front : List ℕ) → templates ≡ set → AreFew front bytes
    → Passes goes_on level set (Writes set) before old now front
    → Ends cause goes_on level set (Writes set) after old later (front ++ bytes) result

-- ---- reads

-- One read gave bytes, which are put behind those held; or none, for a cause.
abbrev pub ReadsOn : Reader → Reader → List ℕ → List ℕ → List ℕ → Result (Option Cause) AllocError → Type 0
ReadsOn old new before after got (Ok None) = (0 < length got) × IsOpen old new × (after ≡ before ++ got)
ReadsOn old new before after got (Ok (Some cause)) =
    (got ≡ []) × (after ≡ before)
    × (((cause ≡ Cause.Truncated) × HasEnded old new) ⊎ ((cause ≡ Cause.Read) × (new.errors ≡ counted old.errors)))
ReadsOn old new before after got (Err e) = Unit {0}

abbrev pub ReadsMore : Reader → Reader → List ℕ → List ℕ → Result (Option Cause) AllocError → Type 0
ReadsMore old new before after result = (got : List ℕ) × Reads old new 1 got × ReadsOn old new before after got result

abbrev pub nothing_counted : RecordingSummary
nothing_counted = record { packets = 0; refused = 0; messages = 0; read = 0; written = 0 }
