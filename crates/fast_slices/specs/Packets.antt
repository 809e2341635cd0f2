-- What a call did with a recording and the room that C lent it.
use Rattle.std.specs.Prelude.{◌≡◌, ◌≢◌, ◌⊎◌, ◌<◌, ◌≤◌, ℕ, ◌+◌, false, List, [], ◌∷◌, ◌++◌, length, map, Result, Ok, Err}
use Rattle.fast_wire.specs.declared.level.Level.{Level}
use Rattle.fast_template.specs.TemplateSets.{TemplateList, templates_in}
use Rattle.fast_stream.specs.declared.fault.Cause.{Cause}
use Rattle.fast_stream.specs.Nodes.{Content}
use Rattle.fast_io.specs.Counts.{counted_by}
use Rattle.fast_packets.specs.Outcomes.{FirstRefusal, Outcome, Outcomes, accepted}
use Rattle.fast_packets.specs.Recordings.{CarriesPackets}
use Rattle.fast_packet_laws.specs.CanonicalRecordings.{IsCanonicalRecording}
use Rattle.fast_recording.specs.Made.{FrontWritten, Writing, WrittenOf}
use Rattle.fast_recording.specs.Recorded.{HasCome, messages_in}
use Rattle.fast_recording.specs.declared.fault.PacketFault.{PacketFault}
use Rattle.fast_recording.specs.declared.fault.RecordingFault.{RecordingFault}
use Rattle.fast_recording.specs.declared.summary.RecordingSummary.{RecordingSummary}
use Rattle.fast_slices.specs.Rooms.{Puts}
use Rattle.fast_slices.specs.declared.answer.Counts.{Counts}
use Rattle.fast_slices.specs.declared.answer.Refusal.{Refusal}

-- what is counted of a recording of so many bytes that carries packets, of which so many bytes are made
abbrev pub counts_of : List (List Content) → ℕ → ℕ → Counts
counts_of packets read written = record { packets = length packets; messages = messages_in (map accepted packets); read = read; written = written }

-- The recording carries the packets to its end; what is written of them is in the room's front, and all is counted.
pub record WritesAll (Written : Writing) (level : Level) (set : TemplateList) (recording old new : List ℕ) (counts : Counts) : Type 0 where
  pub packets : List (List Content)
  pub bytes : List ℕ
  pub carries : CarriesPackets level (templates_in set) recording packets
  pub made : WrittenOf Written 1 (map accepted packets) bytes
  pub put : Puts bytes old new
  pub counts_are : counts ≡ counts_of packets (length recording) (length bytes)

-- The recording is refused; what is written of the packets before, and of the one that is refused, is in the room's front.
pub record WritesBefore (Written : Writing) (level : Level) (set : TemplateList) (recording old new : List ℕ) (f : PacketFault) (written : ℕ) : Type 0 where
  pub refusal : FirstRefusal level (templates_in set) recording f.packet f.fault
  pub bytes : List ℕ
  pub made : WrittenOf Written 1 (map accepted refusal.packets ++ refusal.last ∷ []) bytes
  pub put : Puts bytes old new
  pub count : written ≡ length bytes

-- what is answered of a run that wrote these bytes, and what becomes of the room
abbrev pub counts_by : RecordingSummary → Counts
counts_by s = record { packets = s.packets; messages = s.messages; read = s.read; written = s.written }

abbrev pub SettlesPackets : Result RecordingSummary RecordingFault → List ℕ → List ℕ → List ℕ → Result Counts Refusal → Type 0
SettlesPackets ran bytes old new (Ok counts) = (summary : RecordingSummary) × (ran ≡ Ok summary) × (counts ≡ counts_by summary) × Puts bytes old new
SettlesPackets ran bytes old new (Err (Refusal.Packet f written)) =
    (ran ≡ Err (RecordingFault.Packet f)) × (f.fault.cause ≢ Cause.Memory) × (written ≡ length bytes) × Puts bytes old new
SettlesPackets ran bytes old new (Err Refusal.Memory) = new ≡ old
SettlesPackets ran bytes old new (Err r) = ⊥

-- So many bytes are written of the packets that the recording carries; or it is refused, and no clause says how many are then.
abbrev pub Needs : Writing → Level → TemplateList → List ℕ → ℕ → Type 0
Needs Written level set recording needed =
    ((packets : List (List Content)) × (bytes : List ℕ) × CarriesPackets level (templates_in set) recording packets
    × WrittenOf Written 1 (map accepted packets) bytes × (needed ≡ counted_by 0 (length bytes)))
    ⊎ ((f : PacketFault) × FirstRefusal level (templates_in set) recording f.packet f.fault)

-- how many bytes a run writes
abbrev pub MeasuresPackets : Writing → Level → TemplateList → List ℕ → Refusal → Type 0
MeasuresPackets Written level set recording (Refusal.Room needed) = Needs Written level set recording needed
MeasuresPackets Written level set recording Refusal.Memory = Unit {0}
MeasuresPackets Written level set recording r = ⊥

-- what a run says that was counted
abbrev pub MeasuresRun : Result RecordingSummary RecordingFault → ℕ → Refusal → Type 0
MeasuresRun ran count (Refusal.Room needed) =
    ((summary : RecordingSummary) × (ran ≡ Ok summary) × (needed ≡ summary.written))
    ⊎ ((f : PacketFault) × (ran ≡ Err (RecordingFault.Packet f)) × (f.fault.cause ≢ Cause.Memory))
MeasuresRun ran count Refusal.Memory = Unit {0}
MeasuresRun ran count r = ⊥

-- More is written than the room holds of packets that the recording begins with, and of a front of the next; and the room stays.
pub record Overflows (Written : Writing) (level : Level) (set : TemplateList) (recording old new : List ℕ) (needed : ℕ) : Type 0 where
  pub front : List ℕ
  pub back : List ℕ
  pub parts : recording ≡ front ++ back
  pub outcomes : List Outcome
  pub are : Outcomes false level (templates_in set) 0 front outcomes
  pub out : List ℕ
  pub made : WrittenOf Written 1 outcomes out
  pub messages : List Content
  pub more : List ℕ
  pub read : ((messages ≡ []) × (more ≡ [])) ⊎ HasCome level (templates_in set) back messages
  pub next : FrontWritten Written (length outcomes + 1) messages more
  pub longer : length old < length (out ++ more)
  pub same : new ≡ old
  pub needs : Needs Written level set recording needed

-- what is answered of a recording of which something is written
abbrev pub WritesPackets : Writing → Level → TemplateList → List ℕ → List ℕ → List ℕ → Result Counts Refusal → Type 0
WritesPackets Written level set recording old new (Ok counts) = WritesAll Written level set recording old new counts
WritesPackets Written level set recording old new (Err (Refusal.Packet f written)) = WritesBefore Written level set recording old new f written
WritesPackets Written level set recording old new (Err (Refusal.Room needed)) = Overflows Written level set recording old new needed
WritesPackets Written level set recording old new (Err Refusal.Memory) = new ≡ old
WritesPackets Written level set recording old new (Err r) = ⊥

-- The recording carries the packets to its end; the bytes that are counted are its canonical recording, no more than its own.
pub record CountsAllPackets (level : Level) (set : TemplateList) (recording : List ℕ) (counts : Counts) : Type 0 where
  pub packets : List (List Content)
  pub bytes : List ℕ
  pub carries : CarriesPackets level (templates_in set) recording packets
  pub canonical : IsCanonicalRecording (templates_in set) packets bytes
  pub counts_are : counts ≡ counts_of packets (length recording) (length bytes)
  pub no_longer : length bytes ≤ length recording

-- what is answered of a recording that is checked
abbrev pub CountsPackets : Level → TemplateList → List ℕ → Result Counts Refusal → Type 0
CountsPackets level set recording (Ok counts) = CountsAllPackets level set recording counts
CountsPackets level set recording (Err (Refusal.Packet f written)) = FirstRefusal level (templates_in set) recording f.packet f.fault × (written ≡ 0)
CountsPackets level set recording (Err Refusal.Memory) = Unit {0}
CountsPackets level set recording (Err r) = ⊥
