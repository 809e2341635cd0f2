-- What is answered and written of a recording by each call.
use Rattle.std.specs.Prelude.{◌≡◌, ◌≤◌, ◌⊎◌, ℕ, Bool, true, false, List, [], length, map, Option, Some, None, Result, Ok, Err}
use Rattle.std.specs.Io.KnownBytes.{Appends}
use Rattle.fast_machine.specs.Inputs.{Reader, Reads}
use Rattle.fast_wire.specs.declared.level.Level.{Level}
use Rattle.fast_template.specs.TemplateSets.{TemplateList, templates_in}
use Rattle.fast_stream.specs.declared.fault.Cause.{Cause}
use Rattle.fast_stream.specs.Nodes.{Content}
use Rattle.fast_lines.specs.declared.form.Form.{Form}
use Rattle.fast_lines.specs.declared.form.Form.TheVariants.{Text, Json}
use Rattle.fast_lines.specs.Lines.{lines_in}
use Rattle.fast_writer.specs.Canonical.{IsCanonical}
use Rattle.fast_packets.specs.Outcomes.{FirstRefusal, accepted, refused, sizeless}
use Rattle.fast_packets.specs.Recordings.{CarriesPackets}
use Rattle.fast_packet_laws.specs.CanonicalRecordings.{IsCanonicalRecording}
use Rattle.fast_recording.specs.declared.fault.PacketFault.{PacketFault}
use Rattle.fast_recording.specs.declared.fault.RecordingFault.{RecordingFault}
use Rattle.fast_recording.specs.declared.mode.PacketMode.{PacketMode}
use Rattle.fast_recording.specs.declared.summary.RecordingSummary.{RecordingSummary}
use Rattle.fast_recording.specs.Made.{Writing, WritesMade, numbering_of, unnumbered}
use Rattle.fast_recording.specs.Recorded.{IsUsedUp, Outputs, RecordsBy, RecordsCut, RecordsFront, Why, by_reader, messages_in, outputs}

-- ---- show

-- whether the lines of a packet have its number
abbrev pub is_numbered : Form → Bool
is_numbered Text = false
is_numbered Json = true

-- the lines of the messages of a packet, or of those before its fault, with its number in a form that has it
abbrev pub LinesOfPacket : Form → TemplateList → ℕ → List Content → List ℕ → Type 0
LinesOfPacket form set number messages bytes = (text : List ℕ) × (lines_in form set messages ≡ Some text) × (bytes ≡ numbering_of (is_numbered form) number text)

abbrev pub WritesLines : Form → TemplateList → Writing
WritesLines form set number (accepted messages) bytes = LinesOfPacket form set number messages bytes
WritesLines form set number (refused messages place cause) bytes = LinesOfPacket form set number messages bytes
WritesLines form set number (sizeless place cause) bytes = bytes ≡ []

abbrev pub ShowsPackets : PacketMode → Form → TemplateList → ℕ → Reader → Reader → Outputs → Outputs → Result RecordingSummary RecordingFault → Type 0
ShowsPackets mode form set turns from now old new result =
    RecordsBy mode.keep_going mode.level (templates_in set) (WritesLines form set) turns from now old new result

-- ---- check and canon

-- the canonical bytes of an accepted packet behind their shortest size, and nothing of a refused one
abbrev pub WritesCanonical : TemplateList → Writing
WritesCanonical set = WritesMade unnumbered true IsCanonical (templates_in set)

-- a check writes nothing, and counts what would be written
abbrev pub ChecksPackets : PacketMode → TemplateList → ℕ → Reader → Reader → Option (List ℕ) → Option (List ℕ) → Result RecordingSummary RecordingFault → Type 0
ChecksPackets mode set turns from now told_old told_new result =
    RecordsBy mode.keep_going mode.level (templates_in set) (WritesCanonical set) turns from now (outputs None told_old) (outputs None told_new) result

-- The recording carries packets, and their canonical recording was written, which is no more bytes than those read.
pub record EndsCanonical (why : Why) (level : Level) (set : TemplateList) (taken_old taken_new : Option (List ℕ)) (input : List ℕ) (summary : RecordingSummary) : Type 0 where
  pub packets : List (List Content)
  pub out : List ℕ
  pub carried : CarriesPackets level (templates_in set) input packets
  pub canonical : IsCanonicalRecording (templates_in set) packets out
  pub written : Appends taken_old taken_new out
  pub ended : why.Ended
  pub counts : summary ≡ record {
    packets = length packets;
    refused = 0;
    messages = messages_in (map accepted packets);
    read = length input;
    written = length out;
  }
  pub no_longer : length out ≤ length input

-- The recording is refused: the canonical recording of the packets before was written. Truncated comes only where the reader
-- has ended.
pub record StopsCanonical (why : Why) (level : Level) (set : TemplateList) (taken_old taken_new : Option (List ℕ)) (input : List ℕ) (f : PacketFault) : Type 0 where
  pub refusal : FirstRefusal level (templates_in set) input f.packet f.fault
  pub out : List ℕ
  pub canonical : IsCanonicalRecording (templates_in set) refusal.packets out
  pub written : Appends taken_old taken_new out
  pub ended : f.fault.cause ≡ Cause.Truncated → why.Ended

abbrev pub CanonicalisesAs : Why → Level → TemplateList → Option (List ℕ) → Option (List ℕ) → List ℕ → Result RecordingSummary RecordingFault → Type 0
CanonicalisesAs why level set taken_old taken_new input (Ok summary) = EndsCanonical why level set taken_old taken_new input summary
CanonicalisesAs why level set taken_old taken_new input (Err (RecordingFault.Packet f)) =
    StopsCanonical why level set taken_old taken_new input f
    ⊎ RecordsCut why false level (templates_in set) (WritesCanonical set) (outputs taken_old None) (outputs taken_new None) input f
CanonicalisesAs why level set taken_old taken_new input (Err RecordingFault.Tell) = ⊥
CanonicalisesAs why level set taken_old taken_new input (Err e) =
    RecordsFront false level (templates_in set) (WritesCanonical set) (outputs taken_old None) (outputs taken_new None) input

abbrev pub CanonicalisesPackets : Level → TemplateList → ℕ → Reader → Reader → Option (List ℕ) → Option (List ℕ) → Result RecordingSummary RecordingFault → Type 0
CanonicalisesPackets level set turns from now taken_old taken_new result =
    (count : ℕ) × (input : List ℕ) × Reads from now count input × (count ≤ turns)
    × CanonicalisesAs (by_reader (IsUsedUp turns count input) from now) level set taken_old taken_new input result
