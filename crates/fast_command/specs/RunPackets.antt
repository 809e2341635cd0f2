-- What a command writes of a recording of packets, and what its run answers (our own).
use Rattle.std.specs.Prelude.{◌≡◌, ◌⊎◌, ℕ, nat_eq, if◌then◌else◌, List, [], ◌++◌, codes, decimal, Result, Ok, Err}
use Rattle.std.specs.Io.KnownBytes.{Appends}
use Rattle.fast_machine.specs.Inputs.{Reader}
use Rattle.fast_template.specs.TemplateSets.{TemplateList}
use Rattle.fast_lines.specs.declared.form.Form.{Form}
use Rattle.fast_recording.specs.Calls.{CanonicalisesPackets, ChecksPackets, ShowsPackets}
use Rattle.fast_recording.specs.Recorded.{Outputs}
use Rattle.fast_recording.specs.declared.fault.RecordingFault.{RecordingFault}
use Rattle.fast_recording.specs.declared.mode.PacketMode.{PacketMode}
use Rattle.fast_recording.specs.declared.summary.RecordingSummary.{RecordingSummary}
use Rattle.fast_command.specs.declared.command.Command.{Command}
use Rattle.fast_command.specs.declared.command.Command.TheVariants.{Show, Check, Canon}

-- ---- check

-- the packets, the messages, the bytes read and the canonical bytes of a recording that is accepted
abbrev pub accepted_line : RecordingSummary → List ℕ
accepted_line s =
    codes "ok packets=" ++ decimal s.packets ++ codes " messages=" ++ decimal s.messages ++ codes " bytes=" ++ decimal s.read
    ++ codes " canonical=" ++ decimal s.written ++ codes "\n"

-- and of one with packets that are refused, how many these are
abbrev pub refused_line : RecordingSummary → List ℕ
refused_line s =
    codes "packets=" ++ decimal s.packets ++ codes " refused=" ++ decimal s.refused ++ codes " messages=" ++ decimal s.messages
    ++ codes " bytes=" ++ decimal s.read ++ codes " canonical=" ++ decimal s.written ++ codes "\n"

-- what a check of a recording says
abbrev pub packets_line : RecordingSummary → List ℕ
packets_line s = if nat_eq s.refused 0 then accepted_line s else refused_line s

-- A write failed or memory was refused: a front was written of what a check says, and nothing where there is none.
pub record TellsFront (mode : PacketMode) (set : TemplateList) (turns : ℕ) (from now : Reader) (old new : Outputs) : Type 0 where
  pub checked : Result RecordingSummary RecordingFault
  pub checks : ChecksPackets mode set turns from now old.told new.told checked
  pub front : List ℕ
  pub line : (front ≡ []) ⊎ ((summary : RecordingSummary) × (rest : List ℕ) × (checked ≡ Ok summary) × (packets_line summary ≡ front ++ rest))
  pub written : Appends old.taken new.taken front

abbrev pub TellsPackets : PacketMode → TemplateList → ℕ → Reader → Reader → Outputs → Outputs → Result RecordingSummary RecordingFault → Type 0
TellsPackets mode set turns from now old new (Ok summary) =
    ChecksPackets mode set turns from now old.told new.told (Ok summary) × Appends old.taken new.taken (packets_line summary)
TellsPackets mode set turns from now old new (Err (RecordingFault.Packet f)) =
    ChecksPackets mode set turns from now old.told new.told (Err (RecordingFault.Packet f)) × Appends old.taken new.taken []
TellsPackets mode set turns from now old new (Err RecordingFault.Tell) =
    ChecksPackets mode set turns from now old.told new.told (Err RecordingFault.Tell) × Appends old.taken new.taken []
TellsPackets mode set turns from now old new (Err e) = TellsFront mode set turns from now old new

-- ---- a command

-- canon does not go on behind a refused packet, and so tells of none
abbrev pub RunsPackets : Command → PacketMode → Form → TemplateList → ℕ → Reader → Reader → Outputs → Outputs → Result RecordingSummary RecordingFault → Type 0
RunsPackets Show mode form set turns from now old new r = ShowsPackets mode form set turns from now old new r
RunsPackets Check mode form set turns from now old new r = TellsPackets mode set turns from now old new r
RunsPackets Canon mode form set turns from now old new r =
    CanonicalisesPackets mode.level set turns from now old.taken new.taken r × (new.told ≡ old.told)
