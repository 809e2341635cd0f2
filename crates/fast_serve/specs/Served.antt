-- What the program did, by what its files and its input gave and what its output took. How it answers is the project's
-- own.
use Rattle.std.specs.Prelude.{◌≡◌, ◌⊎◌, ◌&&◌, not, ℕ, ◌≤◌, ◌++◌, List, [], ◌∷◌, Bool, true, false, Option, None, Some, Result, Ok, Err, IsErr, IsErrAnd, IsUtf8}
use Rattle.std.specs.Io.KnownBytes.{Appends}
use Rattle.hex.specs.Hex.{decode_of, encode_lower}
use Rattle.serde_json.specs.Data.{Data}
use Rattle.serde_json.specs.Read.{read}
use Rattle.fast_io.specs.Counts.{counted}
use Rattle.fast_io.specs.Traffic.{Taken}
use Rattle.fast_load.specs.JsonLoads.{IsNoText, Loads}
use Rattle.fast_written.specs.JsonTemplates.{templates_of}
use Rattle.fast_template.specs.TemplateSets.{TemplateList}
use Rattle.fast_written.specs.declared.fault.LoadFault.{LoadFault}
use Rattle.fast_machine.specs.Inputs.{Reader, Reads}
use Rattle.fast_pass.specs.Passed.{FlushesOnce, IsCausedBy, errors_after}
use Rattle.fast_pass.specs.declared.fault.CanonFault.{CanonFault}
use Rattle.fast_pass.specs.declared.summary.Summary.{Summary}
use Rattle.fast_host.specs.HexText.{digits_of}
use Rattle.fast_host.specs.Input.{GivesNoText, IsText}
use Rattle.fast_host.specs.Refusals.{IsOfLoad, IsOfRun, IsOfStream, IsTextOrMemory, of_template_text_lem, of_text_lem, status_of, text_of}
use Rattle.fast_host.specs.Devices.{Inputs, IsReadFrom, IsUnopened, Writer, input_of}
use Rattle.fast_command.specs.Run.{Runs}
use Rattle.fast_command.specs.RunPackets.{RunsPackets}
use Rattle.fast_lines.specs.declared.form.Form.{Form}
use Rattle.fast_lines.specs.declared.form.Form.TheVariants.{Text}
use Rattle.fast_stream.specs.declared.mode.Mode.{Mode}
use Rattle.fast_recording.specs.Calls.{CanonicalisesPackets}
use Rattle.fast_recording.specs.Recorded.{outputs, tells_failed, writes_failed}
use Rattle.fast_recording.specs.Recorded.{FlushesOnce as FlushesRecording}
use Rattle.fast_recording.specs.declared.fault.RecordingFault.{RecordingFault}
use Rattle.fast_recording.specs.declared.mode.PacketMode.{PacketMode}
use Rattle.fast_recording.specs.declared.summary.RecordingSummary.{RecordingSummary}
use Rattle.fast_request.specs.CommandLine.{Asked, AsksFor}
use Rattle.fast_request.specs.declared.request.Task.{Task}
use Rattle.fast_command.specs.declared.command.Command.{Command}
use Rattle.fast_command.specs.declared.command.Command.TheVariants.{Canon}
use Rattle.fast_host.specs.declared.input.TextFault.{TextFault}
use Rattle.fast_host.specs.declared.refusal.Refusal.{Refusal}
use Rattle.fast_write.specs.Packets.{FlushesIn, WritesPackets}
use Rattle.fast_write.specs.Written.{Writes, errors_behind}
use Rattle.fast_write.specs.Written.{FlushesOnce as FlushesWritten}
use Rattle.fast_write.specs.Written.{IsCausedBy as IsWriteCausedBy}
use Rattle.fast_write.specs.declared.fault.WriteFault.{WriteFault}
use Rattle.fast_write.specs.declared.summary.WrittenSummary.{WrittenSummary}
use Rattle.fast_serve.specs.Lines.{IsOfWriting, form_by}
use Rattle.fast_serve.specs.Packets.{IsOfPacket, IsOfRecording, ended_of}
use Rattle.fast_serve.specs.declared.ended.Ended.{Ended}

abbrev pub Answer : Type 0
Answer = Result Ended Refusal

-- ---- an input that is read whole

-- so many reads gave these bytes, no more than are allowed
pub record ReadsUpTo (turns count : ℕ) (old new : Reader) (got : List ℕ) : Type 0 where
  pub reads : Reads old new count got
  pub bounded : count ≤ turns

-- the text was read whole
pub record HasText (turns : ℕ) (old new : Reader) (text : List ℕ) : Type 0 where
  pub count : ℕ
  pub read : ReadsUpTo turns count old new text
  pub whole : IsText text text new.left

-- no text was read whole
pub record HasNoText (turns : ℕ) (old new : Reader) (why : TextFault) : Type 0 where
  pub count : ℕ
  pub got : List ℕ
  pub read : ReadsUpTo turns count old new got
  pub fails : GivesNoText why turns count got old new

-- ---- templates

-- what loading a text answers, whether or not it is UTF-8 and JSON
abbrev pub LoadsText : List ℕ → Result TemplateList LoadFault → Type 0
LoadsText text result =
    ((d : Data) → IsUtf8 text → read text ≡ Some d → Loads (templates_of d) result)
    × (¬ (IsUtf8 text) → IsNoText result)
    × (read text ≡ None → IsNoText result)

-- a reader of these bytes gave a text, and the text is one of this set
pub record LoadsSet (left : Option (List ℕ)) (turns : ℕ) (set : TemplateList) : Type 0 where
  pub old : Reader
  pub new : Reader
  pub text : List ℕ
  pub begins : old.left ≡ left
  pub read : HasText turns old new text
  pub loads : LoadsText text (Ok set)

-- why templates are not served: their text was not read whole, or is refused
abbrev pub RefusesText : ℕ → Reader → Reader → Refusal → Type 0
RefusesText turns old new r =
    ((why : TextFault) × HasNoText turns old new why × (r ≡ of_template_text_lem why))
    ⊎ ((text : List ℕ) × (fault : LoadFault) × HasText turns old new text × LoadsText text (Err fault) × IsOfLoad fault r)

-- or they stand in a file, which could not be opened
abbrev pub RefusesTemplates : Inputs → Inputs → Option (List ℕ) → ℕ → Refusal → Type 0
RefusesTemplates inputs_old inputs_new name turns r =
    (IsUnopened inputs_old inputs_new name × (r ≡ Refusal.Open))
    ⊎ ((old : Reader) × (new : Reader) × IsReadFrom inputs_old inputs_new name old new × RefusesText turns old new r)

-- ---- a run in plain bytes

-- what is answered of a run
abbrev pub AnswersRun : Result Summary CanonFault → Answer → Type 0
AnswersRun (Ok summary) r = r ≡ Ok Ended.Accepted
AnswersRun (Err f) r = IsErrAnd r (IsOfRun f)

-- a command was run from the bytes read to those written
pub record RunsPlain (command : Command) (mode : Mode) (form : Form) (set : TemplateList) (turns : ℕ) (in_old in_new : Reader) (out_old out_new : Writer) (r : Answer) : Type 0 where
  pub count : ℕ
  pub input : List ℕ
  pub answer : Result Summary CanonFault
  pub read : ReadsUpTo turns count in_old in_new input
  pub ran : Runs command mode form set turns in_new.left out_old.taken out_new.taken input answer
  pub caused : IsCausedBy answer (count ≡ turns) in_old in_new
  pub write_failed : out_new.errors ≡ errors_after answer out_old.errors
  pub flushed : FlushesOnce answer out_old.flushes out_new.flushes
  pub answered : AnswersRun answer r

-- ---- a run in hex text

-- a text was written and flushed
abbrev pub WritesText : Writer → Writer → List ℕ → Type 0
WritesText old new text =
    Appends old.taken new.taken text × (new.errors ≡ old.errors) × (new.flushes ≡ counted old.flushes)

-- a call of the writer failed, and a front of a text was written
abbrev pub WritesFront : Writer → Writer → List ℕ → Type 0
WritesFront old new text = (rest : List ℕ) × Taken old.taken new.taken text rest × (new.errors ≡ counted old.errors)

-- bytes as a line of hex
abbrev pub line_of_hex : List ℕ → List ℕ
line_of_hex bytes = encode_lower bytes ++ 10 ∷ []

-- bytes were written as a line of hex and flushed, or the output failed, or memory did before anything was written
abbrev pub WritesHex : Writer → Writer → List ℕ → Answer → Type 0
WritesHex old new bytes r =
    ((r ≡ Ok Ended.Accepted) × WritesText old new (line_of_hex bytes))
    ⊎ ((r ≡ Err Refusal.Write) × WritesFront old new (line_of_hex bytes))
    ⊎ ((r ≡ Err Refusal.Memory) × (new ≡ old))

-- what is answered of a run in memory that wrote these bytes
abbrev pub AnswersInHex : Writer → Writer → List ℕ → Result Summary CanonFault → Answer → Type 0
AnswersInHex old new bytes (Ok summary) r = WritesHex old new bytes r
AnswersInHex old new bytes (Err (CanonFault.Stream f)) r =
    (WritesText old new (line_of_hex bytes) × IsErrAnd r (IsOfStream f))
    ⊎ ((r ≡ Err Refusal.Write) × WritesFront old new (line_of_hex bytes))
    ⊎ ((r ≡ Err Refusal.Memory) × (new ≡ old))
AnswersInHex old new bytes (Err CanonFault.Write) r = (r ≡ Err Refusal.Memory) × (new ≡ old)
AnswersInHex old new bytes (Err CanonFault.Memory) r = (r ≡ Err Refusal.Memory) × (new ≡ old)

-- the canonical bytes of a stream in memory were written as a line of hex
pub record CanonInHex (mode : Mode) (set : TemplateList) (turns : ℕ) (stream : List ℕ) (old new : Writer) (r : Answer) : Type 0 where
  pub input : List ℕ
  pub count : ℕ
  pub in_old : Reader
  pub in_new : Reader
  pub bytes : List ℕ
  pub answer : Result Summary CanonFault
  pub begins : in_old.left ≡ Some stream
  pub read : ReadsUpTo turns count in_old in_new input
  pub ran : Runs Canon mode Text set turns in_new.left (Some []) (Some bytes) input answer
  pub answered : AnswersInHex old new bytes answer r

-- ---- a recording

-- what is answered of a recording
abbrev pub AnswersRecording : Result RecordingSummary RecordingFault → Answer → Type 0
AnswersRecording (Ok summary) r = r ≡ Ok (ended_of summary.refused)
AnswersRecording (Err f) r = IsErrAnd r (IsOfRecording f)

-- a command was run over a recording, from the bytes read to those written and those told
pub record RunsRecording (command : Command) (mode : PacketMode) (form : Form) (set : TemplateList) (turns : ℕ) (in_old in_new : Reader) (out_old out_new err_old err_new : Writer) (r : Answer) : Type 0 where
  pub answer : Result RecordingSummary RecordingFault
  pub ran : RunsPackets command mode form set turns in_old in_new (outputs out_old.taken err_old.taken) (outputs out_new.taken err_new.taken) answer
  pub write_failed : out_new.errors ≡ writes_failed answer out_old.errors
  pub tell_failed : err_new.errors ≡ tells_failed answer err_old.errors
  pub flushed : FlushesRecording answer out_old.flushes out_new.flushes
  pub answered : AnswersRecording answer r

-- what is answered of a recording in memory of which these bytes were written
abbrev pub AnswersRecordingInHex : Writer → Writer → List ℕ → Result RecordingSummary RecordingFault → Answer → Type 0
AnswersRecordingInHex old new bytes (Ok summary) r = WritesHex old new bytes r
AnswersRecordingInHex old new bytes (Err (RecordingFault.Packet f)) r =
    (WritesText old new (line_of_hex bytes) × IsErrAnd r (IsOfPacket f))
    ⊎ ((r ≡ Err Refusal.Write) × WritesFront old new (line_of_hex bytes))
    ⊎ ((r ≡ Err Refusal.Memory) × (new ≡ old))
AnswersRecordingInHex old new bytes (Err e) r = (r ≡ Err Refusal.Memory) × (new ≡ old)

-- the canonical recording of one in memory was written as a line of hex
pub record CanonRecordingInHex (mode : PacketMode) (set : TemplateList) (turns : ℕ) (recording : List ℕ) (old new : Writer) (r : Answer) : Type 0 where
  pub in_old : Reader
  pub in_new : Reader
  pub bytes : List ℕ
  pub answer : Result RecordingSummary RecordingFault
  pub begins : in_old.left ≡ Some recording
  pub ran : CanonicalisesPackets mode.level set turns in_old in_new (Some []) (Some bytes) answer
  pub answered : AnswersRecordingInHex old new bytes answer r

-- ---- lines

-- what is answered of lines
abbrev pub AnswersLines : Result WrittenSummary WriteFault → Answer → Type 0
AnswersLines (Ok summary) r = r ≡ Ok Ended.Accepted
AnswersLines (Err f) r = IsErrAnd r (IsOfWriting f)

-- the canonical bytes of the messages that lines stand for were written, as they are or as a line of hex
pub record RunsLines (hex : Bool) (set : TemplateList) (turns : ℕ) (in_old in_new : Reader) (out_old out_new : Writer) (r : Answer) : Type 0 where
  pub count : ℕ
  pub input : List ℕ
  pub answer : Result WrittenSummary WriteFault
  pub read : ReadsUpTo turns count in_old in_new input
  pub wrote : Writes (form_by hex) set in_new.left out_old.taken out_new.taken input answer
  pub caused : IsWriteCausedBy answer (count ≡ turns) in_old in_new
  pub write_failed : out_new.errors ≡ errors_behind answer out_old.errors
  pub flushed : FlushesWritten answer out_old.flushes out_new.flushes
  pub answered : AnswersLines answer r

-- likewise the canonical recording of the packets of lines that say theirs
pub record RunsPacketLines (hex : Bool) (set : TemplateList) (turns : ℕ) (in_old in_new : Reader) (out_old out_new : Writer) (r : Answer) : Type 0 where
  pub count : ℕ
  pub input : List ℕ
  pub answer : Result WrittenSummary WriteFault
  pub read : ReadsUpTo turns count in_old in_new input
  pub wrote : WritesPackets (form_by hex) set in_new.left out_old.taken out_new.taken input answer
  pub caused : IsWriteCausedBy answer (count ≡ turns) in_old in_new
  pub write_failed : out_new.errors ≡ errors_behind answer out_old.errors
  pub flushed : FlushesIn answer out_old.flushes out_new.flushes
  pub answered : AnswersLines answer r

-- ---- a task

-- what was done of an input's bytes; standard error is told of refused packets alone
abbrev pub RunsTask : Task → Bool → Form → TemplateList → ℕ → Reader → Reader → Writer → Writer → Writer → Writer → Answer → Type 0
RunsTask (Task.Stream command mode) hex form set turns in_old in_new out_old out_new err_old err_new r =
    RunsPlain command mode form set turns in_old in_new out_old out_new r × (err_new ≡ err_old)
RunsTask (Task.Recording command mode) hex form set turns in_old in_new out_old out_new err_old err_new r =
    RunsRecording command mode form set turns in_old in_new out_old out_new err_old err_new r
RunsTask (Task.Write false) hex form set turns in_old in_new out_old out_new err_old err_new r =
    RunsLines hex set turns in_old in_new out_old out_new r × (err_new ≡ err_old)
RunsTask (Task.Write true) hex form set turns in_old in_new out_old out_new err_old err_new r =
    RunsPacketLines hex set turns in_old in_new out_old out_new r × (err_new ≡ err_old)

-- a task was done of bytes in memory
abbrev pub RunsInMemory : Task → Bool → Form → TemplateList → ℕ → List ℕ → Writer → Writer → Writer → Writer → Answer → Type 0
RunsInMemory task hex form set turns bytes out_old out_new err_old err_new r =
    (in_old : Reader) × (in_new : Reader) × (in_old.left ≡ Some bytes) × RunsTask task hex form set turns in_old in_new out_old out_new err_old err_new r

-- what was done of bytes in hex text
abbrev pub PerformsInHex : Task → Bool → Form → TemplateList → ℕ → List ℕ → Writer → Writer → Writer → Writer → Answer → Type 0
PerformsInHex (Task.Stream Canon mode) hex form set turns bytes out_old out_new err_old err_new r = CanonInHex mode set turns bytes out_old out_new r × (err_new ≡ err_old)
PerformsInHex (Task.Recording Canon mode) hex form set turns bytes out_old out_new err_old err_new r = CanonRecordingInHex mode set turns bytes out_old out_new r × (err_new ≡ err_old)
PerformsInHex task hex form set turns bytes out_old out_new err_old err_new r = RunsInMemory task hex form set turns bytes out_old out_new err_old err_new r

-- why an input gives no bytes of hex text: it was not read whole, or is no hex, or there was no memory
abbrev pub RefusesHex : ℕ → Reader → Reader → Refusal → Type 0
RefusesHex turns old new r =
    ((why : TextFault) × HasNoText turns old new why × (r ≡ of_text_lem why))
    ⊎ ((text : List ℕ) × HasText turns old new text × (((r ≡ Refusal.NotHex) × IsErr (decode_of (digits_of text))) ⊎ (r ≡ Refusal.Memory)))

-- the whole input is hex text of these bytes
abbrev pub ReadsHex : ℕ → Reader → Reader → List ℕ → Type 0
ReadsHex turns old new bytes = (text : List ℕ) × HasText turns old new text × (decode_of (digits_of text) ≡ Ok bytes)

-- the input is no hex text, and nothing was written; or it is that of bytes, of which this was done
abbrev pub PerformsHexText : Task → Bool → Form → TemplateList → ℕ → Reader → Reader → Writer → Writer → Writer → Writer → Answer → Type 0
PerformsHexText task hex form set turns in_old in_new out_old out_new err_old err_new r =
    (IsErrAnd r (RefusesHex turns in_old in_new) × (out_new ≡ out_old) × (err_new ≡ err_old))
    ⊎ ((bytes : List ℕ) × ReadsHex turns in_old in_new bytes × PerformsInHex task hex form set turns bytes out_old out_new err_old err_new r)

-- ---- what is asked for

-- lines are to be written
abbrev pub is_written : Task → Bool
is_written (Task.Write packets) = true
is_written task = false

-- a task over an input that is read as hex text, or as it is
abbrev pub PerformsBy : Bool → Bool → Task → Form → TemplateList → ℕ → Reader → Reader → Writer → Writer → Writer → Writer → Answer → Type 0
PerformsBy true hex task form set turns in_old in_new out_old out_new err_old err_new r =
    PerformsHexText task hex form set turns in_old in_new out_old out_new err_old err_new r
PerformsBy false hex task form set turns in_old in_new out_old out_new err_old err_new r =
    RunsTask task hex form set turns in_old in_new out_old out_new err_old err_new r

-- a task over an input in plain bytes, or in hex text; lines are never hex text
abbrev pub PerformsOver : Bool → Task → Form → TemplateList → ℕ → Reader → Reader → Writer → Writer → Writer → Writer → Answer → Type 0
PerformsOver hex task form set turns in_old in_new out_old out_new err_old err_new r =
    PerformsBy (hex && not (is_written task)) hex task form set turns in_old in_new out_old out_new err_old err_new r

-- with templates that are loaded: the input's file could not be opened, or it was opened at its beginning
abbrev pub PerformsWith : Asked → TemplateList → Inputs → Inputs → ℕ → Writer → Writer → Writer → Writer → Answer → Type 0
PerformsWith asked set inputs_old inputs_new turns out_old out_new err_old err_new r =
    (IsUnopened inputs_old inputs_new asked.input × (r ≡ Err Refusal.Open) × (out_new ≡ out_old) × (err_new ≡ err_old))
    ⊎ ((in_old : Reader) × (in_new : Reader) × IsReadFrom inputs_old inputs_new asked.input in_old in_new
    × PerformsOver asked.hex asked.task asked.form set turns in_old in_new out_old out_new err_old err_new r)

-- the templates are refused, and nothing was written; or they are loaded
abbrev pub PerformsAsked : Asked → Inputs → Inputs → ℕ → Writer → Writer → Writer → Writer → Answer → Type 0
PerformsAsked asked inputs_old inputs_new turns out_old out_new err_old err_new r =
    (IsErrAnd r (RefusesTemplates inputs_old inputs_new asked.templates turns) × (out_new ≡ out_old) × (err_new ≡ err_old))
    ⊎ ((set : TemplateList) × LoadsSet (input_of inputs_old asked.templates) turns set × PerformsWith asked set inputs_old inputs_new turns out_old out_new err_old err_new r)

-- the command line is refused, and this was left untouched; or it asks for something
abbrev pub Performs : List (List ℕ) → Inputs → Inputs → ℕ → Type 0 → Writer → Writer → Writer → Writer → Answer → Type 0
Performs words inputs_old inputs_new turns Untouched out_old out_new err_old err_new r =
    (IsErrAnd r IsTextOrMemory × Untouched × (err_new ≡ err_old))
    ⊎ ((asked : Asked) × AsksFor words asked × PerformsAsked asked inputs_old inputs_new turns out_old out_new err_old err_new r)

-- ---- what is said

-- the exit status of what was done
abbrev pub status_after : Answer → ℕ
status_after (Ok Ended.Accepted) = 0
status_after (Ok Ended.WithRefusals) = 1
status_after (Err r) = status_of r

-- a text was written and flushed, or a call failed behind a front of it
abbrev pub SaysText : Writer → Writer → List ℕ → Type 0
SaysText old new text = WritesText old new text ⊎ WritesFront old new text

-- what is said, behind what was told, of what was done: nothing where it was done, and else the refusal's text, and where it is explained more
-- behind it, unless a call failed
abbrev pub Says : Bool → Writer → Writer → Answer → Type 0
Says explain old new (Ok done) = new ≡ old
Says explain old new (Err r) = (more : List ℕ) × (explain ≡ false → more ≡ []) × SaysText old new (text_of r ++ more)

-- the words ask for an explanation
abbrev pub AsksToExplain : List (List ℕ) → Type 0
AsksToExplain words = (asked : Asked) × AsksFor words asked × (asked.explain ≡ true)

-- it is explained only where the words ask for it
abbrev pub SaysAsked : List (List ℕ) → Writer → Writer → Answer → Type 0
SaysAsked words old new r = (explain : Bool) × (explain ≡ true → AsksToExplain words) × Says explain old new r
