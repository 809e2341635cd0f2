-- What a call did with a template text, a stream and the room that C lent it.
use Rattle.std.specs.Prelude.{◌≡◌, ◌≢◌, ◌⊎◌, ◌<◌, ◌≤◌, ◌^◌, ℕ, List, length, Option, None, Some, ◌+◌, Result, Ok, Err, IsErrAnd, IsSome, IsUtf8}
use Rattle.serde_json.specs.Data.{Data}
use Rattle.serde_json.specs.Read.{read}
use Rattle.fast_wire.specs.declared.level.Level.{Level}
use Rattle.fast_template.specs.Resolved.{Resolved}
use Rattle.fast_template.specs.TemplateSets.{IsSound, TemplateList, templates_in}
use Rattle.fast_written.specs.declared.fault.LoadCause.{LoadCause}
use Rattle.fast_written.specs.declared.fault.LoadFault.{LoadFault}
use Rattle.fast_written.specs.JsonTemplates.{templates_of}
use Rattle.fast_load.specs.JsonLoads.{IsNoText, Loads}
use Rattle.fast_stream.specs.declared.fault.Cause.{Cause}
use Rattle.fast_stream.specs.declared.fault.Fault.{Fault}
use Rattle.fast_stream.specs.declared.mode.Mode.{Mode}
use Rattle.fast_stream.specs.Modes.{Carries, FirstFault}
use Rattle.fast_stream.specs.Nodes.{Content}
use Rattle.fast_machine.specs.Standing.{Carried}
use Rattle.fast_writer.specs.Canonical.{IsCanonical}
use Rattle.fast_pass.specs.Relays.{Making}
use Rattle.fast_pass.specs.declared.fault.CanonFault.{CanonFault}
use Rattle.fast_pass.specs.declared.summary.Summary.{Summary}
use Rattle.fast_command.specs.Run.{LinesOf}
use Rattle.fast_command.specs.declared.command.Command.{Command}
use Rattle.fast_command.specs.declared.command.Command.TheVariants.{Show, Check, Canon}
use Rattle.fast_io.specs.Counts.{counted_by}
use Rattle.fast_lines.specs.declared.form.Form.{Form}
use Rattle.fast_recording.specs.Calls.{WritesCanonical, WritesLines}
use Rattle.fast_slices.specs.Answers.{no_counts}
use Rattle.fast_slices.specs.Packets.{CountsPackets, WritesPackets}
use Rattle.fast_slices.specs.Rooms.{Puts}
use Rattle.fast_slices.specs.Ways.{way_of}
use Rattle.fast_slices.specs.declared.answer.Counts.{Counts}
use Rattle.fast_slices.specs.declared.answer.Refusal.{Refusal}
use Rattle.fast_slices.specs.declared.way.Reading.{Reading}
use Rattle.fast_slices.specs.declared.way.Way.{Way}

-- what is answered of a stream, and of a call
abbrev pub StreamDone : Type 0
StreamDone = Result Summary Refusal

abbrev pub Done : Type 0
Done = Result Counts Refusal

-- a stream has no packets
abbrev pub of_stream : StreamDone → Done
of_stream (Ok s) = Ok (record { packets = 0; messages = s.messages; read = s.read; written = s.written })
of_stream (Err r) = Err r

-- what loading a text answers, whether or not it is UTF-8 and JSON
abbrev pub LoadsText : List ℕ → Result TemplateList LoadFault → Type 0
LoadsText text result =
    ((d : Data) → IsUtf8 text → read text ≡ Some d → Loads (templates_of d) result)
    × (¬ (IsUtf8 text) → IsNoText result)
    × (read text ≡ None → IsNoText result)

-- why there are no templates of a text
abbrev pub RefusesText : List ℕ → Refusal → Type 0
RefusesText text r =
    (r ≡ Refusal.Memory) ⊎ ((fault : LoadFault) × (r ≡ Refusal.Templates fault) × (fault.cause ≢ LoadCause.Memory) × LoadsText text (Err fault))

-- ---- the room

-- what is answered of a run that wrote these bytes, and what becomes of the room
abbrev pub Settles : Result Summary CanonFault → List ℕ → List ℕ → List ℕ → StreamDone → Type 0
Settles ran bytes old new (Ok summary) = (ran ≡ Ok summary) × Puts bytes old new
Settles ran bytes old new (Err (Refusal.Stream fault written)) =
    (ran ≡ Err (CanonFault.Stream fault)) × (fault.cause ≢ Cause.Memory) × (written ≡ length bytes) × Puts bytes old new
Settles ran bytes old new (Err Refusal.Memory) = new ≡ old
Settles ran bytes old new r = ⊥

-- ---- a stream

-- The stream carries the messages to its end; what is made of them is in the room's front, and all is counted.
pub record WritesAll (makes : Making) (mode : Mode) (set : List Resolved) (stream old new : List ℕ) (summary : Summary) : Type 0 where
  pub messages : List Content
  pub bytes : List ℕ
  pub carries : Carries mode set stream messages
  pub made : makes set messages bytes
  pub put : Puts bytes old new
  pub counts : summary ≡ record { messages = length messages; read = length stream; written = length bytes }

-- a prefix of the stream carries the messages, and behind them is the stream's first fault
pub record IsRefused (mode : Mode) (set : List Resolved) (stream : List ℕ) (messages : List Content) (fault : Fault) : Type 0 where
  pub carried : Carried mode set stream messages
  pub behind : fault.place.message ≡ length messages + 1
  pub refused : FirstFault mode set stream fault.place fault.cause

-- The stream is refused; what is made of the messages before the fault is in the room's front.
pub record WritesBefore (makes : Making) (mode : Mode) (set : List Resolved) (stream old new : List ℕ) (fault : Fault) (written : ℕ) : Type 0 where
  pub messages : List Content
  pub bytes : List ℕ
  pub refused : IsRefused mode set stream messages fault
  pub made : makes set messages bytes
  pub put : Puts bytes old new
  pub count : written ≡ length bytes

-- So many bytes are made of the messages that the stream carries; or it is refused, and no clause says how many are made of
-- those before its fault.
abbrev pub Needs : Making → Mode → List Resolved → List ℕ → ℕ → Type 0
Needs makes mode set stream needed =
    ((messages : List Content) × (bytes : List ℕ) × Carries mode set stream messages × makes set messages bytes × (needed ≡ counted_by 0 (length bytes)))
    ⊎ ((messages : List Content) × (fault : Fault) × IsRefused mode set stream messages fault)

-- how many bytes a command writes of a stream
abbrev pub Measures : Command → Mode → Form → TemplateList → List ℕ → Refusal → Type 0
Measures Show mode form set stream (Refusal.Room needed) = Needs (LinesOf form set) mode (templates_in set) stream needed
Measures Canon mode form set stream (Refusal.Room needed) = Needs IsCanonical mode (templates_in set) stream needed
Measures Check mode form set stream (Refusal.Room needed) = Unit {0}
Measures command mode form set stream Refusal.Memory = Unit {0}
Measures command mode form set stream r = ⊥

-- A prefix of the stream carries messages of which more is made than the room holds, and the room stays.
pub record Overflows (makes : Making) (mode : Mode) (set : List Resolved) (stream old new : List ℕ) (needed : ℕ) : Type 0 where
  pub messages : List Content
  pub bytes : List ℕ
  pub carried : Carried mode set stream messages
  pub made : makes set messages bytes
  pub longer : length old < length bytes
  pub same : new ≡ old
  pub needs : Needs makes mode set stream needed

-- what is answered of a stream of which something is written
abbrev pub Writes : Making → Mode → List Resolved → List ℕ → List ℕ → List ℕ → StreamDone → Type 0
Writes makes mode set stream old new (Ok summary) = WritesAll makes mode set stream old new summary
Writes makes mode set stream old new (Err (Refusal.Stream fault written)) = WritesBefore makes mode set stream old new fault written
Writes makes mode set stream old new (Err (Refusal.Room needed)) = Overflows makes mode set stream old new needed
Writes makes mode set stream old new (Err Refusal.Memory) = new ≡ old
Writes makes mode set stream old new r = ⊥

-- The stream carries the messages to its end; the bytes that are counted are their canonical ones, no more than its own.
pub record CountsAll (mode : Mode) (set : List Resolved) (stream : List ℕ) (summary : Summary) : Type 0 where
  pub messages : List Content
  pub bytes : List ℕ
  pub carries : Carries mode set stream messages
  pub canonical : IsCanonical set messages bytes
  pub counts : summary ≡ record { messages = length messages; read = length stream; written = length bytes }
  pub no_longer : length bytes ≤ length stream

-- what is answered of a stream that is checked
abbrev pub CountsStream : Mode → List Resolved → List ℕ → StreamDone → Type 0
CountsStream mode set stream (Ok summary) = CountsAll mode set stream summary
CountsStream mode set stream (Err (Refusal.Stream fault written)) = ((messages : List Content) × IsRefused mode set stream messages fault) × (written ≡ 0)
CountsStream mode set stream (Err Refusal.Memory) = Unit {0}
CountsStream mode set stream r = ⊥

-- ---- a call

-- what a call is given has these templates and this way, that its word stands for
pub record Prepares {A : Type 0} (asked : Option A) (text stream : List ℕ) (set : TemplateList) (way : A) : Type 0 where
  pub way_is : asked ≡ Some way
  pub few : length stream < 2 ^ 40
  pub loads : LoadsText text (Ok set)
  pub sound : IsSound set

-- this is asked for, of no more bytes than a call reads
abbrev pub Asks : {A : Type 0} → Option A → List ℕ → A → Type 0
Asks asked stream way = (asked ≡ Some way) × (length stream < 2 ^ 40)

-- What is asked for is not known, or else the stream is too long.
abbrev pub RefusesAsked : {A : Type 0} → Option A → List ℕ → Refusal → Type 0
RefusesAsked asked stream r = ((r ≡ Refusal.Mode) × (asked ≡ None)) ⊎ (IsSome asked × (r ≡ Refusal.TooLong) × (2 ^ 40 ≤ length stream))

-- The first that is not right is answered: the mode, the size of the stream, the templates.
abbrev pub RefusesCall : {A : Type 0} → Option A → List ℕ → List ℕ → Refusal → Type 0
RefusesCall asked text stream r = RefusesAsked asked stream r ⊎ (IsSome asked × (length stream < 2 ^ 40) × RefusesText text r)

-- The call is refused before the stream is looked at; or it was looked at with the templates of the text.
abbrev pub Calls : {A : Type 0} → Option A → (A → TemplateList → Done → Type 0) → Type 0 → List ℕ → List ℕ → Done → Type 0
Calls {A = A} asked Looks Stays text stream r =
    (IsErrAnd r (RefusesCall asked text stream) × Stays)
    ⊎ ((set : TemplateList) × (way : A) × Prepares asked text stream set way × Looks way set r)

-- The same of a call with a set of templates.
abbrev pub CallsOver : {A : Type 0} → Option A → (A → Done → Type 0) → Type 0 → List ℕ → Done → Type 0
CallsOver {A = A} asked Looks Stays stream r = (IsErrAnd r (RefusesAsked asked stream) × Stays) ⊎ ((way : A) × Asks asked stream way × Looks way r)

-- of a stream this was done, or of a recording
abbrev pub LooksAs : (Mode → StreamDone → Type 0) → (Level → Done → Type 0) → Reading → Done → Type 0
LooksAs OfStream OfRecording (Reading.Stream mode) r = (done : StreamDone) × (r ≡ of_stream done) × OfStream mode done
LooksAs OfStream OfRecording (Reading.Recording level) r = OfRecording level r

-- so a stream or a recording is canonicalised, shown and checked
abbrev pub CanonsBy : TemplateList → Way → List ℕ → List ℕ → List ℕ → Done → Type 0
CanonsBy set way stream old new = LooksAs (λ mode. Writes IsCanonical mode (templates_in set) stream old new) (λ level. WritesPackets (WritesCanonical set) level set stream old new) way.reading

abbrev pub ShowsBy : TemplateList → Way → List ℕ → List ℕ → List ℕ → Done → Type 0
ShowsBy set way stream old new = LooksAs (λ mode. Writes (LinesOf way.form set) mode (templates_in set) stream old new) (λ level. WritesPackets (WritesLines way.form set) level set stream old new) way.reading

abbrev pub ChecksBy : TemplateList → Way → List ℕ → Done → Type 0
ChecksBy set way stream = LooksAs (λ mode. CountsStream mode (templates_in set) stream) (λ level. CountsPackets level set stream) way.reading

-- with the templates of a text
abbrev pub Canons : List ℕ → ℕ → List ℕ → List ℕ → List ℕ → Done → Type 0
Canons text word stream old new r = Calls (way_of word) (λ way set. CanonsBy set way stream old new) (new ≡ old) text stream r

abbrev pub Shows : List ℕ → ℕ → List ℕ → List ℕ → List ℕ → Done → Type 0
Shows text word stream old new r = Calls (way_of word) (λ way set. ShowsBy set way stream old new) (new ≡ old) text stream r

abbrev pub Checks : List ℕ → ℕ → List ℕ → Done → Type 0
Checks text word stream r = Calls (way_of word) (λ way set. ChecksBy set way stream) (Unit {0}) text stream r

-- with a set
abbrev pub CanonsOver : TemplateList → ℕ → List ℕ → List ℕ → List ℕ → Done → Type 0
CanonsOver set word stream old new r = CallsOver (way_of word) (λ way. CanonsBy set way stream old new) (new ≡ old) stream r

abbrev pub ShowsOver : TemplateList → ℕ → List ℕ → List ℕ → List ℕ → Done → Type 0
ShowsOver set word stream old new r = CallsOver (way_of word) (λ way. ShowsBy set way stream old new) (new ≡ old) stream r

abbrev pub ChecksOver : TemplateList → ℕ → List ℕ → Done → Type 0
ChecksOver set word stream r = CallsOver (way_of word) (λ way. ChecksBy set way stream) (Unit {0}) stream r

-- the text has templates, or is refused
abbrev pub ChecksText : List ℕ → Done → Type 0
ChecksText text (Ok counts) = (counts ≡ no_counts) × ((set : TemplateList) × LoadsText text (Ok set))
ChecksText text (Err r) = RefusesText text r
