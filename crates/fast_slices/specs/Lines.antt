-- What a call did with lines and the room that C lent it.
use Rattle.std.specs.Prelude.{◌≡◌, ◌⊎◌, ◌<◌, ℕ, nat_eq, if◌then◌else◌, Bool, true, false, List, ◌++◌, length, Option, None, Some, Result, Ok, Err}
use Rattle.fast_io.specs.Counts.{counted_by}
use Rattle.fast_template.specs.TemplateSets.{TemplateList}
use Rattle.fast_dictionary.specs.Dictionary.{Dictionary}
use Rattle.fast_spelled.specs.Spelled.{lines_of}
use Rattle.fast_write.specs.Packets.{Packets}
use Rattle.fast_write.specs.Ways.{Makes, StopsIf, WritesIf}
use Rattle.fast_write.specs.declared.fault.WriteFault.{WriteFault}
use Rattle.fast_write.specs.declared.output.OutputForm.{OutputForm}
use Rattle.fast_write.specs.declared.summary.WrittenSummary.{WrittenSummary}
use Rattle.fast_slices.specs.Calls.{Calls, CallsOver, Done}
use Rattle.fast_slices.specs.Rooms.{Puts}
use Rattle.fast_slices.specs.declared.answer.Counts.{Counts}
use Rattle.fast_slices.specs.declared.answer.Refusal.{Refusal}

-- Whether lines say their packets, by the word that C gives: 8 where they do, and 4 for JSON, which they are in any case. None
-- where the word has another bit.
abbrev pub numbering_of : ℕ → Option Bool
numbering_of word =
    if nat_eq word 0 then Some false
    else if nat_eq word 4 then Some false
    else if nat_eq word 8 then Some true
    else if nat_eq word 12 then Some true
    else None

-- ---- what is made of lines

-- so much of the lines was read, and this was written and answered of it
abbrev pub RunsLines : Bool → TemplateList → List ℕ → Option (List ℕ) → Option (List ℕ) → Result WrittenSummary WriteFault → Type 0
RunsLines numbered set text taken_old taken_new ran =
    (input : List ℕ) × (back : List ℕ) × (text ≡ input ++ back) × WritesIf numbered OutputForm.Bytes set (Some back) taken_old taken_new input ran

-- Of lines that a front of the text begins with these bytes are made: the canonical bytes of their messages, or the canonical
-- recording of their packets.
pub record MadeOfFront (numbered : Bool) (set : TemplateList) (text bytes : List ℕ) : Type 0 where
  pub front : List ℕ
  pub back : List ℕ
  pub parts : text ≡ front ++ back
  pub lines : List (List ℕ)
  pub rest : List (List ℕ)
  pub cut : lines_of front ≡ lines ++ rest
  pub packets : Packets
  pub entries : Dictionary
  pub count : ℕ
  pub made : Makes numbered set lines bytes packets entries count

-- Likewise of the lines of a text before one that is refused, and why that is.
pub record MadeBefore (numbered : Bool) (set : TemplateList) (text bytes : List ℕ) (f : WriteFault) : Type 0 where
  pub lines : List (List ℕ)
  pub rest : List (List ℕ)
  pub cut : lines_of text ≡ lines ++ rest
  pub packets : Packets
  pub entries : Dictionary
  pub count : ℕ
  pub made : Makes numbered set lines bytes packets entries count
  pub why : StopsIf numbered set packets entries lines rest f

-- it is the fault of a line
abbrev pub IsOfLine : WriteFault → Type 0
IsOfLine (WriteFault.Line number f) = Unit {0}
IsOfLine (WriteFault.Message number template f) = Unit {0}
IsOfLine f = ⊥

-- ---- the room

-- All lines stand for messages; what is made of them is in the room's front, and all is counted but the packets.
pub record WritesAll (numbered : Bool) (set : TemplateList) (text old new : List ℕ) (counts : Counts) : Type 0 where
  pub bytes : List ℕ
  pub packets : Packets
  pub entries : Dictionary
  pub messages : ℕ
  pub made : Makes numbered set (lines_of text) bytes packets entries messages
  pub put : Puts bytes old new
  pub counts_are : counts ≡ record { packets = 0; messages = messages; read = length text; written = length bytes }

-- A line is refused; what is made of the lines before it is in the room's front.
pub record WritesBefore (numbered : Bool) (set : TemplateList) (text old new : List ℕ) (f : WriteFault) (written : ℕ) : Type 0 where
  pub bytes : List ℕ
  pub made : MadeBefore numbered set text bytes f
  pub put : Puts bytes old new
  pub count : written ≡ length bytes

-- So many bytes are made of the lines; or one is refused, and no clause says how many are made of those before it.
abbrev pub Needs : Bool → TemplateList → List ℕ → ℕ → Type 0
Needs numbered set text needed =
    ((bytes : List ℕ) × (packets : Packets) × (entries : Dictionary) × (messages : ℕ) × Makes numbered set (lines_of text) bytes packets entries messages × (needed ≡ counted_by 0 (length bytes)))
    ⊎ ((f : WriteFault) × IsOfLine f × (bytes : List ℕ) × MadeBefore numbered set text bytes f)

-- More is made than the room holds of lines that a front of the text begins with, and the room stays.
pub record Overflows (numbered : Bool) (set : TemplateList) (text old new : List ℕ) (needed : ℕ) : Type 0 where
  pub bytes : List ℕ
  pub made : MadeOfFront numbered set text bytes
  pub longer : length old < length bytes
  pub same : new ≡ old
  pub needs : Needs numbered set text needed

-- what is answered of a run that wrote these bytes, and what becomes of the room
abbrev pub counts_by : ℕ → WrittenSummary → Counts
counts_by read s = record { packets = 0; messages = s.messages; read = read; written = s.written }

abbrev pub SettlesLines : Result WrittenSummary WriteFault → ℕ → List ℕ → List ℕ → List ℕ → Done → Type 0
SettlesLines ran read bytes old new (Ok counts) = (summary : WrittenSummary) × (ran ≡ Ok summary) × (counts ≡ counts_by read summary) × Puts bytes old new
SettlesLines ran read bytes old new (Err (Refusal.Line number f written)) = (ran ≡ Err (WriteFault.Line number f)) × (written ≡ length bytes) × Puts bytes old new
SettlesLines ran read bytes old new (Err (Refusal.Message number template f written)) =
    (ran ≡ Err (WriteFault.Message number template f)) × (written ≡ length bytes) × Puts bytes old new
SettlesLines ran read bytes old new (Err Refusal.Memory) = new ≡ old
SettlesLines ran read bytes old new (Err r) = ⊥

-- what a run says that was counted
abbrev pub MeasuresRun : Result WrittenSummary WriteFault → Refusal → Type 0
MeasuresRun ran (Refusal.Room needed) =
    ((summary : WrittenSummary) × (ran ≡ Ok summary) × (needed ≡ summary.written)) ⊎ ((f : WriteFault) × (ran ≡ Err f) × IsOfLine f)
MeasuresRun ran Refusal.Memory = Unit {0}
MeasuresRun ran r = ⊥

-- how many bytes a run writes
abbrev pub MeasuresLines : Bool → TemplateList → List ℕ → Refusal → Type 0
MeasuresLines numbered set text (Refusal.Room needed) = Needs numbered set text needed
MeasuresLines numbered set text Refusal.Memory = Unit {0}
MeasuresLines numbered set text r = ⊥

-- ---- a call

-- what is answered of lines that are written
abbrev pub WritesLines : Bool → TemplateList → List ℕ → List ℕ → List ℕ → Done → Type 0
WritesLines numbered set text old new (Ok counts) = WritesAll numbered set text old new counts
WritesLines numbered set text old new (Err (Refusal.Line number f written)) = WritesBefore numbered set text old new (WriteFault.Line number f) written
WritesLines numbered set text old new (Err (Refusal.Message number template f written)) = WritesBefore numbered set text old new (WriteFault.Message number template f) written
WritesLines numbered set text old new (Err (Refusal.Room needed)) = Overflows numbered set text old new needed
WritesLines numbered set text old new (Err Refusal.Memory) = new ≡ old
WritesLines numbered set text old new (Err r) = ⊥

abbrev pub WritesText : List ℕ → ℕ → List ℕ → List ℕ → List ℕ → Done → Type 0
WritesText templates word lines old new r = Calls (numbering_of word) (λ numbered set. WritesLines numbered set lines old new) (new ≡ old) templates lines r

abbrev pub WritesOver : TemplateList → ℕ → List ℕ → List ℕ → List ℕ → Done → Type 0
WritesOver set word lines old new r = CallsOver (numbering_of word) (λ numbered. WritesLines numbered set lines old new) (new ≡ old) lines r
