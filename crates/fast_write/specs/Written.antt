-- What is written of lines, and what is answered (our own).
use Rattle.std.specs.Prelude.{◌≡◌, ◌⊎◌, ◌≤◌, ◌<◌, ◌+◌, ◌==◌, not, ℕ, Bool, false, List, [], ◌∷◌, ◌++◌, length, filter, Option, Some, Result, Ok, Err}
use Rattle.std.specs.List.{list_all, AllByRecursion}
use Rattle.std.specs.FinMap as map
use Rattle.std.specs.Io.KnownBytes.{Appends, IsAtEnd}
use Rattle.fast_io.specs.Counts.{counted, counted_by}
use Rattle.fast_io.specs.Traffic.{Taken}
use Rattle.fast_machine.specs.Inputs.{Reader}
use Rattle.fast_template.specs.TemplateSets.{TemplateList, templates_in}
use Rattle.fast_dictionary.specs.Dictionary.{Dictionary}
use Rattle.fast_wire.specs.declared.level.Level.TheVariants.{Usual}
use Rattle.fast_stream.specs.Nodes.{Content, nodes_in, node_limit}
use Rattle.fast_stream.specs.Streams.{MessageForm}
use Rattle.fast_writer.specs.Canonical.{CanonFrom, IsCanonical}
use Rattle.fast_nodes.specs.declared.fault.EncodeFault.{EncodeFault}
use Rattle.fast_nodes.specs.FirstRefusal.{first_refusal}
use Rattle.fast_spelled.specs.declared.fault.LineFault.{LineFault}
use Rattle.fast_spelled.specs.declared.fault.LineCause.TheVariants.{Limit}
use Rattle.fast_spelled.specs.Spelled.{Spells, Spell, lines_of, is_blank}
use Rattle.fast_write.specs.declared.fault.WriteFault.{WriteFault}
use Rattle.fast_write.specs.declared.output.OutputForm.{OutputForm}
use Rattle.fast_write.specs.declared.summary.WrittenSummary.{WrittenSummary}
use Rattle.fast_write.specs.Outputs.{output_of}

-- ---- a line

abbrev pub is_no_feed : ℕ → Bool
is_no_feed c = not (c == 10)

-- its bytes, but for its line feed
abbrev pub size_of : List ℕ → ℕ
size_of line = length (filter is_no_feed line)

-- the most of them
abbrev pub line_limit : ℕ
line_limit = 16777216

abbrev pub IsShort : List ℕ → Type 0
IsShort line = size_of line ≤ line_limit

-- A line is too long; or it is no blank one, and stands for no message, or for one with too many nodes.
abbrev pub IsNoLine : TemplateList → List ℕ → LineFault → Type 0
IsNoLine set line f =
    ((f.cause ≡ Limit) × (line_limit < size_of line))
    ⊎ ((list_all is_blank line ≡ false) × (((m : Content) → Spells set line m → ⊥) ⊎ ((f.cause ≡ Limit) × ((m : Content) → Spells set line m → node_limit < nodes_in m.items))))

-- The message of a line is refused by the encoder, from the entries that those before left. Then it has no form at all.
pub record HasNoForm (set : TemplateList) (line : List ℕ) (d : Dictionary) (template : ℕ) (f : EncodeFault) : Type 0 where
  pub message : Content
  pub spelled : Spells set line message
  pub template_is : message.template ≡ template
  pub refused : first_refusal (templates_in set) d message ≡ Some f
  pub no_form : (bytes : List ℕ) (after : Dictionary) → MessageForm Usual (templates_in set) d bytes message after → ⊥

-- ---- lines

-- These lines, of which none is too long, stand for messages, and these are the messages' canonical bytes; the entries are
-- what the messages left.
pub record Make (set : TemplateList) (lines : List (List ℕ)) (bytes : List ℕ) (d : Dictionary) : Type 0 where
  pub messages : List Content
  pub short : AllByRecursion IsShort lines
  pub spelled : Spell set lines messages
  pub canonical : CanonFrom (templates_in set) map.empty bytes messages d

-- why it went no further than these lines, of those that are left
abbrev pub StopsFor : TemplateList → Dictionary → List (List ℕ) → List (List ℕ) → WriteFault → Type 0
StopsFor set d lines rest (WriteFault.Line n f) =
    (n ≡ counted_by 0 (length lines + 1)) × (line : List ℕ) × (more : List (List ℕ)) × (rest ≡ line ∷ more) × IsNoLine set line f
StopsFor set d lines rest (WriteFault.Message n template f) =
    (n ≡ counted_by 0 (length lines + 1)) × (line : List ℕ) × (more : List (List ℕ)) × (rest ≡ line ∷ more) × HasNoForm set line d template f
StopsFor set d lines rest WriteFault.Write = ⊥
StopsFor set d lines rest f = Unit {0}

-- ---- what is answered

-- The reader has ended. All lines stand for messages, whose canonical bytes were written, and all is counted, up to the
-- greatest number that a count has.
pub record WritesAll (form : OutputForm) (set : TemplateList) (left old new : Option (List ℕ)) (input : List ℕ) (summary : WrittenSummary) : Type 0 where
  pub messages : List Content
  pub out : List ℕ
  pub ended : IsAtEnd left
  pub short : AllByRecursion IsShort (lines_of input)
  pub spelled : Spell set (lines_of input) messages
  pub canonical : IsCanonical (templates_in set) messages out
  pub written : Appends old new (output_of form out)
  pub counts : summary ≡ record { lines = counted_by 0 (length (lines_of input)); messages = counted_by 0 (length messages); written = counted_by 0 (length out) }

-- these bytes may still follow those that were read: none where the reader has ended
abbrev pub MayFollow : Option (List ℕ) → List ℕ → Type 0
MayFollow left more = IsAtEnd left → more ≡ []

-- It stopped behind some of the lines, whatever may still follow, and the canonical bytes of their messages were written.
pub record WritesBefore (form : OutputForm) (set : TemplateList) (left old new : Option (List ℕ)) (input : List ℕ) (f : WriteFault) : Type 0 where
  pub lines : List (List ℕ)
  pub out : List ℕ
  pub entries : Dictionary
  pub made : Make set lines out entries
  pub written : Appends old new (output_of form out)
  pub stops : (more : List ℕ) → MayFollow left more → (rest : List (List ℕ)) × (lines_of (input ++ more) ≡ lines ++ rest) × StopsFor set entries lines rest f

-- A write failed: of the canonical bytes of the messages of some of the lines a front was written.
pub record WritesFront (form : OutputForm) (set : TemplateList) (old new : Option (List ℕ)) (input : List ℕ) : Type 0 where
  pub lines : List (List ℕ)
  pub rest : List (List ℕ)
  pub out : List ℕ
  pub entries : Dictionary
  pub cut : lines_of input ≡ lines ++ rest
  pub made : Make set lines out entries
  pub unwritten : List ℕ
  pub written : Taken old new (output_of form out) unwritten

abbrev pub Writes : OutputForm → TemplateList → Option (List ℕ) → Option (List ℕ) → Option (List ℕ) → List ℕ → Result WrittenSummary WriteFault → Type 0
Writes form set left old new input (Ok summary) = WritesAll form set left old new input summary
Writes form set left old new input (Err WriteFault.Write) = WritesFront form set old new input
Writes form set left old new input (Err f) = WritesBefore form set left old new input f

-- a failed write is answered exactly where a call of the writer failed
abbrev pub errors_by : WriteFault → ℕ → ℕ
errors_by WriteFault.Write old = counted old
errors_by f old = old

abbrev pub errors_behind : {A : Type 0} → Result A WriteFault → ℕ → ℕ
errors_behind (Ok x) old = old
errors_behind (Err f) old = errors_by f old

-- one flush before anything but a failed write is answered
abbrev pub FlushesOnce : Result WrittenSummary WriteFault → ℕ → ℕ → Type 0
FlushesOnce (Err WriteFault.Write) old new = Unit {0}
FlushesOnce r old new = new ≡ counted old

-- the reader has met its end
abbrev pub HasEnded : Reader → Reader → Type 0
HasEnded old new = (new.ends ≡ counted old.ends) × (new.errors ≡ old.errors)

-- an answer has its cause in the counts of the reader
abbrev pub IsCauseOf : WriteFault → Type 0 → Reader → Reader → Type 0
IsCauseOf WriteFault.Read UsedUp old new = new.errors ≡ counted old.errors
IsCauseOf WriteFault.Turns UsedUp old new = UsedUp × (new.ends ≡ old.ends)
IsCauseOf f UsedUp old new = Unit {0}

abbrev pub IsCausedBy : {A : Type 0} → Result A WriteFault → Type 0 → Reader → Reader → Type 0
IsCausedBy (Ok x) UsedUp old new = HasEnded old new
IsCausedBy (Err f) UsedUp old new = IsCauseOf f UsedUp old new
