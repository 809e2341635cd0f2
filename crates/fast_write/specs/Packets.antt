-- Lines that say their packets, and what is written of them (our own).
use Rattle.std.specs.Prelude.{◌≡◌, ◌⊎◌, ◌≤◌, ◌<◌, ◌+◌, ◌==◌, ℕ, false, if◌then◌else◌, List, [], ◌∷◌, ◌++◌, length, Option, Some, Result, Ok, Err}
use Rattle.std.specs.List.{list_all, AllByRecursion}
use Rattle.std.specs.FinMap as map
use Rattle.std.specs.Io.KnownBytes.{Appends, IsAtEnd}
use Rattle.fast_io.specs.Counts.{counted, counted_by}
use Rattle.fast_io.specs.Traffic.{Taken}
use Rattle.fast_template.specs.TemplateSets.{TemplateList, templates_in}
use Rattle.fast_dictionary.specs.Dictionary.{Dictionary}
use Rattle.fast_wire.specs.declared.level.Level.TheVariants.{Usual}
use Rattle.fast_stream.specs.Nodes.{Content, nodes_in, node_limit}
use Rattle.fast_stream.specs.Streams.{MessageForm}
use Rattle.fast_writer.specs.Canonical.{CanonFrom, IsCanonical}
use Rattle.fast_packets.specs.Recordings.{packet_limit}
use Rattle.fast_packet_laws.specs.CanonicalRecordings.{IsCanonicalRecording}
use Rattle.fast_nodes.specs.declared.fault.EncodeFault.{EncodeFault}
use Rattle.fast_nodes.specs.FirstRefusal.{first_refusal}
use Rattle.fast_spelled.specs.declared.fault.LineFault.{LineFault}
use Rattle.fast_spelled.specs.declared.fault.LineCause.TheVariants.{Limit, Line}
use Rattle.fast_spelled.specs.Numbered.{SpellIn, SpellsIn}
use Rattle.fast_spelled.specs.Spelled.{lines_of, is_blank}
use Rattle.fast_write.specs.declared.fault.WriteFault.{WriteFault}
use Rattle.fast_write.specs.declared.output.OutputForm.{OutputForm}
use Rattle.fast_write.specs.declared.summary.WrittenSummary.{WrittenSummary}
use Rattle.fast_write.specs.Outputs.{output_of}
use Rattle.fast_write.specs.Written.{IsShort, MayFollow, line_limit, size_of}

-- ---- messages in packets

-- a message, with the number of its packet
abbrev pub Numbered : Type 0
Numbered = ℕ × Content

-- none is of a packet before that of the message in front of it, or before this one
abbrev pub AreInOrder : ℕ → List Numbered → Type 0
AreInOrder least [] = Unit {0}
AreInOrder least (x ∷ xs) = (least ≤ x.0) × AreInOrder x.0 xs

-- packets, and the one that may go on, with its number; none where it has no message
pub record Packets : Type 0 where
  pub ended : List (List Content)
  pub number : ℕ
  pub last : List Content

abbrev pub no_packets : Packets
no_packets = record { ended = []; number = 0; last = [] }

abbrev pub if_some : List Content → List (List Content)
if_some [] = []
if_some (m ∷ ms) = (m ∷ ms) ∷ []

abbrev pub all_of : Packets → List (List Content)
all_of p = p.ended ++ if_some p.last

-- a message more: of the packet that goes on, or of another
abbrev pub with_next : Packets → Numbered → Packets
with_next p x = if x.0 == p.number then record p { last = p.last ++ x.1 ∷ [] } else record { ended = all_of p; number = x.0; last = x.1 ∷ [] }

abbrev pub packets_on : Packets → List Numbered → Packets
packets_on p [] = p
packets_on p (x ∷ xs) = packets_on (with_next p x) xs

-- messages packet by packet: those of one number, one behind the other, are a packet
abbrev pub packets_of : List Numbered → Packets
packets_of ms = packets_on no_packets ms

-- ---- lines

-- These lines, of which none is too long, stand for messages in packets, and this is their canonical recording; the entries
-- are what the messages of the last packet left.
pub record MakePackets (set : TemplateList) (lines : List (List ℕ)) (bytes : List ℕ) (p : Packets) (d : Dictionary) : Type 0 where
  pub messages : List Numbered
  pub short : AllByRecursion IsShort lines
  pub spelled : SpellIn set lines messages
  pub in_order : AreInOrder 0 messages
  pub packets : packets_of messages ≡ p
  pub recorded : IsCanonicalRecording (templates_in set) (all_of p) bytes
  pub stream : List ℕ
  pub going_on : CanonFrom (templates_in set) map.empty stream p.last d

-- from which entries a message of this packet is written
abbrev pub entries_for : Packets → ℕ → Dictionary → Dictionary
entries_for p n d = if n == p.number then d else map.empty

-- The packet of a line has too many canonical bytes with it.
pub record IsTooMuch (set : TemplateList) (line : List ℕ) (p : Packets) : Type 0 where
  pub number : ℕ
  pub message : Content
  pub stream : List ℕ
  pub spelled : SpellsIn set line number message
  pub canonical : IsCanonical (templates_in set) (with_next p (number, message)).last stream
  pub many : packet_limit < length stream

-- A line is too long; or it is no blank one, and stands for no message in a packet, or for one with too many nodes, or for one
-- in a packet before the last, or its packet has too many bytes with it.
abbrev pub IsNoLineIn : TemplateList → List ℕ → Packets → LineFault → Type 0
IsNoLineIn set line p f =
    ((f.cause ≡ Limit) × (line_limit < size_of line))
    ⊎ ((list_all is_blank line ≡ false)
    × (((n : ℕ) (m : Content) → SpellsIn set line n m → ⊥)
    ⊎ ((f.cause ≡ Limit) × ((n : ℕ) (m : Content) → SpellsIn set line n m → node_limit < nodes_in m.items))
    ⊎ ((f.cause ≡ Line) × (n : ℕ) × (m : Content) × SpellsIn set line n m × (n < p.number))
    ⊎ ((f.cause ≡ Limit) × IsTooMuch set line p)))

-- The message of a line is refused by the encoder, from the entries of its packet. Then it has no form at all.
pub record HasNoFormIn (set : TemplateList) (line : List ℕ) (p : Packets) (d : Dictionary) (template : ℕ) (f : EncodeFault) : Type 0 where
  pub number : ℕ
  pub message : Content
  pub spelled : SpellsIn set line number message
  pub template_is : message.template ≡ template
  pub refused : first_refusal (templates_in set) (entries_for p number d) message ≡ Some f
  pub no_form : (bytes : List ℕ) (after : Dictionary) → MessageForm Usual (templates_in set) (entries_for p number d) bytes message after → ⊥

-- why it went no further than these lines, of those that are left
abbrev pub StopsForIn : TemplateList → Packets → Dictionary → List (List ℕ) → List (List ℕ) → WriteFault → Type 0
StopsForIn set p d lines rest (WriteFault.Line n f) =
    (n ≡ counted_by 0 (length lines + 1)) × (line : List ℕ) × (more : List (List ℕ)) × (rest ≡ line ∷ more) × IsNoLineIn set line p f
StopsForIn set p d lines rest (WriteFault.Message n template f) =
    (n ≡ counted_by 0 (length lines + 1)) × (line : List ℕ) × (more : List (List ℕ)) × (rest ≡ line ∷ more) × HasNoFormIn set line p d template f
StopsForIn set p d lines rest WriteFault.Write = ⊥
StopsForIn set p d lines rest f = Unit {0}

-- ---- what is answered

-- The reader has ended. All lines stand for messages in packets, whose canonical recording was written, and all is counted.
pub record WritesAllIn (form : OutputForm) (set : TemplateList) (left old new : Option (List ℕ)) (input : List ℕ) (summary : WrittenSummary) : Type 0 where
  pub out : List ℕ
  pub packets : Packets
  pub entries : Dictionary
  pub ended : IsAtEnd left
  pub made : MakePackets set (lines_of input) out packets entries
  pub written : Appends old new (output_of form out)
  pub counts : summary ≡ record { lines = counted_by 0 (length (lines_of input)); messages = counted_by 0 (length made.messages); written = counted_by 0 (length out) }

-- It stopped behind some of the lines, whatever may still follow, and their canonical recording was written.
pub record WritesBeforeIn (form : OutputForm) (set : TemplateList) (left old new : Option (List ℕ)) (input : List ℕ) (f : WriteFault) : Type 0 where
  pub lines : List (List ℕ)
  pub out : List ℕ
  pub packets : Packets
  pub entries : Dictionary
  pub made : MakePackets set lines out packets entries
  pub written : Appends old new (output_of form out)
  pub stops : (more : List ℕ) → MayFollow left more → (rest : List (List ℕ)) × (lines_of (input ++ more) ≡ lines ++ rest) × StopsForIn set packets entries lines rest f

-- A write failed or memory was refused: of the canonical recording of some of the lines a front was written.
pub record WritesFrontIn (form : OutputForm) (set : TemplateList) (old new : Option (List ℕ)) (input : List ℕ) : Type 0 where
  pub lines : List (List ℕ)
  pub rest : List (List ℕ)
  pub out : List ℕ
  pub packets : Packets
  pub entries : Dictionary
  pub cut : lines_of input ≡ lines ++ rest
  pub made : MakePackets set lines out packets entries
  pub unwritten : List ℕ
  pub written : Taken old new (output_of form out) unwritten

abbrev pub WritesPackets : OutputForm → TemplateList → Option (List ℕ) → Option (List ℕ) → Option (List ℕ) → List ℕ → Result WrittenSummary WriteFault → Type 0
WritesPackets form set left old new input (Ok summary) = WritesAllIn form set left old new input summary
WritesPackets form set left old new input (Err WriteFault.Write) = WritesFrontIn form set old new input
WritesPackets form set left old new input (Err WriteFault.Memory) = WritesFrontIn form set old new input
WritesPackets form set left old new input (Err f) = WritesBeforeIn form set left old new input f

-- one flush before anything but a failed write or want of memory is answered
abbrev pub FlushesIn : Result WrittenSummary WriteFault → ℕ → ℕ → Type 0
FlushesIn (Err WriteFault.Write) old new = Unit {0}
FlushesIn (Err WriteFault.Memory) old new = Unit {0}
FlushesIn r old new = new ≡ counted old
