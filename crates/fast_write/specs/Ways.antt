-- Lines on their way, as the code has them.
use Rattle.std.specs.Prelude.{◌≡◌, ◌⊎◌, ◌≤◌, ◌<◌, ◌==◌, if◌then◌else◌, ℕ, Bool, true, false, Some, List, [], ◌∷◌, ◌++◌, length, Option, Result, Ok, Err, IsOk}
use Rattle.std.specs.List.{list_all, AllByRecursion}
use Rattle.std.specs.FinMap as map
use Rattle.std.specs.Io.KnownBytes.{Appends, IsAtEnd}
use Rattle.fast_io.specs.Counts.{counted, counted_by}
use Rattle.fast_io.specs.Traffic.{Taken}
use Rattle.fast_template.specs.TemplateSets.{TemplateList, templates_in}
use Rattle.fast_dictionary.specs.Dictionary.{Dictionary}
use Rattle.fast_dictionary.specs.declared.entries.Entries.{Ghosts}
use Rattle.fast_stream.specs.Nodes.{Content, nodes_in, node_limit}
use Rattle.fast_spelled.specs.Spelled.{Spell, Spells, lines_of, is_blank}
use Rattle.fast_writer.specs.Canonical.{CanonFrom, CanonMessage}
use Rattle.fast_write.specs.declared.fault.WriteFault.{WriteFault}
use Rattle.fast_write.specs.declared.output.OutputForm.{OutputForm}
use Rattle.fast_write.specs.declared.summary.WrittenSummary.{WrittenSummary}
use Rattle.fast_write.specs.declared.way.Way.{Way}
use Rattle.fast_write.specs.Outputs.{output_of, part_of}
use Rattle.fast_wire.specs.Integer.{IsUnsigned}
use Rattle.fast_wire.specs.Writing.{IsShortest}
use Rattle.fast_wire.specs.declared.level.Level.TheVariants.{Usual}
use Rattle.fast_stream.specs.Streams.{MessageForm}
use Rattle.fast_nodes.specs.FirstRefusal.{first_refusal}
use Rattle.fast_nodes.specs.declared.fault.EncodeFault.{EncodeFault}
use Rattle.fast_packets.specs.Recordings.{packet_limit}
use Rattle.fast_packet_laws.specs.CanonicalRecordings.{IsCanonicalRecording}
use Rattle.fast_spelled.specs.Numbered.{SpellIn, SpellsIn}
use Rattle.fast_spelled.specs.declared.fault.LineFault.{LineFault}
use Rattle.fast_spelled.specs.declared.fault.LineCause.TheVariants.{Limit, Line}
use Rattle.fast_write.specs.Packets.{AreInOrder, MakePackets, Numbered, Packets, StopsForIn, WritesPackets, packets_of}
use Rattle.fast_write.specs.Written.{HasNoForm, IsNoLine, IsShort, Make, MayFollow, StopsFor, Writes, is_no_feed, line_limit}

-- how far lines have come: the entries that their messages left, the canonical bytes that wait, the line that has not
-- ended, and what was counted
pub record Here : Type 0 where
  pub form : OutputForm
  pub set : TemplateList
  pub entries : Dictionary
  pub ready : List ℕ
  pub begun : List ℕ
  pub counts : WrittenSummary
  -- whether lines say their packets, the last one's number, and its canonical bytes as far as they are known
  pub numbered : Bool
  pub number : ℕ
  pub packet : List ℕ

abbrev pub here : {E : Type 0} {ghosts : Ghosts E} → Way E ghosts → Here
here {ghosts = ghosts} w = record { form = w.form; set = w.set.now; entries = ghosts.contents w.encoder.journal.entries; ready = w.ready.items; begun = w.begun.items; counts = w.counts; numbered = w.numbered; number = w.number; packet = w.packet.items }

pub record IsSameWay (old new : Here) : Type 0 where
  pub form : new.form ≡ old.form
  pub set : new.set ≡ old.set
  pub numbered : new.numbered ≡ old.numbered

-- ---- a line

abbrev pub with_blank : WrittenSummary → WrittenSummary
with_blank s = record s { lines = counted s.lines }

abbrev pub with_message : WrittenSummary → WrittenSummary
with_message s = record s { lines = counted s.lines; messages = counted s.messages }

-- the open line was taken: the canonical bytes of its message wait behind those that waited
pub record IsTaken (old new : Here) : Type 0 where
  pub bytes : List ℕ
  pub message : Content
  pub after : Dictionary
  pub spelled : Spells old.set old.begun message
  pub canonical : CanonMessage (templates_in old.set) old.entries bytes message after
  pub is : new ≡ record old { entries = after; ready = old.ready ++ bytes; counts = with_message old.counts }

-- ---- a line of a packet

-- from which entries a message of this packet is written, and behind which bytes
abbrev pub entries_at : Here → ℕ → Dictionary
entries_at h n = if n == h.number then h.entries else map.empty

abbrev pub packet_at : Here → ℕ → List ℕ
packet_at h n = if n == h.number then h.packet else []

-- the canonical bytes of a packet, behind their size; none of one that has no message
abbrev pub Closes : List ℕ → List ℕ → Type 0
Closes [] bytes = bytes ≡ []
Closes (c ∷ cs) bytes = (size : List ℕ) × (bytes ≡ size ++ (c ∷ cs)) × IsShortest IsUnsigned size (length (c ∷ cs))

-- the packet is ended, and its bytes wait
pub record EndsPacket (old new : Here) : Type 0 where
  pub bytes : List ℕ
  pub closes : Closes old.packet bytes
  pub is : new ≡ record old { ready = old.ready ++ bytes; packet = [] }

-- what waits where a message of this packet comes next
abbrev pub Waits : Here → ℕ → List ℕ → Type 0
Waits old n ready = (n ≡ old.number × (ready ≡ old.ready)) ⊎ ((n ≡ old.number → ⊥) × (bytes : List ℕ) × Closes old.packet bytes × (ready ≡ old.ready ++ bytes))

-- the open line was taken: the canonical bytes of its message are the next of its packet
pub record IsTakenIn (old new : Here) : Type 0 where
  pub bytes : List ℕ
  pub number : ℕ
  pub message : Content
  pub after : Dictionary
  pub ready : List ℕ
  pub spelled : SpellsIn old.set old.begun number message
  pub in_order : old.number ≤ number
  pub canonical : CanonMessage (templates_in old.set) (entries_at old number) bytes message after
  pub waits : Waits old number ready
  pub few : length (packet_at old number ++ bytes) ≤ packet_limit
  pub is : new ≡ record old { entries = after; ready = ready; number = number; packet = packet_at old number ++ bytes; counts = with_message old.counts }

-- a line stands for no message in a packet, or for one with too many nodes
abbrev pub IsUnreadIn : TemplateList → List ℕ → LineFault → Type 0
IsUnreadIn set line f = ((n : ℕ) (m : Content) → SpellsIn set line n m → ⊥) ⊎ ((f.cause ≡ Limit) × ((n : ℕ) (m : Content) → SpellsIn set line n m → node_limit < nodes_in m.items))

-- why it stands for no message that could be written
abbrev pub IsNoLineAt : Here → LineFault → Type 0
IsNoLineAt old f =
    IsUnreadIn old.set old.begun f
    ⊎ ((f.cause ≡ Line) × (n : ℕ) × (m : Content) × SpellsIn old.set old.begun n m × (n < old.number))
    ⊎ ((f.cause ≡ Limit) × (n : ℕ) × (m : Content) × (bytes : List ℕ) × (after : Dictionary) × SpellsIn old.set old.begun n m × CanonMessage (templates_in old.set) (entries_at old n) bytes m after
    × (packet_limit < length (packet_at old n ++ bytes)))

pub record HasNoFormAt (old : Here) (template : ℕ) (f : EncodeFault) : Type 0 where
  pub number : ℕ
  pub message : Content
  pub spelled : SpellsIn old.set old.begun number message
  pub template_is : message.template ≡ template
  pub refused : first_refusal (templates_in old.set) (entries_at old number) message ≡ Some f
  pub no_form : (bytes : List ℕ) (after : Dictionary) → MessageForm Usual (templates_in old.set) (entries_at old number) bytes message after → ⊥

abbrev pub IsNotTakenIn : Here → ℕ → WriteFault → Type 0
IsNotTakenIn old number (WriteFault.Line n f) = (n ≡ number) × (list_all is_blank old.begun ≡ false) × IsNoLineAt old f
IsNotTakenIn old number (WriteFault.Message n template f) = (n ≡ number) × HasNoFormAt old template f
IsNotTakenIn old number WriteFault.Memory = Unit {0}
IsNotTakenIn old number f = ⊥

abbrev pub TakesIn : Here → Here → ℕ → Result (Unit {0}) WriteFault → Type 0
TakesIn old new number (Ok x) = (number ≡ counted old.counts.lines) → IsTakenIn old new
TakesIn old new number (Err f) = (entries : Dictionary) × (new ≡ record old { entries = entries }) × IsNotTakenIn old number f

-- ---- a line

-- the open line is blank, or was taken
abbrev pub TakesIf : Bool → Here → Here → Type 0
TakesIf false old new = IsTaken old new
TakesIf true old new = IsTakenIn old new

abbrev pub Takes : Here → Here → Type 0
Takes old new = ((list_all is_blank old.begun ≡ true) × (new ≡ record old { counts = with_blank old.counts })) ⊎ TakesIf old.numbered old new

-- why a line with this number is not taken
abbrev pub IsNotTaken : TemplateList → Dictionary → List ℕ → ℕ → WriteFault → Type 0
IsNotTaken set d line number (WriteFault.Line n f) = (n ≡ number) × IsNoLine set line f
IsNotTaken set d line number (WriteFault.Message n template f) = (n ≡ number) × HasNoForm set line d template f
IsNotTaken set d line number WriteFault.Memory = Unit {0}
IsNotTaken set d line number f = ⊥

abbrev pub TakesPlain : Here → Here → ℕ → Result (Unit {0}) WriteFault → Type 0
TakesPlain old new number (Ok x) = (number ≡ counted old.counts.lines) → IsTaken old new
TakesPlain old new number (Err f) = (entries : Dictionary) × (new ≡ record old { entries = entries }) × IsNotTaken old.set old.entries old.begun number f

abbrev pub IsNotTakenIf : Bool → Here → ℕ → WriteFault → Type 0
IsNotTakenIf false old number f = IsNotTaken old.set old.entries old.begun number f
IsNotTakenIf true old number f = IsNotTakenIn old number f

-- or it was not taken, and but for the entries nothing has changed
abbrev pub TakesLine : Here → Here → Result (Unit {0}) WriteFault → Type 0
TakesLine old new (Ok x) = Takes old new
TakesLine old new (Err f) = (entries : Dictionary) × (new ≡ record old { entries = entries }) × IsNotTakenIf old.numbered old (counted old.counts.lines) f

-- ---- what waits, and what was written

-- what lines stand for, and which bytes are of it: all of them, or those of the packets that have ended
pub record MadePackets (set : TemplateList) (lines : List (List ℕ)) (bytes : List ℕ) (count : ℕ) (p : Packets) (d : Dictionary) (number : ℕ) (packet : List ℕ) : Type 0 where
  pub messages : List Numbered
  pub many : count ≡ length messages
  pub spelled : SpellIn set lines messages
  pub in_order : AreInOrder 0 messages
  pub packets : packets_of messages ≡ p
  pub recorded : IsCanonicalRecording (templates_in set) p.ended bytes
  pub going_on : CanonFrom (templates_in set) map.empty packet p.last d
  pub number_is : p.number ≡ number
  pub few : length packet ≤ packet_limit

pub record MadePlain (set : TemplateList) (lines : List (List ℕ)) (bytes : List ℕ) (count : ℕ) (d : Dictionary) (packet : List ℕ) : Type 0 where
  pub messages : List Content
  pub many : count ≡ length messages
  pub spelled : Spell set lines messages
  pub canonical : CanonFrom (templates_in set) map.empty bytes messages d
  pub no_packet : packet ≡ []

abbrev pub MadeIf : Bool → TemplateList → List (List ℕ) → List ℕ → ℕ → Packets → Dictionary → ℕ → List ℕ → Type 0
MadeIf false set lines bytes count p d number packet = MadePlain set lines bytes count d packet
MadeIf true set lines bytes count p d number packet = MadePackets set lines bytes count p d number packet

-- These lines were taken, and the canonical bytes of their messages were written but for those that wait; all is counted.
-- The entries are what they left.
pub record Stands (h : Here) (d : Dictionary) (old new : Option (List ℕ)) (lines : List (List ℕ)) : Type 0 where
  pub sent : List ℕ
  pub count : ℕ
  pub packets : Packets
  pub short : AllByRecursion IsShort lines
  pub made : MadeIf h.numbered h.set lines (sent ++ h.ready) count packets d h.number h.packet
  pub written : Appends old new (part_of h.form sent)
  pub counts : h.counts ≡ record { lines = counted_by 0 (length lines); messages = counted_by 0 count; written = counted_by 0 (length sent) }

-- of lines this is written
abbrev pub Makes : Bool → TemplateList → List (List ℕ) → List ℕ → Packets → Dictionary → ℕ → Type 0
Makes false set lines bytes p d count = (m : Make set lines bytes d) × (count ≡ length m.messages)
Makes true set lines bytes p d count = (m : MakePackets set lines bytes p d) × (count ≡ length m.messages)

-- why it went no further
abbrev pub StopsIf : Bool → TemplateList → Packets → Dictionary → List (List ℕ) → List (List ℕ) → WriteFault → Type 0
StopsIf false set p d lines rest f = StopsFor set d lines rest f
StopsIf true set p d lines rest f = StopsForIn set p d lines rest f

-- A write failed behind these lines.
pub record Breaks (h : Here) (old new : Option (List ℕ)) (lines : List (List ℕ)) : Type 0 where
  pub out : List ℕ
  pub packets : Packets
  pub entries : Dictionary
  pub count : ℕ
  pub made : Makes h.numbered h.set lines out packets entries count
  pub unwritten : List ℕ
  pub written : Taken old new (output_of h.form out) unwritten

-- what waited was written
pub record HandsOn (old new : Here) (before after : Option (List ℕ)) : Type 0 where
  pub written : Appends before after (part_of old.form old.ready)
  pub is : new ≡ record old { ready = []; counts = record old.counts { written = counted_by old.counts.written (length old.ready) } }

-- or a front of it
abbrev pub Hands : Here → Here → Option (List ℕ) → Option (List ℕ) → Result (Unit {0}) WriteFault → Type 0
Hands old new before after (Ok x) = HandsOn old new before after
Hands old new before after (Err f) = (f ≡ WriteFault.Write) × IsSameWay old new × (rest : List ℕ) × Taken before after (part_of old.form old.ready) rest

-- what waited was written, with the packet that was open, and what stands behind it
pub record ClosesOn (old new : Here) (before after : Option (List ℕ)) : Type 0 where
  pub bytes : List ℕ
  pub closes : Closes old.packet bytes
  pub written : Appends before after (output_of old.form (old.ready ++ bytes))
  pub counts : new.counts ≡ record old.counts { written = counted_by old.counts.written (length (old.ready ++ bytes)) }

-- or a front of it; or memory was refused for the size of a packet, and nothing was written
abbrev pub ClosesNot : Here → Option (List ℕ) → Option (List ℕ) → WriteFault → Type 0
ClosesNot old before after f =
    ((f ≡ WriteFault.Write) × (bytes : List ℕ) × (rest : List ℕ) × Closes old.packet bytes × Taken before after (output_of old.form (old.ready ++ bytes)) rest)
    ⊎ ((f ≡ WriteFault.Memory) × (old.packet ≡ [] → ⊥) × Appends before after [])

abbrev pub ClosesAll : Here → Here → Option (List ℕ) → Option (List ℕ) → Result (Unit {0}) WriteFault → Type 0
ClosesAll old new before after (Ok x) = ClosesOn old new before after
ClosesAll old new before after (Err f) = ClosesNot old before after f

-- What is answered of the open line, the next behind these: it is taken; a write failed behind it; or it stops before it.
abbrev pub EndsLine : Here → Here → Option (List ℕ) → Option (List ℕ) → List (List ℕ) → Result (Unit {0}) WriteFault → Type 0
EndsLine old new before after lines (Ok x) = Stands new new.entries before after (lines ++ old.begun ∷ []) × (new.begun ≡ [])
EndsLine old new before after lines (Err WriteFault.Write) = Breaks old before after (lines ++ old.begun ∷ [])
EndsLine old new before after lines (Err f) = (d : Dictionary) × (s : Stands new d before after lines) × ((more : List (List ℕ)) → StopsIf old.numbered old.set s.packets d lines (old.begun ∷ more) f)

-- it is the fault of a line, or a write or memory was refused
abbrev pub IsOfLine : WriteFault → Type 0
IsOfLine WriteFault.Read = ⊥
IsOfLine WriteFault.Turns = ⊥
IsOfLine f = Unit {0}

-- ---- what was read

-- What was read of the input is these lines and the front of another, which has no line feed and is not too long.
pub record IsCut (input : List ℕ) (lines : List (List ℕ)) (begun : List ℕ) : Type 0 where
  pub cut : (more : List ℕ) → lines_of (input ++ more) ≡ lines ++ lines_of (begun ++ more)
  pub no_feed : list_all is_no_feed begun ≡ true
  pub short : length begun ≤ line_limit

-- It goes on behind these bytes.
pub record GoesOn (here : Here) (old new : Option (List ℕ)) (input : List ℕ) : Type 0 where
  pub lines : List (List ℕ)
  pub is_cut : IsCut input lines here.begun
  pub stands : Stands here here.entries old new lines

-- It stops within these bytes, whatever may still follow, and the canonical bytes before wait.
pub record StopsIn (here : Here) (left old new : Option (List ℕ)) (input : List ℕ) (f : WriteFault) : Type 0 where
  pub lines : List (List ℕ)
  pub entries : Dictionary
  pub stands : Stands here entries old new lines
  pub stops : (more : List ℕ) → MayFollow left more → (rest : List (List ℕ)) × (lines_of (input ++ more) ≡ lines ++ rest) × StopsIf here.numbered here.set stands.packets entries lines rest f

-- or a write failed
pub record StopsAtWrite (here : Here) (old new : Option (List ℕ)) (input : List ℕ) : Type 0 where
  pub lines : List (List ℕ)
  pub rest : List (List ℕ)
  pub cut : lines_of input ≡ lines ++ rest
  pub breaks : Breaks here old new lines

abbrev pub Stops : Here → Option (List ℕ) → Option (List ℕ) → Option (List ℕ) → List ℕ → WriteFault → Type 0
Stops here left old new input WriteFault.Write = StopsAtWrite here old new input
Stops here left old new input f = StopsIn here left old new input f

-- What is answered of bytes behind others: it goes on behind them, or stops within them.
abbrev pub Comes : Here → Option (List ℕ) → Option (List ℕ) → Option (List ℕ) → List ℕ → Result (Unit {0}) WriteFault → Type 0
Comes here left old new input (Ok x) = GoesOn here old new input
Comes here left old new input (Err f) = Stops here left old new input f

-- the input has ended, and all its lines were taken
pub record Ends (here : Here) (left old new : Option (List ℕ)) (input : List ℕ) : Type 0 where
  pub ended : IsAtEnd left
  pub stands : Stands here here.entries old new (lines_of input)

-- or it stops
abbrev pub Finishes : Here → Option (List ℕ) → Option (List ℕ) → Option (List ℕ) → List ℕ → Result (Unit {0}) WriteFault → Type 0
Finishes here left old new input (Ok x) = Ends here left old new input
Finishes here left old new input (Err f) = Stops here left old new input f

-- the answer stays, but where a write fails or memory is refused
abbrev pub Answers : Result (Unit {0}) WriteFault → Result WrittenSummary WriteFault → Type 0
Answers (Ok x) r = IsOk r ⊎ (r ≡ Err WriteFault.Write) ⊎ (r ≡ Err WriteFault.Memory)
Answers (Err WriteFault.Write) r = r ≡ Err WriteFault.Write
Answers (Err f) r = (r ≡ Err f) ⊎ (r ≡ Err WriteFault.Write) ⊎ (r ≡ Err WriteFault.Memory)

abbrev pub WritesIf : Bool → OutputForm → TemplateList → Option (List ℕ) → Option (List ℕ) → Option (List ℕ) → List ℕ → Result WrittenSummary WriteFault → Type 0
WritesIf false form set left old new input r = Writes form set left old new input r
WritesIf true form set left old new input r = WritesPackets form set left old new input r
