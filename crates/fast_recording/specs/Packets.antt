-- What comes of one packet on its way through an output.
use Rattle.std.specs.Prelude.{◌≡◌, ◌≢◌, ◌⊎◌, ℕ, ◌+◌, Bool, true, false, List, [], ◌++◌, length, Option, Some, None, Result, Ok, Err, MatchResult}
use Rattle.std.specs.Io.KnownBytes.{Appends}
use Rattle.fast_io.specs.Counts.{counted_by}
use Rattle.fast_wire.specs.declared.level.Level.{Level}
use Rattle.fast_template.specs.Resolved.{Resolved}
use Rattle.fast_dictionary.specs.declared.entries.Entries.{Ghosts}
use Rattle.fast_stream.specs.declared.fault.Cause.{Cause}
use Rattle.fast_stream.specs.declared.fault.Fault.{Fault}
use Rattle.fast_stream.specs.declared.place.Place.{Place}
use Rattle.fast_stream.specs.Nodes.{Content}
use Rattle.fast_stream.specs.Blocks.{block_cause}
use Rattle.fast_stream.specs.Faults.{place_between}
use Rattle.fast_stream.specs.Modes.{Carries, plainly}
use Rattle.fast_walk.specs.declared.receiver.Receiver.{Ghosts as Receiving}
use Rattle.fast_machine.specs.declared.machine.Machine.{Machine}
use Rattle.fast_machine.specs.Standing.{Carried}
use Rattle.fast_machine.specs.declared.reached.Reached.{Reached}
use Rattle.fast_pass.specs.declared.stop.Stop.{Stop}
use Rattle.fast_pass.specs.Relays.{HasMade, IsOfBytes, Making, Way, handing, outset}
use Rattle.fast_packets.specs.Outcomes.{Stops}
use Rattle.fast_recording.specs.declared.packet.Taken.{Taken as PacketTaken}
use Rattle.fast_recording.specs.Handing.{BreakInLines, StepInLines, WritesFront}
use Rattle.fast_recording.specs.Made.{Leads, MadeBefore, MadePacket, Numbering}
use Rattle.fast_recording.specs.PacketLines.{Writes}
use Rattle.fast_recording.specs.declared.packet_lines.PacketLines.{PacketLines}

-- all that an output made is handed on, and it has messages of the set
abbrev pub Rests : {O E : Type 0} {receiver : Receiving O} {entries : Ghosts E} → (O → List ℕ) → Machine O E receiver entries → Type 0
Rests waiting m = (waiting m.receiver ≡ []) × (way : Way) × HasMade m way

-- A packet's bytes were read, as far as they go; what is made of them is handed on only where packets have no size.
abbrev pub ReadsPacket : {O E : Type 0} {receiver : Receiving O} {entries : Ghosts E} → Bool → (O → List ℕ) → Making → Result Reached Stop → PacketLines → PacketLines → Machine O E receiver entries → ℕ → Option (List ℕ) → Option (List ℕ) → Option (List ℕ) → List ℕ → Type 0
ReadsPacket sized waiting makes result lines_old lines_new new turns left taken_old taken_new bytes = MatchResult result
    (λ at. (s : StepInLines waiting makes at lines_old lines_new new turns left taken_old taken_new outset bytes (IsOfBytes at)) × (sized ≡ true → s.0 ≡ []))
    (λ e. (b : BreakInLines makes lines_old new taken_old taken_new outset bytes) × (sized ≡ true → b.0 ≡ []))

-- What waits of a packet is handed on and written, behind its size.
pub record Puts {O E : Type 0} {receiver : Receiving O} {entries : Ghosts E} (sized : Bool) (waiting : O → List ℕ) (lines_old lines_new : PacketLines) (old new : Machine O E receiver entries) (taken_old taken_new : Option (List ℕ)) : Type 0 where
  pub size : List ℕ
  pub leads : Leads sized size (waiting old.receiver)
  pub writes : Writes lines_old lines_new taken_old taken_new (size ++ waiting old.receiver)
  pub empty : waiting new.receiver ≡ []
  pub has : (way : Way) → HasMade old way → HasMade new (handing way (waiting old.receiver))

-- or a front of both is
abbrev pub PutsPacket : {O E : Type 0} {receiver : Receiving O} {entries : Ghosts E} → Bool → (O → List ℕ) → Result (Unit {0}) Stop → PacketLines → PacketLines → Machine O E receiver entries → Machine O E receiver entries → Option (List ℕ) → Option (List ℕ) → Type 0
PutsPacket sized waiting (Ok done) lines_old lines_new old new taken_old taken_new = Puts sized waiting lines_old lines_new old new taken_old taken_new
PutsPacket sized waiting (Err s) lines_old lines_new old new taken_old taken_new =
    Appends taken_old taken_new []
    ⊎ ((size : List ℕ) × Leads sized size (waiting old.receiver) × WritesFront lines_old taken_old taken_new (size ++ waiting old.receiver))

-- what is written of a refused packet, of what waits
abbrev pub kept_of : Bool → List ℕ → List ℕ
kept_of true out = []
kept_of false out = out

-- What waits of a refused packet is handed on and written, or dropped where it would have a size.
pub record Leaves {O E : Type 0} {receiver : Receiving O} {entries : Ghosts E} (sized : Bool) (waiting : O → List ℕ) (lines_old lines_new : PacketLines) (old new : Machine O E receiver entries) (taken_old taken_new : Option (List ℕ)) : Type 0 where
  pub writes : Writes lines_old lines_new taken_old taken_new (kept_of sized (waiting old.receiver))
  pub empty : waiting new.receiver ≡ []
  pub has : (way : Way) → HasMade old way → HasMade new (handing way (waiting old.receiver))

abbrev pub LeavesPacket : {O E : Type 0} {receiver : Receiving O} {entries : Ghosts E} → Bool → (O → List ℕ) → Result (Unit {0}) Stop → PacketLines → PacketLines → Machine O E receiver entries → Machine O E receiver entries → Option (List ℕ) → Option (List ℕ) → Type 0
LeavesPacket sized waiting (Ok done) lines_old lines_new old new taken_old taken_new = Leaves sized waiting lines_old lines_new old new taken_old taken_new
LeavesPacket sized waiting (Err s) lines_old lines_new old new taken_old taken_new =
    Appends taken_old taken_new [] ⊎ ((sized ≡ false) × WritesFront lines_old taken_old taken_new (waiting old.receiver))

-- ---- what is answered

-- where a piece is missing behind these bytes, or the next message
abbrev pub IsMissing : Level → List Resolved → List ℕ → List Content → Place → Type 0
IsMissing level set bytes ms place =
    Stops level set bytes ms place Cause.Truncated
    ⊎ (Carries (plainly level) set bytes ms × (place ≡ place_between (length bytes) (length ms)))

-- Why a packet is refused of which these bytes are all, or of which no more come for a cause.
abbrev pub FaultOf : Level → List Resolved → List ℕ → Option Cause → List Content → Fault → Type 0
FaultOf level set bytes None ms f = (found : Cause) × Stops level set bytes ms f.place found × (f.cause ≡ block_cause true found)
FaultOf level set bytes (Some cause) ms f =
    (Stops level set bytes ms f.place f.cause × (f.cause ≢ Cause.Truncated) × (f.cause ≢ Cause.Read) × (f.cause ≢ Cause.Turns))
    ⊎ ((f.cause ≡ cause) × IsMissing level set bytes ms f.place)

abbrev pub CameOf : Bool → Making → Level → List Resolved → List ℕ → Option Cause → List Content → List ℕ → Option Fault → Type 0
CameOf sized makes level set bytes cut ms out None = (cut ≡ None) × Carries (plainly level) set bytes ms × MadePacket sized makes set ms out
CameOf sized makes level set bytes cut ms out (Some f) = MadeBefore sized makes set ms out × FaultOf level set bytes cut ms f

-- What was found behind these bytes of a packet: they are messages, and all of it; or it is refused, or memory was.
abbrev pub FoundBehind : {O E : Type 0} {receiver : Receiving O} {entries : Ghosts E} → (O → List ℕ) → Making → Level → List Resolved → Option Cause → Way → Option Fault → Machine O E receiver entries → Type 0
FoundBehind waiting makes level set cut way None new =
    (cut ≡ None) × Carries (plainly level) set way.input way.messages × (new.messages ≡ length way.messages)
    × HasMade new way × makes set way.messages (way.handed ++ waiting new.receiver)
FoundBehind waiting makes level set cut way (Some f) new =
    Carried (plainly level) set way.input way.messages × (f.place.message ≡ length way.messages + 1)
    × (f.cause ≢ Cause.Memory → FaultOf level set way.input cut way.messages f)
    × HasMade new way × makes set way.messages (way.handed ++ waiting new.receiver)

-- a front of what the lines are in which a packet of these messages is written
abbrev pub FrontInLines : (List ℕ → List ℕ) → Bool → Making → List Resolved → List Content → List ℕ → Type 0
FrontInLines lines sized makes set ms out = (out ≡ []) ⊎ ((text : List ℕ) × (rest : List ℕ) × MadePacket sized makes set ms text × (out ++ rest ≡ lines text))

-- A packet was read and written in lines, or a front of what is made of messages of it.
abbrev pub TakesPacket : (List ℕ → List ℕ) → Bool → Making → Level → List Resolved → Option (List ℕ) → Option (List ℕ) → List ℕ → Option Cause → Result PacketTaken Stop → Type 0
TakesPacket lines sized makes level set taken_old taken_new bytes cut (Ok taken) =
    (ms : List Content) × (text : List ℕ) × Appends taken_old taken_new (lines text) × (taken.written ≡ counted_by 0 (length (lines text)))
    × (taken.messages ≡ length ms) × CameOf sized makes level set bytes cut ms text taken.fault
TakesPacket lines sized makes level set taken_old taken_new bytes cut (Err s) =
    (ms : List Content) × (out : List ℕ) × Appends taken_old taken_new out × Carried (plainly level) set bytes ms
    × FrontInLines lines sized makes set ms out

-- ---- a packet with a number

-- a packet was read and written, with its number in it
abbrev pub TakesNumbered : Numbering → Bool → Making → Level → List Resolved → ℕ → Option (List ℕ) → Option (List ℕ) → List ℕ → Option Cause → Result PacketTaken Stop → Type 0
TakesNumbered numbering sized makes level set number taken_old taken_new bytes cut result = TakesPacket (numbering number) sized makes level set taken_old taken_new bytes cut result

-- or a front of what is made of messages of it
abbrev pub BreaksNumbered : Numbering → Bool → Making → Level → List Resolved → ℕ → Option (List ℕ) → Option (List ℕ) → List ℕ → Type 0
BreaksNumbered numbering sized makes level set number taken_old taken_new bytes =
    (ms : List Content) × (out : List ℕ) × Appends taken_old taken_new out × Carried (plainly level) set bytes ms × FrontInLines (numbering number) sized makes set ms out
