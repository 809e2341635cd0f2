-- What an output makes of packets, and how it is written.
use Rattle.std.specs.Prelude.{◌≡◌, ◌⊎◌, ℕ, ◌+◌, Bool, true, false, List, [], ◌∷◌, ◌++◌, length, Option, Some, None}
use Rattle.fast_wire.specs.Integer.{IsUnsigned}
use Rattle.fast_wire.specs.Writing.{IsShortest}
use Rattle.fast_template.specs.Resolved.{Resolved}
use Rattle.fast_stream.specs.Nodes.{Content}
use Rattle.fast_pass.specs.Relays.{Making}
use Rattle.fast_recording.specs.PacketLines.{numbered}
use Rattle.fast_packets.specs.Outcomes.{Outcome, accepted, refused, sizeless}

-- the size in front of what is made of a packet: the shortest, or none where packets have none
abbrev pub Leads : Bool → List ℕ → List ℕ → Type 0
Leads true size out = IsShortest IsUnsigned size (length out)
Leads false size out = size ≡ []

-- of the messages of a packet what an output makes of them, behind its size
pub record MadePacket (sized : Bool) (makes : Making) (set : List Resolved) (ms : List Content) (bytes : List ℕ) : Type 0 where
  pub size : List ℕ
  pub out : List ℕ
  pub parts : bytes ≡ size ++ out
  pub leads : Leads sized size out
  pub made : makes set ms out

-- of one that is refused: nothing where it would have a size, else what is made of the messages before its fault
abbrev pub MadeBefore : Bool → Making → List Resolved → List Content → List ℕ → Type 0
MadeBefore true makes set ms bytes = bytes ≡ []
MadeBefore false makes set ms bytes = makes set ms bytes

abbrev pub MadeOne : Bool → Making → List Resolved → Outcome → List ℕ → Type 0
MadeOne sized makes set (accepted ms) bytes = MadePacket sized makes set ms bytes
MadeOne sized makes set (refused ms place cause) bytes = MadeBefore sized makes set ms bytes
MadeOne sized makes set (sizeless place cause) bytes = bytes ≡ []

-- ---- how it is written

-- what is written for a packet with a number, by what comes of it
abbrev pub Writing : Type 1
Writing = ℕ → Outcome → List ℕ → Type 0

-- what is written for packets that are counted from a number on, one behind the other
abbrev pub WrittenOf : Writing → ℕ → List Outcome → List ℕ → Type 0
WrittenOf Writes number [] bytes = bytes ≡ []
WrittenOf Writes number (o ∷ later) bytes =
    (front : List ℕ) × (back : List ℕ) × (bytes ≡ front ++ back) × Writes number o front × WrittenOf Writes (number + 1) later back

-- a front of what is written for a packet of these messages
abbrev pub FrontWritten : Writing → ℕ → List Content → List ℕ → Type 0
FrontWritten Writes number ms bytes = (bytes ≡ []) ⊎ ((rest : List ℕ) × Writes number (accepted ms) (bytes ++ rest))

-- how a packet's number stands in what is made of it
abbrev pub Numbering : Type 0
Numbering = ℕ → List ℕ → List ℕ

-- nowhere
abbrev pub unnumbered : Numbering
unnumbered number text = text

-- in each of its lines, or nowhere
abbrev pub numbering_of : Bool → Numbering
numbering_of true = numbered
numbering_of false = unnumbered

-- the number that stands in the lines of a packet
abbrev pub number_of : Bool → ℕ → Option ℕ
number_of true number = Some number
number_of false number = None

-- what an output makes of a packet, with its number in it
abbrev pub WritesMade : Numbering → Bool → Making → List Resolved → Writing
WritesMade numbering sized makes set number outcome bytes = (text : List ℕ) × MadeOne sized makes set outcome text × (bytes ≡ numbering number text)
