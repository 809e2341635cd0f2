-- What comes of a recording, packet by packet: each is accepted or refused, and its first refusal.
-- Own: which check comes first, and the places. Bytes are counted from 0, and packets and the messages of each from 1.
use Rattle.std.specs.Prelude.{◌≡◌, ◌<◌, ◌≤◌, ◌⊎◌, ℕ, ◌+◌, Bool, true, false, List, [], ◌∷◌, ◌++◌, length, map, Option, Some, None}
use Rattle.fast_wire.specs.declared.level.Level.{Level}
use Rattle.fast_template.specs.Resolved.{Resolved}
use Rattle.fast_stream.specs.declared.fault.Cause.{Cause}
use Rattle.fast_stream.specs.declared.fault.Cause.TheVariants.{Limit, Truncated}
use Rattle.fast_stream.specs.declared.fault.Fault.{Fault}
use Rattle.fast_stream.specs.declared.place.Place.{Place}
use Rattle.fast_stream.specs.Nodes.{Content}
use Rattle.fast_stream.specs.Bodies.{Then}
use Rattle.fast_stream.specs.Blocks.{IsSize, SizeFault, block_cause}
use Rattle.fast_stream.specs.Faults.{place_between}
use Rattle.fast_stream.specs.Modes.{Carries, FirstFault, plainly}
use Rattle.fast_packets.specs.Recordings.{Packet, packet_limit}

-- ---- why a packet is refused

-- a size: as a block's, or it is more than a packet may have
abbrev pub PacketSizeFault : Level → List ℕ → Cause → Type 0
PacketSizeFault level rest cause =
    SizeFault level rest cause
    ⊎ ((cause ≡ Limit) × Then (λ size (n : ℕ). IsSize level size n) (λ n back. packet_limit < n) rest)

-- the place of a size that stands behind so many bytes of the recording
abbrev pub size_place : ℕ → Place
size_place at = record { message = 1; offset = at; template = 0; instruction = 0 }

-- a place in a stream that stands behind so many bytes of the recording
abbrev pub placed_behind : ℕ → Place → Place
placed_behind at p = record { message = p.message; offset = at + p.offset; template = p.template; instruction = p.instruction }

-- A stream's first fault, and the messages before it.
pub record Stops (level : Level) (set : List Resolved) (stream : List ℕ) (messages : List Content) (place : Place) (cause : Cause) : Type 0 where
  pub fault : FirstFault (plainly level) set stream place cause
  pub before : fault.messages ≡ messages

-- The packet is whole and its stream is refused; where a piece wants more bytes than the packet has, that is the cause.
pub record RefusesPacket (level : Level) (set : List Resolved) (at : ℕ) (bytes : List ℕ) (messages : List Content) (place : Place) (cause : Cause) : Type 0 where
  pub stream : List ℕ
  pub packet : Packet level bytes stream
  pub within : Place
  pub found : Cause
  pub stops : Stops level set stream messages within found
  pub cause_is : cause ≡ block_cause true found
  pub place_is : place ≡ placed_behind (at + length packet.size) within

-- The recording ends inside a packet. What has come of its stream is refused; or it is messages, and the next one is missing.
pub record CutPacket (level : Level) (set : List Resolved) (at : ℕ) (bytes : List ℕ) (messages : List Content) (place : Place) (cause : Cause) : Type 0 where
  pub size : List ℕ
  pub come : List ℕ
  pub room : ℕ
  pub parts : bytes ≡ size ++ come
  pub size_is : IsSize level size room
  pub few : room ≤ packet_limit
  pub short : length come < room
  pub within : Place
  pub stops : Stops level set come messages within cause
      ⊎ (Carries (plainly level) set come messages × (within ≡ place_between (length come) (length messages)) × (cause ≡ Truncated))
  pub place_is : place ≡ placed_behind (at + length size) within

-- ---- what comes of each packet

-- A packet's messages; or those before its fault, with that; or the fault of a size, behind which no packet is known.
pub data Outcome : Type 0 where
  accepted : List Content → Outcome
  refused : List Content → Place → Cause → Outcome
  sizeless : Place → Cause → Outcome

-- a front, and what is behind so many bytes more
pub record Behind (First : List ℕ → Type 0) (Later : ℕ → List ℕ → Type 0) (at : ℕ) (bytes : List ℕ) : Type 0 where
  pub front : List ℕ
  pub back : List ℕ
  pub parts : bytes ≡ front ++ back
  pub first : First front
  pub later : Later (at + length front) back

-- a whole packet that carries these messages
pub record Accepts (level : Level) (set : List Resolved) (bytes : List ℕ) (messages : List Content) : Type 0 where
  pub stream : List ℕ
  pub packet : Packet level bytes stream
  pub carried : Carries (plainly level) set stream messages

-- behind a refused packet the next one is read, or nothing is
abbrev pub Onward : Bool → List Outcome → Type 0 → Type 0
Onward true later Goes = Goes
Onward false later Goes = later ≡ []

-- What comes of a recording, of which these bytes stand behind so many others: of each of its packets, each from undefined
-- entries, or up to its first refusal. No packet is known behind one that is not whole.
abbrev pub Outcomes : Bool → Level → List Resolved → ℕ → List ℕ → List Outcome → Type 0
Outcomes goes_on level set at bytes [] = bytes ≡ []
Outcomes goes_on level set at bytes (accepted ms ∷ later) =
    Behind (λ x. Accepts level set x ms) (λ n y. Outcomes goes_on level set n y later) at bytes
Outcomes goes_on level set at bytes (refused ms place cause ∷ later) =
    Behind (λ x. RefusesPacket level set at x ms place cause) (λ n y. Onward goes_on later (Outcomes goes_on level set n y later)) at bytes
    ⊎ (CutPacket level set at bytes ms place cause × (later ≡ []))
Outcomes goes_on level set at bytes (sizeless place cause ∷ later) =
    (0 < length bytes) × PacketSizeFault level bytes cause × (place ≡ size_place at) × (later ≡ [])

abbrev pub refusal_in : Outcome → Option Fault
refusal_in (accepted ms) = None
refusal_in (refused ms place cause) = Some (record { cause = cause; place = place })
refusal_in (sizeless place cause) = Some (record { cause = cause; place = place })

-- The recording is packets that are accepted, and then one that is refused, with this number, place and cause.
pub record FirstRefusal (level : Level) (set : List Resolved) (bytes : List ℕ) (number : ℕ) (fault : Fault) : Type 0 where
  pub packets : List (List Content)
  pub last : Outcome
  pub outcomes : Outcomes false level set 0 bytes (map accepted packets ++ last ∷ [])
  pub refusal : refusal_in last ≡ Some fault
  pub number_is : number ≡ length packets + 1
