-- What a recording carries: packets, each a size and as many bytes, which are a stream of their own. Nothing goes from packet
-- to packet.
-- Own: FAST 1.1 says nothing of how datagrams are kept; the size is a block's, Transfer Encoding, Blocks.
use Rattle.std.specs.Prelude.{◌≡◌, ◌<◌, ◌≤◌, ℕ, List, [], ◌∷◌, ◌++◌, length}
use Rattle.fast_wire.specs.declared.level.Level.{Level}
use Rattle.fast_template.specs.Resolved.{Resolved}
use Rattle.fast_stream.specs.Nodes.{Content}
use Rattle.fast_stream.specs.Bodies.{Then}
use Rattle.fast_stream.specs.Blocks.{IsSize}
use Rattle.fast_stream.specs.Modes.{Carries, plainly}

-- the most bytes of a packet
abbrev pub packet_limit : ℕ
packet_limit = 65535

-- a size, and as many bytes, which are a stream of their own
pub record Packet (level : Level) (bytes stream : List ℕ) : Type 0 where
  pub size : List ℕ
  pub parts : bytes ≡ size ++ stream
  pub size_is : IsSize level size (length stream)
  pub some : 0 < length stream
  pub few : length stream ≤ packet_limit

-- The recording carries these messages, packet by packet, each packet from the dictionary in which every entry is undefined.
abbrev pub CarriesPackets : Level → List Resolved → List ℕ → List (List Content) → Type 0
CarriesPackets level set bytes [] = bytes ≡ []
CarriesPackets level set bytes (ms ∷ packets) =
    Then (λ x (stream : List ℕ). Packet level x stream × Carries (plainly level) set stream ms) (λ stream y. CarriesPackets level set y packets) bytes
