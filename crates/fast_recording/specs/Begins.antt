-- What the bytes behind a packet begin with.
use Rattle.std.specs.Prelude.{◌≡◌, ◌≢◌, ◌≤◌, ◌<◌, ◌⊎◌, ℕ, List, [], length, take, drop, Option, Some, None}
use Rattle.fast_wire.specs.declared.level.Level.{Level}
use Rattle.fast_stream.specs.declared.fault.Cause.{Cause}
use Rattle.fast_stream.specs.Blocks.{IsSize}
use Rattle.fast_packets.specs.Recordings.{Packet, packet_limit}
use Rattle.fast_packets.specs.Outcomes.{PacketSizeFault}
use Rattle.fast_recording.specs.declared.begin.Begin.{Begin}

-- these bytes are a packet, and its stream begins behind so many
pub record IsPacketAt (level : Level) (bytes : List ℕ) (behind : ℕ) : Type 0 where
  pub packet : Packet level bytes (drop behind bytes)
  pub size_is : length packet.size ≡ behind

-- they are a part of a packet, and its stream begins there
pub record IsPartAt (level : Level) (bytes : List ℕ) (behind : ℕ) : Type 0 where
  pub room : ℕ
  pub within : behind ≤ length bytes
  pub size_is : IsSize level (take behind bytes) room
  pub few : room ≤ packet_limit
  pub short : length (drop behind bytes) < room

-- no byte of a packet has come, or a part of its size; or that, and a part of its stream
abbrev pub IsOpenAt : Level → List ℕ → Option ℕ → Type 0
IsOpenAt level bytes None = (bytes ≡ []) ⊎ ((0 < length bytes) × PacketSizeFault level bytes Cause.Truncated)
IsOpenAt level bytes (Some behind) = IsPartAt level bytes behind

abbrev pub Begins : Level → List ℕ → Begin → Type 0
Begins level bytes (Begin.Whole behind end) = (behind ≤ end) × (end ≤ length bytes) × IsPacketAt level (take end bytes) behind
Begins level bytes (Begin.Sizeless cause) = PacketSizeFault level bytes cause × (cause ≢ Cause.Truncated)
Begins level bytes (Begin.Open behind) = IsOpenAt level bytes behind
