-- Which size the packet has that a recording begins with, and what C is answered of it.
use Rattle.std.specs.Prelude.{◌≡◌, ◌<◌, ◌≤◌, ℕ, nat_eq, if◌then◌else◌, List, ◌++◌, length, Option, Some, None, Result, Ok, Err}
use Rattle.fast_wire.specs.declared.level.Level.{Level}
use Rattle.fast_wire.specs.declared.level.Level.TheVariants.{Usual, Strict}
use Rattle.fast_stream.specs.Blocks.{IsSize}
use Rattle.fast_stream.specs.declared.fault.Cause.{Cause}
use Rattle.fast_packets.specs.Outcomes.{PacketSizeFault, size_place}
use Rattle.fast_packets.specs.Recordings.{packet_limit}
use Rattle.fast_slices.specs.Answers.{no_counts}
use Rattle.fast_slices.specs.Calls.{Done}
use Rattle.fast_slices.specs.declared.answer.Refusal.{Refusal}
use Rattle.fast_c.specs.declared.counts.NodeCounts.{NodeCounts}

-- 1 for the strict level; none where a word has another bit
abbrev pub level_of : ℕ → Option Level
level_of word = if nat_eq word 0 then Some Usual else if nat_eq word 1 then Some Strict else None

-- The recording begins with the size of a packet, which has so many bytes, behind so many of the size.
pub record BeginsWithSize (level : Level) (recording : List ℕ) (size used : ℕ) : Type 0 where
  pub form : List ℕ
  pub back : List ℕ
  pub parts : recording ≡ form ++ back
  pub size_is : IsSize level form size
  pub some : 0 < size
  pub few : size ≤ packet_limit
  pub used_is : used ≡ length form

-- why a size is refused; it is the first piece of its packet
abbrev pub size_refused : Cause → Refusal
size_refused cause = Refusal.Stream (record { cause = cause; place = size_place 0 }) 0

-- A size is found, and how many bytes it takes; or it is refused.
abbrev pub SizesAt : Option Level → List ℕ → Result (ℕ × ℕ) Refusal → Type 0
SizesAt None recording answer = answer ≡ Err Refusal.Mode
SizesAt (Some level) recording (Ok found) = BeginsWithSize level recording found.0 found.1
SizesAt (Some level) recording (Err r) = (cause : Cause) × PacketSizeFault level recording cause × (r ≡ size_refused cause)

-- ---- what C is answered

abbrev pub size_told : Result (ℕ × ℕ) Refusal → NodeCounts
size_told (Ok found) = record { used = found.1; messages = 0; nodes = 0; bytes = found.0 }
size_told (Err r) = record { used = 0; messages = 0; nodes = 0; bytes = 0 }

abbrev pub size_done : Result (ℕ × ℕ) Refusal → Done
size_done (Ok found) = Ok no_counts
size_done (Err r) = Err r
