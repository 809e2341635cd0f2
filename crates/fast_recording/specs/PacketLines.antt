-- How the text of a packet is written in lines (our own).
use Rattle.std.specs.Prelude.{◌≡◌, ℕ, ◌+◌, ◌-◌, ◌<◌, ◌≤◌, ◌==◌, false, List, ◌++◌, Option, Some, None, length, take, slice_index}
use Rattle.std.specs.Io.KnownBytes.{Appends}
use Rattle.fast_io.specs.Counts.{counted_by}
pub use Rattle.fast_packets.specs.Numbered.{labelled, numbered, packet_label}
use Rattle.fast_recording.specs.declared.packet_lines.PacketLines.{PacketLines}

-- how the text of a packet is written: as it is, or with the packet's number in each line
abbrev pub lines_of : Option ℕ → List ℕ → List ℕ
lines_of None text = text
lines_of (Some n) text = numbered n text

-- ---- lines that are on their way

-- what is written of the next bytes
abbrev pub written_by : PacketLines → List ℕ → List ℕ
written_by lines = labelled lines.label.items lines.begins

-- nothing is written yet of the text of a packet
abbrev pub IsBegun : Option ℕ → PacketLines → Type 0
IsBegun number lines = (text : List ℕ) → written_by lines text ≡ lines_of number text

-- what is written goes on so behind these bytes
abbrev pub LeadsOn : (List ℕ → List ℕ) → (List ℕ → List ℕ) → List ℕ → Type 0
LeadsOn before behind bytes = (more : List ℕ) → before (bytes ++ more) ≡ before bytes ++ behind more

-- These bytes were written, what is written behind them goes on so, and where so many were counted so many more are.
pub record Writes (old new : PacketLines) (taken_old taken_new : Option (List ℕ)) (bytes : List ℕ) : Type 0 where
  pub written : Appends taken_old taken_new (written_by old bytes)
  pub leads_on : LeadsOn (written_by old) (written_by new) bytes
  pub counted : (n : ℕ) → old.written ≡ counted_by 0 n → new.written ≡ counted_by 0 (n + length (written_by old bytes))

-- Inside a line so many bytes stay as they are, and whether a line begins behind them the last of them says.
pub record IsPiece (bytes : List ℕ) (n : ℕ) : Type 0 where
  pub some : 0 < length bytes → 0 < n
  pub within : n ≤ length bytes
  pub stays : (label more : List ℕ) → labelled label false (take n bytes ++ more) ≡ take n bytes ++ labelled label (slice_index bytes (n - 1) == 10) more
