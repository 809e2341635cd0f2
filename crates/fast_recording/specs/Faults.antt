-- What keeps a recording from being read on, and what was counted of its packets.
use Rattle.std.specs.Prelude.{◌≡◌, ◌≢◌, ◌<◌, ◌⊎◌, ℕ, ◌+◌, min, Bool, true, false, List, [], length, Option, Some, None, Result, Ok, Err}
use Rattle.std.specs.Io.KnownBytes.{Appends}
use Rattle.fast_io.specs.Counts.{counted}
use Rattle.fast_io.specs.Traffic.{Taken}
use Rattle.fast_stream.specs.declared.fault.Cause.{Cause}
use Rattle.fast_stream.specs.declared.fault.Fault.{Fault}
use Rattle.fast_stream.specs.declared.place.Place.{Place}
use Rattle.fast_pass.specs.declared.stop.Stop.{Stop}
use Rattle.fast_packets.specs.Outcomes.{size_place}
use Rattle.fast_recording.specs.declared.fault.PacketFault.{PacketFault}
use Rattle.fast_recording.specs.declared.fault.RecordingFault.{RecordingFault}
use Rattle.fast_recording.specs.declared.halt.Halt.{Halt}
use Rattle.fast_recording.specs.declared.packet.Taken.{Taken as PacketTaken}
use Rattle.fast_recording.specs.declared.summary.RecordingSummary.{RecordingSummary}
use Rattle.fast_recording.specs.Told.{refused_line_of}

abbrev pub halt_of : Stop → Halt
halt_of Stop.Write = Halt.Write
halt_of Stop.Memory = Halt.Memory

-- a failed call of the writer keeps a relay from going on, and only that is answered so; likewise of the writer of refusals
abbrev pub write_errors : {T : Type 0} → Result T Halt → ℕ → ℕ
write_errors (Err Halt.Write) old = counted old
write_errors r old = old

abbrev pub tell_errors : {T : Type 0} → Result T Halt → ℕ → ℕ
tell_errors (Err Halt.Tell) old = counted old
tell_errors r old = old

-- what a relay answers, once the writer is flushed
abbrev pub answer_of : Result (Option PacketFault) Halt → RecordingSummary → Result RecordingSummary RecordingFault
answer_of (Ok None) counts = Ok counts
answer_of (Ok (Some refused)) counts = Err (RecordingFault.Packet refused)
answer_of (Err Halt.Write) counts = Err RecordingFault.Write
answer_of (Err Halt.Tell) counts = Err RecordingFault.Tell
answer_of (Err Halt.Memory) counts = Err RecordingFault.Memory

-- ---- what is counted

-- up to the greatest number that a count has
abbrev pub count_more : ℕ → ℕ → ℕ
count_more n k = min (n + k) 18446744073709551615

-- a packet that is refused
abbrev pub counts_refused : RecordingSummary → RecordingSummary
counts_refused c = record { packets = count_more c.packets 1; refused = count_more c.refused 1; messages = c.messages; read = c.read; written = c.written }

-- one more is refused, where it is a fault
abbrev pub count_refused : ℕ → Option Fault → ℕ
count_refused n None = n
count_refused n (Some fault) = count_more n 1

-- what came of a packet of so many bytes, its size among them
abbrev pub counts_taken : RecordingSummary → PacketTaken → ℕ → RecordingSummary
counts_taken c taken size = record {
  packets = count_more c.packets 1;
  refused = count_refused c.refused taken.fault;
  messages = count_more c.messages taken.messages;
  read = count_more c.read size;
  written = count_more c.written taken.written;
}

-- ---- what is told

-- A packet is refused: it is told, where the run goes on, or answered.
abbrev pub Refuses : Bool → PacketFault → Option (List ℕ) → Option (List ℕ) → Result (Option PacketFault) Halt → Type 0
Refuses goes_on f old new (Ok None) = (goes_on ≡ true) × Appends old new (refused_line_of f)
Refuses goes_on f old new (Ok (Some g)) = (goes_on ≡ false) × (g ≡ f) × (new ≡ old)
Refuses goes_on f old new (Err e) = (goes_on ≡ true) × (e ≢ Halt.Write) × ((rest : List ℕ) × Taken old new (refused_line_of f) rest)

-- Where no packet is refused none was before, and the writer of refusals is not called.
abbrev pub IsUntold : {T : Type 0} → RecordingSummary → RecordingSummary → T → T → Type 0
IsUntold before after old new = after.refused ≡ 0 → (before.refused ≡ 0) × (new ≡ old)

-- a place in a stream that begins at this place in the recording, as it is counted
abbrev pub counted_behind : ℕ → Place → Place
counted_behind at p = record { message = p.message; offset = count_more at p.offset; template = p.template; instruction = p.instruction }

-- the fault of a packet whose stream begins there
abbrev pub fault_at : ℕ → ℕ → Fault → PacketFault
fault_at number at fault = record { packet = number; fault = record { cause = fault.cause; place = counted_behind at fault.place } }

-- the refusal of the packet that would come next, for a cause
abbrev pub next_fault : RecordingSummary → Cause → PacketFault
next_fault c cause = record { packet = count_more c.packets 1; fault = record { cause = cause; place = size_place c.read } }

-- what came of a packet is settled: it is accepted, or refused
abbrev pub Settles : Bool → ℕ → ℕ → Option Fault → Option (List ℕ) → Option (List ℕ) → Result (Option PacketFault) Halt → Type 0
Settles goes_on number begin None old new result = (result ≡ Ok None) × (new ≡ old)
Settles goes_on number begin (Some fault) old new result = Refuses goes_on (fault_at number begin fault) old new result

-- the fault is the device's, which is the cause
abbrev pub OfDevice : Option Fault → Cause → Option Fault → Type 0
OfDevice fault cause None = (cause ≡ Cause.Truncated) ⊎ ((f : Fault) → fault ≡ Some f → f.cause ≢ cause)
OfDevice fault cause (Some f) = (fault ≡ Some f) × (f.cause ≡ cause) × (cause ≢ Cause.Truncated)

-- Where no more bytes come for a cause, behind these of a size: the device is answered; or the recording has ended between
-- two packets, or the size is refused.
abbrev pub EndsInSizeBy : Bool → RecordingSummary → RecordingSummary → Option (List ℕ) → Option (List ℕ) → List ℕ → Cause → Result (Option PacketFault) Halt → Type 0
EndsInSizeBy goes_on before after old new bytes cause result =
    ((cause ≢ Cause.Truncated) × (result ≡ Ok (Some (next_fault before cause))) × (after ≡ before) × (new ≡ old))
    ⊎ ((cause ≡ Cause.Truncated) × (bytes ≡ []) × (result ≡ Ok None) × (after ≡ before) × (new ≡ old))
    ⊎ ((cause ≡ Cause.Truncated) × (0 < length bytes) × (after ≡ counts_refused before)
    × Refuses goes_on (record { packet = after.packets; fault = record { cause = cause; place = size_place before.read } }) old new result)
