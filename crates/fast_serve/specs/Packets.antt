-- What the program answers where a packet is refused, or a device failed while a recording was read.
use Rattle.std.specs.Prelude.{◌≡◌, ◌⊎◌, ℕ, suc, zero, String}
use Rattle.std.specs.String.{string_bytes}
use Rattle.std.specs.declared.alloc.Global.{Global}
use Rattle.fast_host.specs.Refusals.{IsKnownOr, machine_refusal_of}
use Rattle.fast_host.specs.declared.refusal.Refusal.{Refusal}
use Rattle.fast_recording.specs.Told.{refused_line_of}
use Rattle.fast_recording.specs.declared.fault.PacketFault.{PacketFault}
use Rattle.fast_recording.specs.declared.fault.RecordingFault.{RecordingFault}
use Rattle.fast_serve.specs.declared.ended.Ended.{Ended}

-- the line of the refused packet, or want of memory for it
abbrev pub IsPacketOrMemory : PacketFault → Refusal → Type 0
IsPacketOrMemory f r =
    (r ≡ Refusal.Memory) ⊎ ((line : String Global) × (r ≡ Refusal.Stream line) × (string_bytes line ≡ refused_line_of f))

-- a device that failed has words of its own
abbrev pub IsOfPacket : PacketFault → Refusal → Type 0
IsOfPacket f r = IsKnownOr (machine_refusal_of f.fault.cause) (IsPacketOrMemory f) r

-- what a recording that was not read to its end is answered with
abbrev pub IsOfRecording : RecordingFault → Refusal → Type 0
IsOfRecording (RecordingFault.Packet f) r = IsOfPacket f r
IsOfRecording RecordingFault.Write r = r ≡ Refusal.Write
IsOfRecording RecordingFault.Tell r = r ≡ Refusal.Write
IsOfRecording RecordingFault.Memory r = r ≡ Refusal.Memory

-- how a recording ended that was read to its end, by how many packets were refused
abbrev pub ended_of : ℕ → Ended
ended_of zero = Ended.Accepted
ended_of (suc n) = Ended.WithRefusals
