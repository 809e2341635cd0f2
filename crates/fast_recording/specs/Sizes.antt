-- Why bytes begin with no size of a packet, by what is read of them.
use Rattle.std.specs.Prelude.{◌≡◌, ◌<◌, ◌⊎◌, ℕ, List, Ok, Err}
use Rattle.fast_wire.specs.declared.level.Level.{Level}
use Rattle.fast_stream.specs.declared.fault.Cause.{Cause}
use Rattle.fast_stream.specs.declared.fault.Cause.TheVariants.{Limit}
use Rattle.fast_stream.specs.Blocks.{size_at}
use Rattle.fast_packets.specs.Recordings.{packet_limit}

-- it is none of a block; or it is one, of more bytes than a packet may have
abbrev pub IsNoSize : Level → List ℕ → Cause → Type 0
IsNoSize level bytes cause =
    (size_at level bytes ≡ Err cause)
    ⊎ ((cause ≡ Limit) × (size : ℕ) × (back : List ℕ) × (size_at level bytes ≡ Ok (size, back)) × (packet_limit < size))
