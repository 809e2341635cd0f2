-- What is read of a size says which packet begins there.
use Rattle.std.proofs.Common.{◌≡◌, ◌∙◌, ◌<◌, ◌≤◌, ℕ, List, Ok, ap, arith, drop, length, length-append}
use Rattle.std.proofs.lemmas.List.{length-drop}
use Rattle.fast_wire.specs.Reader.{IsBytes}
use Rattle.fast_wire.specs.declared.level.Level.{Level}
use Rattle.fast_stream.specs.Blocks.{size_at}
use Rattle.fast_stream.proofs.BlockSizes.{size_found}
use Rattle.fast_packets.specs.Recordings.{packet_limit}
use Rattle.fast_c.specs.Sizes.{BeginsWithSize}

pub size_begins : (level : Level) (bytes : List ℕ) (size used : ℕ) → IsBytes bytes → used ≤ length bytes → 0 < size → size ≤ packet_limit → size_at level bytes ≡ Ok (size, drop used bytes) → BeginsWithSize level bytes size used
size_begins level bytes size used fits within some few read =
    let o = size_found level bytes size (drop used bytes) fits read in
    let whole = ap (λ (z : List ℕ). length z) o.parts ∙ length-append o.size (drop used bytes) in
    let rest = length-drop used bytes in
    record { form = o.size; back = drop used bytes; parts = o.parts; size_is = o.opens.0; some = some; few = few; used_is = omega (arith, whole, rest, within) }
