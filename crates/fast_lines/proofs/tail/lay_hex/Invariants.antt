use Rattle.fast_lines.proofs.Common.{◌≡◌, ◌+◌, ◌++◌, length, take, encode_lower}
use Rattle.fast_lines.proofs.tail.lay_hex.Given as goal

abbrev pub invariant-loop-byte : goal.invariant-loop-byte
invariant-loop-byte l =
    (l.next ≡ l.at + (l.byte-index + l.byte-index))
    × (take l.next l.bytes ≡ take l.at l.fn.bytes ++ encode_lower (take l.byte-index l.vector))
    × (length l.bytes ≡ length l.fn.bytes)
