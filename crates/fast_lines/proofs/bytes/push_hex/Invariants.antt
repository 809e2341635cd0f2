use Rattle.fast_lines.proofs.Common.{◌≡◌, ◌++◌, take, encode_lower}
use Rattle.fast_lines.proofs.bytes.push_hex.Given as goal

abbrev pub invariant-loop-byte : goal.invariant-loop-byte
invariant-loop-byte l = l.out.items ≡ l.fn.out.items ++ encode_lower (take l.byte-index l.bytes)
