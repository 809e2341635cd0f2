use Rattle.std.proofs.Common.{◌≡◌, ◌≤◌, length}
use Rattle.json.specs.Json.{Json, object, Members}
use Rattle.json.specs.Tree.{depth, json_tokens}
use Rattle.fast_spelled.proofs.Heads.{LineLeft}
use Rattle.fast_spelled.proofs.head.read_head.Given as goal

abbrev pub invariant-loop-name : goal.invariant-loop-name
invariant-loop-name l = (j : Json) → depth j ≤ 128 → l.fn.reader ≡ json_tokens j → (ms : Members) × (j ≡ object ms) × LineLeft l.packets ms l.reader l.head l.packet

abbrev pub decreases-loop-name : goal.decreases-loop-name
decreases-loop-name l = length l.reader
