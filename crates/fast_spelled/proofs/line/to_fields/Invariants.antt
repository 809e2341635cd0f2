use Rattle.std.proofs.Common.{◌≡◌, ◌≤◌, length}
use Rattle.json.specs.Json.{object, Members}
use Rattle.json.specs.Tree.{json_tokens, members_depth}
use Rattle.fast_spelled.proofs.Heads.{FieldsLeft}
use Rattle.fast_spelled.proofs.line.to_fields.Given as goal

abbrev pub invariant-loop-name : goal.invariant-loop-name
invariant-loop-name l = (ms : Members) → members_depth ms ≤ 127 → l.fn.reader ≡ json_tokens (object ms) → FieldsLeft ms l.reader

abbrev pub decreases-loop-name : goal.decreases-loop-name
decreases-loop-name l = length l.reader
