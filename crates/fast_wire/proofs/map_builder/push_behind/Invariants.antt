use Rattle.fast_wire.proofs.Common.{◌≡◌, ◌+◌, ◌++◌, ◌≤◌, length, word_bits}
use Rattle.fast_wire.proofs.map_builder.push_behind.Given as goal

abbrev pub invariant-loop-left : goal.invariant-loop-left
invariant-loop-left l =
    (l.long.items ++ word_bits l.left l.word ≡ word_bits l.count l.word) × (length l.long.items + (l.left + 1) ≤ l.long.cap)
