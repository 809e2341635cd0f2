use Rattle.std.proofs.Common.{◌≡◌, ◌++◌, map, take}
use Rattle.fast_tape.specs.Moved.{moved}
use Rattle.fast_tape.proofs.tape.push_moved.Given as goal

abbrev pub invariant-loop-node : goal.invariant-loop-node
invariant-loop-node l = l.nodes.items ≡ l.initial.nodes.items ++ map (moved l.by) (take l.node-index l.others)
