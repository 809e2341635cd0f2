-- Nodes whose bytes stand behind others.
use Rattle.std.specs.Prelude.{ℕ, ◌+◌, ◌||◌, nat_lt, if◌then◌else◌}
use Rattle.fast_tape.specs.declared.node.TapeNode.{TapeNode}
use Rattle.fast_tape.specs.Tapes.{ascii_kind, bytes_kind}

-- a node behind so many more bytes: if it is of a string, the place of that
abbrev pub moved : ℕ → TapeNode → TapeNode
moved by n = if nat_lt n.kind ascii_kind || nat_lt bytes_kind n.kind then n else record { kind = n.kind; instruction = n.instruction; number = n.number + by; mantissa = n.mantissa; length = n.length; exponent = n.exponent }

-- the same node with another length
abbrev pub with_length : TapeNode → ℕ → TapeNode
with_length n own = record { kind = n.kind; instruction = n.instruction; number = n.number; mantissa = n.mantissa; length = own; exponent = n.exponent }
