-- What waits in a builder until it is taken.
use Rattle.std.specs.Prelude.{◌≡◌, Bool, ◌||◌, nat_le, [], length}
use Rattle.fast_tape.specs.declared.builder.TapeBuilder.{TapeBuilder}
use Rattle.fast_tape.specs.declared.builder.Taken.{Taken}

-- so many nodes or bytes wait that no more messages are read before these are taken
abbrev pub is_full : TapeBuilder → Bool
is_full b = nat_le 65536 (length b.whole.nodes.items) || nat_le 1048576 (length b.whole.bytes.items)

-- how many messages, nodes and bytes wait
abbrev pub counts_of : TapeBuilder → Taken
counts_of b = record { messages = b.messages; nodes = length b.whole.nodes.items; bytes = length b.whole.bytes.items }

-- nothing waits, and what is open is the same
abbrev pub Forgets : TapeBuilder → TapeBuilder → Type 0
Forgets old new = (new.whole.nodes.items ≡ []) × (new.whole.bytes.items ≡ []) × (new.messages ≡ 0) × (new.«open» ≡ old.«open») × (new.exponent ≡ old.exponent)
