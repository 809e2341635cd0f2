use Rattle.std.proofs.Common.{◌≡◌, vec_len}
use Rattle.fast_dictionary.specs.Slots.{AllUndefined}
use Rattle.fast_recording.proofs.entries.PacketEntries.new.Given as goal

abbrev pub invariant-loop : goal.invariant-loop
invariant-loop l = (vec_len l.entries ≡ l.counter) × AllUndefined l.entries.items
