use Rattle.fast_dictionary.proofs.Common.{◌≡◌, vec_len, AllUndefined}
use Rattle.fast_dictionary.proofs.slots.SlotEntries.new.Given as goal

abbrev pub invariant-loop : goal.invariant-loop
invariant-loop l = (vec_len l.entries ≡ l.counter) × AllUndefined l.entries.items
