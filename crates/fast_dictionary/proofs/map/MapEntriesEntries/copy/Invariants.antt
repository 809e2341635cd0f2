use Rattle.fast_dictionary.proofs.Common.{◌≡◌, from_pairs}
use Rattle.fast_dictionary.proofs.OrderedMaps.{onto}
use Rattle.fast_dictionary.proofs.map.MapEntriesEntries.copy.Given as goal

abbrev pub invariant-loop-key : goal.invariant-loop-key
invariant-loop-key l = onto l.key-iterator.iter (from_pairs l.entries.entries) ≡ l.self
