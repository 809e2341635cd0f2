use Rattle.std.proofs.Common.{refl, rules}
use Rattle.fast_dictionary.proofs.map.MapEntriesEntries.reset.Goals as goal

pub returns-clause-cleared : goal.returns-clause-cleared
returns-clause-cleared c = search rules

pub returns-clause-same_keys : goal.returns-clause-same_keys
returns-clause-same_keys c = refl
