-- What stands around an instruction, as the program hands it on.
use Rattle.std.specs.Prelude.{option_map}
use Rattle.fast_load.specs.declared.surroundings.Around.{Around}
use Rattle.fast_load.specs.FlatLists.{Context}

abbrev pub context_in : Around → Context
context_in a = record { template = a.template; dictionary = option_map (λ s. s.now) a.dictionary; type_ref = option_map (λ s. s.now) a.type_ref }
