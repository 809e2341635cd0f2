use Rattle.fast_load.proofs.Common.{◌≡◌, map, take, instruction_of}
use Rattle.fast_load.proofs.flat_lists.+copies.Given as goal

abbrev pub invariant-copy_all-loop-flat : goal.invariant-copy_all-loop-flat
invariant-copy_all-loop-flat l = map instruction_of l.others.items ≡ map instruction_of (take l.flat-index l.flats)
