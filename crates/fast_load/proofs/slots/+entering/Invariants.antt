use Rattle.fast_load.proofs.Common.{take, list_of, keys_of, EntersKeys}
use Rattle.fast_load.proofs.slots.+entering.Given as goal

abbrev pub invariant-enter_keys-loop-flat : goal.invariant-enter_keys-loop-flat
invariant-enter_keys-loop-flat l = EntersKeys l.fn.slots l.slots (keys_of (list_of (take l.flat-index l.flats)))
