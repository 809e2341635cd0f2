use Rattle.fast_load.proofs.Common.{map, take, resolved_of, EntersKeys, keys_of_all}
use Rattle.fast_load.proofs.settle.enter_all.Given as goal

abbrev pub invariant-loop-template : goal.invariant-loop-template
invariant-loop-template l = EntersKeys l.fn.slots l.slots (keys_of_all (map resolved_of (take l.template-index l.templates)))
