use Rattle.fast_load.proofs.Common.{◌≡◌, list_of, with_keys, slot_in}
use Rattle.fast_load.proofs.Slotting.{partly}
use Rattle.fast_load.proofs.slots.+giving.Given as goal

abbrev pub invariant-give_slots-loop-flat : goal.invariant-give_slots-loop-flat
invariant-give_slots-loop-flat l = goal.unvisited-give_slots-loop-flat l
    × (partly (λ k. record k { slot = slot_in l.slots k }) l.flats l.flat-index ≡ with_keys (λ k. record k { slot = slot_in l.slots k }) (list_of l.fn.flats))
