use Rattle.fast_load.proofs.Common.{◌∷◌, map, rules, subst, sym, btree_map_len, resolved_of, EntersKeys, HasSlots, identifier_key, keys_of_all}
use Rattle.fast_load.proofs.Settling.{settled_slots, counted_slots}
use Rattle.fast_load.proofs.settle.settle.Goals as goal

pub returns-clause-slots : goal.returns-clause-slots
returns-clause-slots c =
    let enters : EntersKeys c.in_ok-slots.slots c.enter_all.new.slots (keys_of_all (map resolved_of c.args.templates.now)) = search rules in
    let has = settled_slots c.in_ok-slots.slots c.enter_all.new.slots (map resolved_of c.args.templates.now) c.in_ok-slots.ensures.slots enters c.requires.bare in
    counted_slots c.next_slot.result (identifier_key ∷ keys_of_all (map resolved_of c.settle_all.new.templates)) (btree_map_len c.enter_all.new.slots)
    (subst (λ rs. HasSlots (identifier_key ∷ keys_of_all rs) (btree_map_len c.enter_all.new.slots)) (sym c.settle_all.ensures) has) c.next_slot.ensures
