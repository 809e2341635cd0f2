use Rattle.fast_load.proofs.Common.{◌≡◌, ◌+◌, Some, None, sym, ◌∙◌, rules, get, Updates, btree_map_len, key_cmp}
use Rattle.fast_load.proofs.Slotting.{key_there, key_new}
use Rattle.fast_load.proofs.slots.enter_key.Goals as goal

pub returns-then-contains_key : goal.returns-then-contains_key
returns-then-contains_key c = key_there c.args.slots.now c.args.key.now (sym c.contains_key.ensures ∙ c.if-contains_key.true)

pub returns : goal.returns
returns c =
    let none : get key_cmp c.args.slots.now c.args.key.now ≡ None = search rules depth 3 in
    let updates : Updates key_cmp c.args.slots.now c.insert.new.self c.args.key.now (Some (btree_map_len c.args.slots.now)) = search rules depth 3 in
    let longer : btree_map_len c.insert.new.self ≡ btree_map_len c.args.slots.now + 1 = search rules depth 3 in
    key_new c.args.slots.now c.insert.new.self c.args.key.now none updates longer
