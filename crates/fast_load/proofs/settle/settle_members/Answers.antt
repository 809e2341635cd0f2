use Rattle.fast_load.proofs.Common.{ap, ◌∙◌, arith, Key, list_of, size_of, slot_in}
use Rattle.fast_load.proofs.Settling.{size_with_keys}
use Rattle.fast_load.proofs.settle.settle_members.Goals as goal

pub number_all-requires : goal.number_all-requires
number_all-requires c =
    let give : Key → Key = λ k. record k { slot = slot_in c.args.slots.now k } in
    omega (arith, ap size_of c.give_slots.ensures ∙ size_with_keys give (list_of c.args.members.now), c.requires)
