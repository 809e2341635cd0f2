use Rattle.fast_load.proofs.Common.{◌<◌, ◌≤◌, length, take, sym, ap, ◌∙◌, arith, Key, list_of, with_keys, joined, slot_in}
use Rattle.fast_load.proofs.Rewritten.{unvisited_more, all_front, no_back, joined_end}
use Rattle.fast_load.proofs.Slotting.{one_more}
use Rattle.fast_load.proofs.slots.+giving.Goals as goal

pub give_slots-loop-flat-preserved : goal.give_slots-loop-flat-preserved
give_slots-loop-flat-preserved t c =
    let flats = c.loop-flat.flats in
    let i = c.loop-flat.flat-index in
    let f = c.give_slots_to_one.new.flat in
    let d = c.flat-item.result in
    let g : Key → Key = λ k. record k { slot = slot_in c.args.slots.now k } in
    let lt : i < length flats = omega arith in (
      unvisited_more flats _ i f c.loop-flat.invariant.0,
      one_more g flats i f d lt c.give_slots_to_one.ensures ∙ c.loop-flat.invariant.1,
    )

pub give_slots-returns : goal.give_slots-returns
give_slots-returns t c =
    let flats = c.loop-flat.flats in
    let i = c.loop-flat.flat-index in
    let g : Key → Key = λ k. record k { slot = slot_in c.args.slots.now k } in
    let le : length flats ≤ i = omega arith in
    sym (joined_end (list_of flats)) ∙ sym (all_front flats i le _) ∙ ap (λ js. joined (list_of (take i flats)) (with_keys g js)) (sym (no_back flats i le)) ∙ c.loop-flat.invariant.1
