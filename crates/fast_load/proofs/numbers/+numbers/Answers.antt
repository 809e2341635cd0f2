use Rattle.fast_load.proofs.Common.{◌<◌, ◌≤◌, length, take, sym, ap, ◌∙◌, arith, list_of, numbered, joined}
use Rattle.fast_load.proofs.Rewritten.{unvisited_more, all_front, no_back, joined_end}
use Rattle.fast_load.proofs.Numbering.{partly, one_more, left}
use Rattle.fast_load.proofs.numbers.+numbers.Goals as goal

pub number_all-loop-flat-preserved : goal.number_all-loop-flat-preserved
number_all-loop-flat-preserved t c =
    let flats = c.loop-flat.flats in
    let i = c.loop-flat.flat-index in
    let f = c.number_one-next.new.flat in
    let d = c.flat-item.result in
    let lt : i < length flats = omega arith in
    let numbered_is = c.number_one-next.ensures.numbered in
    let next_is = c.number_one-next.ensures.next in (
      unvisited_more flats _ i f c.loop-flat.invariant.0,
      ap (partly _ _) next_is ∙ one_more flats i c.loop-flat.next f d lt numbered_is ∙ c.loop-flat.invariant.1,
      omega (arith, next_is, left flats i f d lt, c.loop-flat.invariant.2),
    )

pub number_all-returns-clause-numbered : goal.number_all-returns-clause-numbered
number_all-returns-clause-numbered t c =
    let flats = c.loop-flat.flats in
    let i = c.loop-flat.flat-index in
    let le : length flats ≤ i = omega arith in
    sym (joined_end (list_of flats)) ∙ sym (all_front flats i le _) ∙ ap (λ js. joined (list_of (take i flats)) (numbered c.loop-flat.next js)) (sym (no_back flats i le)) ∙ c.loop-flat.invariant.1
