use Rattle.fast_walk.proofs.Common.{◌≡◌, refl, sym, ap, ◌∙◌, arith, Sequel, in_sequence, with_element, ended_in, items_of, inside_of, next_of, sequel_of}
use Rattle.fast_walk.proofs.Walking.{closed_none, is_element_of}
use Rattle.fast_walk.proofs.walk.Walk.take_up.Goals as goal

pub returns-in_ok-end_sequence-in-Element-clause-has : goal.returns-in_ok-end_sequence-in-Element-clause-has
returns-in_ok-end_sequence-in-Element-clause-has g c = λ o d ws w next rest is inside has.
    let e = is_element_of w.inside (sequel_of c.in-Element.sequel) (inside ∙ ap inside_of c.in-Element.is) in
    let s = e.0 in
    let none : s.left ≡ 0 = omega (arith, ap (λ (x : Sequel). x.left) e.2, c.if-sequel-eq0.true) in
    rw (closed_none o ws w.body w.inside s e.1 none) (
      c.in_ok-end_sequence-in-Element.ensures.has (ended_in o ws w.body (in_sequence s)) d (with_element s (items_of o.body.done)) refl none
          (c.in_ok-leave_element-in-Element.ensures.has o d ws w s next rest is e.1 has),
      ap next_of (sym c.requires.next),
    )
