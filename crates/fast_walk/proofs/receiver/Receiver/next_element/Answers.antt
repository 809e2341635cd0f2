use Rattle.fast_walk.proofs.Common.{refl, items_of, in_sequence, with_element, ended_in}
use Rattle.fast_walk.proofs.receiver.Receiver.next_element.Goals as goal

pub returns-clause-has : goal.returns-clause-has
returns-clause-has g c = λ o d ws w s bits next rest is inside numbered own some has.
    let ended = c.in_ok-leave_element.ensures.has o d ws w s next rest is inside has in
    c.in_ok-enter_element.ensures.has (with_element s (items_of o.body.done)) bits (ended_in o ws w.body (in_sequence s)) d refl numbered own some ended
