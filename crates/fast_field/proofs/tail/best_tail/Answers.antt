use Rattle.fast_field.proofs.Common.{◌-◌, arith, take_rest}
use Rattle.fast_field.proofs.BestTails.{longer_is_best, shortest_is_best}
use Rattle.fast_field.proofs.tail.best_tail.Goals as goal

pub returns-then-prefix-eq0 : goal.returns-then-prefix-eq0
returns-then-prefix-eq0 c =
    let none = c.if-prefix-eq0.true in
    let v = c.args.value.now in
    rw (take_rest v c.common_prefix-prefix.result)
    (shortest_is_best c.args.kind c.args.presence c.args.base.now v _ c.common_prefix-prefix.ensures (omega (arith, c.requires.long, c.if-value-base.false)) (λ some. absurd (omega (arith, some, none))))

pub returns-then-longer_size-shortest_size : goal.returns-then-longer_size-shortest_size
returns-then-longer_size-shortest_size c =
    let v = c.args.value.now in
    let n = c.common_prefix-prefix.result in
    rw (take_rest v (n - 1))
    (longer_is_best c.args.kind c.args.presence c.args.base.now v n c.common_prefix-prefix.ensures (omega (arith, c.requires.long, c.if-value-base.false)) (omega (arith, c.if-prefix-eq0.false))
    (rw (c.size_units-longer_size.ensures.value, c.size_units-shortest_size.ensures.value, take_rest v (n - 1), take_rest v n) at c.if-longer_size-shortest_size.true))

pub returns-else-longer_size-shortest_size : goal.returns-else-longer_size-shortest_size
returns-else-longer_size-shortest_size c =
    let v = c.args.value.now in
    let n = c.common_prefix-prefix.result in
    rw (take_rest v n)
    (shortest_is_best c.args.kind c.args.presence c.args.base.now v n c.common_prefix-prefix.ensures (omega (arith, c.requires.long, c.if-value-base.false))
    (λ _. rw (c.size_units-longer_size.ensures.value, c.size_units-shortest_size.ensures.value, take_rest v (n - 1), take_rest v n) at c.if-longer_size-shortest_size.false))
