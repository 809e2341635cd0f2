use Rattle.std.proofs.lemmas.List.{take_rest}
use Rattle.fast_field.proofs.BestCuts.{best_at_end, best_in_front}
use Rattle.fast_field.proofs.cut.best_cut.Goals as goal

pub returns-then-end_size-front_size : goal.returns-then-end_size-front_size
returns-then-end_size-front_size c =
    let rest = take_rest c.args.value.now c.common_prefix-prefix.result in
    rw rest
    (best_at_end c.args.kind c.args.presence c.args.base.now c.args.value.now _ _ c.common_prefix-prefix.ensures c.common_suffix-suffix.ensures (rw (c.size_cut-end_size.ensures.value, c.size_cut-front_size.ensures.value, rest) at c.if-end_size-front_size.true))

pub returns-else-end_size-front_size : goal.returns-else-end_size-front_size
returns-else-end_size-front_size c =
    best_in_front c.args.kind c.args.presence c.args.base.now c.args.value.now _ _ c.common_prefix-prefix.ensures c.common_suffix-suffix.ensures
    (rw (c.size_cut-front_size.ensures.value, c.size_cut-end_size.ensures.value, take_rest c.args.value.now c.common_prefix-prefix.result) at c.if-end_size-front_size.false)
