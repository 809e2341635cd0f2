use Rattle.fast_load.proofs.Common.{◌≡◌, ◌≤◌, List, map, length, sym, subst, ap, ◌∙◌, length-map, WrittenTemplate, written_template_of, too_large}
use Rattle.fast_load.proofs.LimitPhase.{limit_is, there_are_lists}
use Rattle.fast_load.proofs.build.limit_passed.Goals as goal

pub returns : goal.returns
returns c =
    let ts : List WrittenTemplate = map written_template_of c.args.templates.now in
    let lengths : length ts ≡ length c.args.templates.now = length-map c.args.templates.now written_template_of in
    limit_is ts c.in_ok-extents.extents.items (c.in_ok-extents.ensures.len ∙ sym lengths) c.in_ok-extents.ensures.extents (subst (λ n. n ≤ 65535) (sym lengths) c.requires.few) (there_are_lists ts c.args.order.now c.requires.in_order c.requires.differ) c.first_too_large.result (c.first_too_large.ensures ∙ ap (λ es. too_large es 1 0) c.deref.ensures.value)
