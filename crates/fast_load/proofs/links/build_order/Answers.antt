use Rattle.fast_load.proofs.Common.{◌≤◌, subst, sym, length-map, IsOrder, IsFirstOnCycle, written_template_of}
use Rattle.fast_load.proofs.LinkOrder.{links_within, cycles_pass, cycles_fault, build_order_is}
use Rattle.fast_load.proofs.links.build_order.Goals as goal

pub order_of-requires : goal.order_of-requires
order_of-requires c = (links_within c.args.templates.now c.args.links.now c.requires.linked)

pub returns-in-Ok : goal.returns-in-Ok
returns-in-Ok c =
    let order : IsOrder c.args.links.now c.in-Ok.order.items = rw (c.in-Ok.is) at c.in_ok-order.ensures in (
      build_order_is c.args.templates.now c.args.links.now c.requires.linked c.in-Ok.order.items order c.requires.known,
      cycles_pass c.args.templates.now c.args.links.now c.requires.linked c.in-Ok.order.items order c.requires.differ,
    )

pub returns-in-Err : goal.returns-in-Err
returns-in-Err c =
    let first : IsFirstOnCycle c.args.links.now c.in-Err.first = rw (c.in-Err.is) at c.in_ok-order.ensures in
    cycles_fault c.args.templates.now c.args.links.now c.requires.linked c.in-Err.first c.cycle_at.result first c.requires.differ (subst (λ n. n ≤ 65535) (sym (length-map c.args.templates.now written_template_of)) c.requires.few) c.cycle_at.ensures
