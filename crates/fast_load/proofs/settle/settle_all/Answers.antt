use Rattle.fast_load.proofs.Common.{◌<◌, ◌≤◌, length, subst, sym, arith, resolved_of, size_of, settled, slot_in}
use Rattle.fast_load.proofs.Settling.{settled_more, small_at, at_same}
use Rattle.fast_load.proofs.settle.settle_all.Goals as goal

pub settle_one-requires : goal.settle_one-requires
settle_one-requires c =
    let l = c.loop-template in
    let lt : l.template-index < length l.templates = omega arith in
    subst (λ t. size_of (resolved_of t).members ≤ 65535) (sym (at_same _ _ _ l.template-index c.template-item.result lt l.invariant))
    (small_at (λ r. size_of r.members ≤ 65535) c.args.templates.now l.template-index c.template-item.result c.loop-template-test.true c.requires)

pub loop-template-preserved : goal.loop-template-preserved
loop-template-preserved c =
    let l = c.loop-template in
    let lt : l.template-index < length l.templates = omega arith in
    settled_more (settled (slot_in c.args.slots.now)) l.templates c.args.templates.now l.template-index c.settle_one.new.template c.template-item.result lt l.invariant c.settle_one.ensures
