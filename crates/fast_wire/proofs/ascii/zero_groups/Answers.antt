use Rattle.fast_wire.proofs.Common.{◌≡◌, ◌+◌, ◌-◌, ◌%◌, ◌<◌, ◌∙◌, sym, ap, arith, get_or, drop, groups, behind_zeros}
use Rattle.fast_wire.proofs.AsciiForms.{behind_next, behind_stop, behind_least}
use Rattle.fast_wire.proofs.ascii.zero_groups.Goals as goal

pub returns-then-entity-i-ne0-clause-behind : goal.returns-then-entity-i-ne0-clause-behind
returns-then-entity-i-ne0-clause-behind c =
    let i = c.loop-i.i in
    let other : 0 < get_or c.args.entity.now i 0 % 128 = let t = c.if-entity-i-ne0.true in omega arith in
    sym (behind_stop (c.args.most - i) c.args.entity.now i (omega arith) other) ∙ c.loop-i.invariant

pub loop-i-preserved : goal.loop-i-preserved
loop-i-preserved c =
    let i = c.loop-i.i in
    let fewer : c.args.most - i - 1 ≡ c.args.most - (i + 1) = omega arith in
    ap (λ n. behind_zeros n (drop (i + 1) (groups c.args.entity.now))) (sym fewer)
    ∙ sym (behind_next (c.args.most - i) c.args.entity.now i (omega arith) (omega arith) c.if-entity-i-ne0.false) ∙ c.loop-i.invariant

pub returns-clause-behind : goal.returns-clause-behind
returns-clause-behind c =
    let e : c.loop-i.i ≡ c.min-end.result = omega arith in
    ap (λ n. drop n (groups c.args.entity.now)) (sym e) ∙ sym (behind_least c.args.most c.args.entity.now c.loop-i.i (omega arith)) ∙ c.loop-i.invariant
