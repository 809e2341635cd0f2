use Rattle.std.proofs.Common.{◌<◌, ◌∙◌, inr, arith}
use Rattle.fast_gaps.specs.Filled.{gaps_left}
use Rattle.fast_gaps.proofs.rest.Rest.tell_on.Goals as goal

pub loop-signs-preserved : goal.loop-signs-preserved
loop-signs-preserved g c =
    let v = c.loop-signs.invariant in
    let some : 0 < gaps_left c.loop-signs.self = omega arith in
    let less = c.in_ok-tell_gap.ensures.fewer some in
    let few = v.few in
    record { same = c.tell_gap.ensures.same ∙ v.same; few = omega (arith, less, few); fewer = inr (omega (arith, less, few)) }
