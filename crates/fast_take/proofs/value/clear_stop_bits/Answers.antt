use Rattle.std.proofs.Common.{◌<◌, length, get_or, refl, arith}
use Rattle.fast_take.proofs.Cleared.{cleared_more}
use Rattle.fast_take.proofs.value.clear_stop_bits.Goals as goal

pub loop-unit-preserved : goal.loop-unit-preserved
loop-unit-preserved c =
    let l = c.loop-unit in
    let lt : l.unit-index < length l.units = omega arith in
    cleared_more l.units c.args.units.now l.unit-index (get_or l.units l.unit-index 0) lt l.invariant refl
