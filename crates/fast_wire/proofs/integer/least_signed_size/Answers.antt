use Rattle.fast_wire.proofs.Common.{◌≡◌, ◌-◌, ◌+◌, ◌*◌, ◌^◌, ◌≤◌, ◌∙◌, ap, suc, arith, w128, to_z-of_z, magnitude, pow-suc}
use Rattle.fast_wire.proofs.integer.least_signed_size.Goals as goal

pub loop-size-preserved : goal.loop-size-preserved
loop-size-preserved c =
    let n = c.loop-size.size in
    let up : n + 1 - 1 ≡ suc (n - 1) = omega arith in
    let same : n + 1 - 2 ≡ n - 1 = omega arith in
    let inv = c.loop-size.invariant.0 in
    (rw (up, pow-suc 128 (n - 1)) (omega arith), λ h. rw same (omega arith))

pub returns : goal.returns
returns c =
    let e : c.loop-size.size ≡ 10 = omega arith in
    let dist : c.distance-distance.result ≡ magnitude c.args.value = c.distance-distance.ensures ∙ ap magnitude (to_z-of_z w128 c.args.value c.ranges.value) in
    (omega arith, omega arith, c.requires, λ h. let low : 64 * 128 ^ 8 ≤ c.distance-distance.result = (rw e at c.loop-size.invariant.1) h in rw dist at low)
