use Rattle.fast_wire.proofs.Common.{◌≡◌, ◌∙◌, rules, w64, w128, to_z-of_z, SFits, IsSigned, CanBeSigned, OutOfRange}
use Rattle.fast_wire.proofs.Written.{lift_is, not_refused, short_can, signed_byte_appended}
use Rattle.fast_wire.proofs.short_integer.write_i64.Goals as goal

pub returns-in-Some : goal.returns-in-Some
returns-in-Some c =
    let v = c.args.value in
    let one = rw (to_z-of_z w64 v c.ranges.value) at c.in-Some.ensures in
    signed_byte_appended c.args.out.now c.append_byte.new.out v c.in-Some.group c.append_byte.result one.small (lift_is v c.in-Some.group one) c.append_byte.ensures

pub returns-in-None : goal.returns-in-None
returns-in-None c =
    let v = c.args.value in
    let is : c.from.result ≡ v = c.from.ensures ∙ to_z-of_z w64 v c.ranges.value in
    let wide : SFits w128 c.from.result = search rules in
    not_refused IsSigned (OutOfRange CanBeSigned) c.args.out.now c.write_signed.new.out v c.write_signed.result (λ e f. short_can v e c.ranges.value f)
    (rw is at (rw (to_z-of_z w128 c.from.result wide) at c.write_signed.ensures))
