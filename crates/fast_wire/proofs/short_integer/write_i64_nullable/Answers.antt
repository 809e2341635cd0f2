use Rattle.fast_wire.proofs.Common.{◌≡◌, ◌∙◌, ap, rules, refl, arith, w64, w128, to_z-of_z, SFits, IsSignedNullable, sent_signed, CanBeSignedNullable, OutOfRange, Null, Value}
use Rattle.fast_wire.proofs.SignedForms.{lift}
use Rattle.fast_wire.proofs.Written.{lift_is, not_refused, short_nullable_can, signed_byte_nullable_appended}
use Rattle.fast_wire.proofs.short_integer.write_i64_nullable.Goals as goal

pub returns-in_default : goal.returns-in_default
returns-in_default c = rw c.in_default.is (signed_byte_nullable_appended c.args.out.now c.append_byte.new.out Null 0 c.append_byte.result (omega arith) refl c.append_byte.ensures)

pub returns-in-Some : goal.returns-in-Some
returns-in-Some c =
    let sent = c.signed_sent.result in let v = c.in-Value.value in
    let fits : SFits w64 sent = search rules in
    let inside : SFits w64 v = search rules in
    let one = rw (to_z-of_z w64 sent fits) at c.in-Some.ensures in
    let is : sent ≡ sent_signed (Value v) = rw (to_z-of_z w64 v inside) at (c.signed_sent.ensures one.small) in
    rw c.in-Value.is (signed_byte_nullable_appended c.args.out.now c.append_byte-in-Some.new.out (Value v) c.in-Some.group c.append_byte-in-Some.result (rw (← is) one.small)
    (lift_is sent c.in-Some.group one ∙ ap (lift 1) is) c.append_byte-in-Some.ensures)

pub returns-in-None : goal.returns-in-None
returns-in-None c =
    let v = c.in-Value.value in
    let inside : SFits w64 v = search rules in
    let is : c.from.result ≡ v = c.from.ensures ∙ to_z-of_z w64 v inside in
    let wide : SFits w128 c.from.result = search rules in
    rw c.in-Value.is (not_refused IsSignedNullable (OutOfRange CanBeSignedNullable) c.args.out.now c.write_signed_nullable.new.out (Value v) c.write_signed_nullable.result
    (λ e f. short_nullable_can v e inside f) (rw is at (rw (to_z-of_z w128 c.from.result wide) at c.write_signed_nullable.ensures)))
