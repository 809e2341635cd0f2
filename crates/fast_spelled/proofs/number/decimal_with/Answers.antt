use Rattle.std.proofs.Common.{rules, ◌≡◌, ◌<◌, ◌^◌, min, fold, length, sym, ap, ap₂, ◌∙◌, arith}
use Rattle.fast_spelled.specs.Numbers.{lowered, decimal_by}
use Rattle.fast_spelled.proofs.Capped.{cap, step, decimal_at, decimal_is}
use Rattle.fast_spelled.proofs.number.decimal_with.Goals as goal

pub returns : goal.returns
returns c = λ p e.
    let parts = c.scan-parts.result in
    let long : length parts.fraction < 2 ^ 63 = omega (arith, c.fraction-2.type_inv.1, ap length c.fraction-2.ensures.value) in
    let mantissa : c.capped-2.result ≡ min (fold step (min (fold step 0 parts.whole) cap) parts.fraction) cap =
    c.capped-2.ensures ∙ ap₂ (λ n s. min (fold step n s) cap) (c.capped.ensures ∙ ap (λ s. min (fold step 0 s) cap) c.whole.ensures.value) c.fraction.ensures.value in
    let exponent : c.capped-3.result ≡ min (fold step 0 parts.exponent) cap = c.capped-3.ensures ∙ ap (λ s. min (fold step 0 s) cap) c.exponent.ensures.value in
    let digits = c.scan-parts.ensures.digits in
    let made : c.decimal_from.result ≡ decimal_at c.signed-mantissa.result c.lowered-exponent.result = search rules in
    let low : c.lowered-exponent.result ≡ lowered parts.exponent_negative c.capped-3.result (length parts.fraction) =
    c.lowered-exponent.ensures ∙ ap₂ (λ b n. lowered b c.capped-3.result n) c.is_exponent_negative.ensures (ap length c.fraction-2.ensures.value) in
    made ∙ ap₂ decimal_at c.signed-mantissa.ensures low
    ∙ decimal_is c.args.negative parts c.capped-2.result c.capped-3.result digits.0 digits.1 digits.2 long mantissa exponent
    ∙ ap (decimal_by c.args.negative) (c.scan-parts.ensures.parts ∙ sym e)
