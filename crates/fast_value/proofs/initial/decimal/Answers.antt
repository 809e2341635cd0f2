use Rattle.fast_value.proofs.Common.{◌≡◌, ◌==◌, rules, Some, before_first, after_first, integer_of, small_integer}
use Rattle.fast_value.proofs.NumberLaws.{decimal_some}
use Rattle.fast_value.proofs.initial.decimal.Goals as goal

pub returns : goal.returns
returns c =
    let mantissa : Some c.in-Some.mantissa ≡ small_integer (before_first (λ x. x == 101) c.args.text.now) = search rules in
    let exponent : Some c.in-Some-integer.exponent ≡ small_integer (after_first (λ x. x == 101) c.args.text.now) = search rules in
    let told = decimal_some (integer_of (before_first (λ x. x == 101) c.args.text.now)) (integer_of (after_first (λ x. x == 101) c.args.text.now)) c.in-Some.mantissa c.in-Some-integer.exponent mantissa exponent in
    search rules
