use Rattle.fast_take.proofs.Common.{w64, FitsSigned, ◌≡◌, ◌+ℤ◌, rules, to_z-of_z}
use Rattle.fast_take.proofs.judged_decimal.parts_moved.Goals as goal

pub returns-clause-exponent : goal.returns-clause-exponent
returns-clause-exponent c =
    let e = c.in_ok-exponent.exponent in
    let fits : FitsSigned w64 e = search rules in
    let sum : e ≡ c.args.kept.exponent +ℤ c.args.exponent_delta = search rules in
    rw sum at (rw (to_z-of_z w64 e fits) at c.parts_within.ensures.exponent)

pub returns-clause-mantissa : goal.returns-clause-mantissa
returns-clause-mantissa c =
    let n = c.in_ok-mantissa.mantissa in
    let fits : FitsSigned w64 n = search rules in
    let sum : n ≡ c.args.kept.mantissa +ℤ c.args.mantissa_delta = search rules in
    rw sum at (rw (to_z-of_z w64 n fits) at c.parts_within.ensures.mantissa)
