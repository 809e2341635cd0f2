use Rattle.fast_take.proofs.Common.{◌+◌, ◌≤◌, length, arith, length-drop, take_rest}
use Rattle.fast_take.proofs.utf8.is_ascii_word.Goals as goal

pub returns-in-Some : goal.returns-in-Some
returns-in-Some c =
    let first = rw take_rest at c.in-Some.ensures.cases in
    let says = rw first.same at c.are_ascii.ensures in
    let within : c.args.at + 8 ≤ length c.args.units.now = omega (arith, first.enough, length-drop c.args.at c.args.units.now) in
    (λ t. (within, says.0 t), λ a. says.1 a.1)
