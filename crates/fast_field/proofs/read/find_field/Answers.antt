use Rattle.fast_field.proofs.Common.{◌≡◌, Ok, drop, refl, err_from_is_err_and, entry_of, field_at, value_found}
use Rattle.fast_field.proofs.CallSteps.{row_fails}
use Rattle.fast_field.proofs.FieldsBehave.{field_goes}
use Rattle.fast_field.proofs.read.find_field.Goals as goal

pub returns-in_err-found-clause-gives : goal.returns-in_err-found-clause-gives
returns-in_err-found-clause-gives c =
    let p = err_from_is_err_and c.from_residual.result c.from_residual.ensures.1 in
    rw (p.1, p.2) (row_fails c.args.level _ c.args.instr.now (entry_of c.args.kept) c.args.bit _ c.in_err-found.ensures.gives)

pub returns-clause-goes : goal.returns-clause-goes
unfolding field_at
returns-clause-goes c =
    let i = c.args.instr.now in
    let e = entry_of c.args.kept in
    let bytes = c.args.bytes.now in
    let read : field_at c.args.level i e c.args.bit (drop c.args.at bytes) ≡ Ok (value_found i e c.in_ok-found.found, drop c.in_ok-found.next bytes) = rw (c.in_ok-found.ensures.gives, c.in_ok-check_part.ensures) refl in
    λ more. field_goes c.args.level i e c.args.bit (drop c.args.at bytes) (value_found i e c.in_ok-found.found) (drop c.in_ok-found.next bytes) more read
