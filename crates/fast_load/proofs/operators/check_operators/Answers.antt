use Rattle.fast_load.proofs.Common.{◌≡◌, ◌≤◌, rules, inl, length, map, List, Some, None, subst, sym, length-map, WrittenTemplate, written_template_of, first_at_fault}
use Rattle.fast_load.proofs.OperatorPhase.{nothing_of, of_parts, operators_pass, operators_fault}
use Rattle.fast_load.proofs.operators.check_operators.Goals as goal

pub returns-in-Ok-Ok : goal.returns-in-Ok-Ok
returns-in-Ok-Ok c =
    let ts : List WrittenTemplate = map written_template_of c.args.templates.now in
    let none : first_at_fault nothing_of of_parts ts 1 ≡ None = search rules in
    (operators_pass ts none, search rules)

pub returns-in-Ok-Err : goal.returns-in-Ok-Err
returns-in-Ok-Err c =
    let ts : List WrittenTemplate = map written_template_of c.args.templates.now in
    let few : length ts ≤ 65535 = subst (λ n. n ≤ 65535) (sym (length-map c.args.templates.now written_template_of)) c.requires in
    let some : first_at_fault nothing_of of_parts ts 1 ≡ Some c.in-Ok-Err.fault = search rules in
    inl (operators_fault ts c.in-Ok-Err.fault few some)
