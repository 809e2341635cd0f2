use Rattle.fast_load.proofs.Common.{◌≡◌, ◌≤◌, rules, inl, length, map, List, Some, None, subst, sym, length-map, WrittenTemplate, written_template_of, first_at_fault}
use Rattle.fast_load.proofs.NamePhase.{of_template, of_instruction, names_pass, names_fault}
use Rattle.fast_load.proofs.names.check_names.Goals as goal

pub returns-in-Ok-Ok : goal.returns-in-Ok-Ok
returns-in-Ok-Ok c =
    let ts : List WrittenTemplate = map written_template_of c.args.templates.now in
    let none : first_at_fault of_template of_instruction ts 1 ≡ None = search rules in
    names_pass ts none

pub returns-in-Ok-Err : goal.returns-in-Ok-Err
returns-in-Ok-Err c =
    let ts : List WrittenTemplate = map written_template_of c.args.templates.now in
    let few : length ts ≤ 65535 = subst (λ n. n ≤ 65535) (sym (length-map c.args.templates.now written_template_of)) c.requires in
    let some : first_at_fault of_template of_instruction ts 1 ≡ Some c.in-Ok-Err.fault = search rules in
    inl (names_fault ts c.in-Ok-Err.fault few some)
