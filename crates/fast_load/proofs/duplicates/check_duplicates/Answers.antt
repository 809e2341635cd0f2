use Rattle.fast_load.proofs.Common.{◌≡◌, ◌≤◌, inl, length, map, List, [], Some, None, subst, sym, length-map, WrittenTemplate, written_template_of, NamesLead, first_duplicate}
use Rattle.fast_load.proofs.DuplicatePhase.{duplicates_pass, duplicates_fault}
use Rattle.fast_load.proofs.duplicates.check_duplicates.Goals as goal

pub returns-in-Ok-Ok : goal.returns-in-Ok-Ok
returns-in-Ok-Ok c =
    let ts : List WrittenTemplate = map written_template_of c.args.templates.now in
    let both : (first_duplicate [] ts 1 ≡ None) × NamesLead c.in-Ok-Ok.names ts = rw c.in-Ok-Ok.field-0-is at c.in-Ok-Ok.ensures in
    (duplicates_pass ts both.0, both.1)

pub returns-in-Ok-Err : goal.returns-in-Ok-Err
returns-in-Ok-Err c =
    let ts : List WrittenTemplate = map written_template_of c.args.templates.now in
    let few : length ts ≤ 65535 = subst (λ n. n ≤ 65535) (sym (length-map c.args.templates.now written_template_of)) c.requires in
    let some : first_duplicate [] ts 1 ≡ Some c.in-Ok-Err.fault = rw c.in-Ok-Err.field-0-is at c.in-Ok-Err.ensures in
    inl (duplicates_fault ts c.in-Ok-Err.fault few some)
