use Rattle.fast_load.proofs.Common.{◌≤◌, ◌<◌, inl, length, map, List, subst, sym, length-map, WrittenTemplate, written_template_of, IsFirstFault, want_of_memory}
use Rattle.fast_load.proofs.PhaseOrder.{all_pass, templates_fault, templates_pass, none_before_first, and_this, either}
use Rattle.fast_load.proofs.checks.check_written.Goals as goal

pub returns-then-templates-gt65535 : goal.returns-then-templates-gt65535
returns-then-templates-gt65535 c =
    let ts : List WrittenTemplate = map written_template_of c.args.templates.now in
    let many : 65535 < length ts = subst (λ n. 65535 < n) (sym (length-map c.args.templates.now written_template_of)) c.if-templates-gt65535.true in
    inl (subst (IsFirstFault ts) (sym c.fault_at.ensures) (templates_fault ts many))

pub returns-in-Err-check_duplicates : goal.returns-in-Err-check_duplicates
returns-in-Err-check_duplicates c =
    let ts : List WrittenTemplate = map written_template_of c.args.templates.now in
    let few : length ts ≤ 65535 = subst (λ n. n ≤ 65535) (sym (length-map c.args.templates.now written_template_of)) c.if-templates-gt65535.false in
    either ts 2 c.in-Err-check_duplicates.fault want_of_memory (and_this ts 1 (and_this ts 0 (none_before_first ts) (templates_pass ts few)) c.in-Ok.ensures) c.in-Err-check_duplicates.ensures

pub returns-in-Err : goal.returns-in-Err
returns-in-Err c =
    let ts : List WrittenTemplate = map written_template_of c.args.templates.now in
    let few : length ts ≤ 65535 = subst (λ n. n ≤ 65535) (sym (length-map c.args.templates.now written_template_of)) c.if-templates-gt65535.false in
    either ts 1 c.in-Err.fault want_of_memory (and_this ts 0 (none_before_first ts) (templates_pass ts few)) c.in-Err.ensures

pub returns-in-Err-check_operators : goal.returns-in-Err-check_operators
returns-in-Err-check_operators c =
    let ts : List WrittenTemplate = map written_template_of c.args.templates.now in
    let few : length ts ≤ 65535 = subst (λ n. n ≤ 65535) (sym (length-map c.args.templates.now written_template_of)) c.if-templates-gt65535.false in
    either ts 3 c.in-Err-check_operators.fault want_of_memory (and_this ts 2 (and_this ts 1 (and_this ts 0 (none_before_first ts) (templates_pass ts few)) c.in-Ok.ensures) c.in-Ok-check_duplicates.ensures.0) c.in-Err-check_operators.ensures

pub returns-in-Err-check_references : goal.returns-in-Err-check_references
returns-in-Err-check_references c =
    let ts : List WrittenTemplate = map written_template_of c.args.templates.now in
    let few : length ts ≤ 65535 = subst (λ n. n ≤ 65535) (sym (length-map c.args.templates.now written_template_of)) c.if-templates-gt65535.false in
    either ts 4 c.in-Err-check_references.fault want_of_memory (and_this ts 3 (and_this ts 2 (and_this ts 1 (and_this ts 0 (none_before_first ts) (templates_pass ts few)) c.in-Ok.ensures) c.in-Ok-check_duplicates.ensures.0) c.in-Ok-check_operators.ensures.0) c.in-Err-check_references.ensures

pub returns : goal.returns
returns c =
    let ts : List WrittenTemplate = map written_template_of c.args.templates.now in
    let few : length ts ≤ 65535 = subst (λ n. n ≤ 65535) (sym (length-map c.args.templates.now written_template_of)) c.if-templates-gt65535.false in
    (all_pass ts few c.in-Ok.ensures c.in-Ok-check_duplicates.ensures.0 c.in-Ok-check_operators.ensures.0 c.in-Ok-check_references.ensures.0, c.in-Ok-check_references.ensures.1, c.in-Ok-check_operators.ensures.1)
