use Rattle.fast_field.proofs.Common.{arith, entry_of, field_at, Form}
use Rattle.fast_field.proofs.FieldForms.{field_forms}
use Rattle.fast_field.proofs.FieldsBehave.{field_goes}
use Rattle.fast_field.proofs.ReadFields.{bytes_from, call_answers, call_goes, call_only}
use Rattle.fast_field.proofs.read.read_field.Goals as goal

pub returns-clause-answer : goal.returns-clause-answer
returns-clause-answer c bit default =
    let i = c.args.instr.now in
    let e = entry_of c.args.kept in
    call_answers (field_at c.args.level i e c.args.bit) (Form c.args.level i e c.args.bit) (field_forms c.args.level i e c.args.bit bit default) c.args.bytes.now c.args.at (λ x. x.0) (λ x. x.2) c.read_copied.result
    (bytes_from c.args.bytes.now c.args.at (λ k. omega (arith, c.type_inv.bytes k)))
    c.read_copied.ensures.place
    c.read_copied.ensures.gives

pub returns-clause-only : goal.returns-clause-only
returns-clause-only c bit default =
    let i = c.args.instr.now in
    let e = entry_of c.args.kept in
    call_only (field_at c.args.level i e c.args.bit) (Form c.args.level i e c.args.bit) (field_forms c.args.level i e c.args.bit bit default) c.args.bytes.now c.args.at (λ x. x.0) (λ x. x.2) c.read_copied.result
    c.read_copied.ensures.place
    c.read_copied.ensures.gives

pub returns-clause-goes : goal.returns-clause-goes
returns-clause-goes c =
    let i = c.args.instr.now in
    let e = entry_of c.args.kept in
    call_goes (field_at c.args.level i e c.args.bit) (field_goes c.args.level i e c.args.bit) c.args.bytes.now c.args.at (λ x. x.0) (λ x. x.2) c.read_copied.result c.read_copied.ensures.gives
