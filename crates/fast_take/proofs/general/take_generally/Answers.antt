use Rattle.std.proofs.Common.{◌≡◌, ◌∙◌, arith, drop, refl, true}
use Rattle.std.specs.Option.{option_copied}
use Rattle.fast_field.specs.Found.{value_found}
use Rattle.fast_field.proofs.ReadFields.{bytes_from}
use Rattle.fast_take.proofs.Generally.{generally_took, only_memory, read_kind}
use Rattle.fast_take.proofs.general.take_generally.Goals as goal

pub unreachable-requires : goal.unreachable-requires
unreachable-requires c =
    let i = c.args.instr.now in
    let bytes = c.args.bytes.now in
    let f = c.in_ok-found in
    c.in_default.not-Memory (only_memory c.args.level i c.args.entry.now (value_found i c.args.entry.now f.found) (drop c.args.at bytes) (drop f.next bytes) c.in-Err.refusal
    (bytes_from bytes c.args.at (λ k. omega (arith, c.type_inv.bytes k))) c.requires.part c.requires.entry (rw (c.view.ensures) at f.ensures.gives) c.in-Err.ensures.refused)

pub note_value-there-requires-clause-kind : goal.note_value-there-requires-clause-kind
note_value-there-requires-clause-kind c =
    let i = c.args.instr.now in
    let bytes = c.args.bytes.now in
    let f = c.in_ok-found in
    let v = value_found i c.args.entry.now f.found in
    let same : option_copied c.value-value.result ≡ v = rw (c.view-2.ensures) at c.value-value.ensures in
    rw same (read_kind c.args.level i c.args.entry.now (drop c.args.at bytes) (drop f.next bytes) v (bytes_from bytes c.args.at (λ k. omega (arith, c.type_inv.bytes k))) c.requires.part (rw (c.view.ensures) at f.ensures.gives))

pub returns-in-Ok : goal.returns-in-Ok
returns-in-Ok c =
    let i = c.args.instr.now in
    let bytes = c.args.bytes.now in
    let f = c.in_ok-found in
    let v = value_found i c.args.entry.now f.found in
    let same : option_copied c.value-value.result ≡ v = rw (c.view-2.ensures) at c.value-value.ensures in
    let tell = c.tell_made in
    let appended = rw (c.clear.ensures.items) at c.in-Ok.ensures.best.appended in
    generally_took c.args.level i c.args.entry.now c.write_found.new.entry true bytes c.args.at f.next tell.new.aside tell.result v
    f.ensures.place tell.ensures.place tell.ensures.first (λ none. refl) (rw (c.view.ensures) at f.ensures.gives) (rw (c.view.ensures) at f.ensures.goes) c.in-Ok.ensures.entry
    (tell.ensures.there ∙ (rw same at c.note_value-there.ensures.there)) (rw (tell.ensures.unkept) (rw same at c.note_value-there.ensures.aside))
    (rw (tell.ensures.bit, tell.ensures.form ∙ appended) c.in-Ok.ensures.best.best)
