use Rattle.std.proofs.Common.{ℕ, List, ◌++◌, ap, sym, ◌∙◌, arith, drop, false, refl}
use Rattle.fast_wire.proofs.Readers.{done}
use Rattle.fast_field.specs.Found.{value_found}
use Rattle.fast_field.specs.declared.fault.FieldFault.{FieldFault}
use Rattle.fast_field.proofs.ReadFields.{bytes_from}
use Rattle.fast_take.specs.declared.took.Took.TheVariants.{Stands, Absent}
use Rattle.fast_take.proofs.Generally.{copied_some, generally_took, none_between, zero_best}
use Rattle.fast_take.proofs.general.read_left_out.Goals as goal

pub returns-then-there : goal.returns-then-there
returns-then-there c =
    let i = c.args.instr.now in
    let bytes = c.args.bytes.now in
    let at = c.args.at in
    let f = c.in_ok-found in
    let v = value_found i c.read_in_place.new.entry f.found in
    let z = zero_best c.args.level i c.args.entry.now (drop at bytes) (drop f._next bytes) v c.requires.bit c.requires.part.typed.default_has_value (bytes_from bytes at (λ k. omega (arith, c.type_inv.bytes k))) f.ensures.gives in
    let there = copied_some c.value.result v c.is_some-there.result c.is_some-there.ensures (rw (c.view.ensures) at c.value.ensures) in
    generally_took c.args.level i c.args.entry.now c.read_in_place.new.entry false bytes at at c.args.aside.now (Stands at) v (omega arith, c.requires.place) refl (omega arith) c.requires.bit
    (rw (z.0) at f.ensures.gives) (λ more. f.ensures.goes more ∙ ap (λ (r : List ℕ). done {F = FieldFault} (v, r ++ more)) z.0) f.ensures.entry
    (sym c.if-there.true ∙ there) (λ w is sent. absurd cc) (none_between i c.args.entry.now bytes at v z.1)

pub returns : goal.returns
returns c =
    let i = c.args.instr.now in
    let bytes = c.args.bytes.now in
    let at = c.args.at in
    let f = c.in_ok-found in
    let v = value_found i c.read_in_place.new.entry f.found in
    let z = zero_best c.args.level i c.args.entry.now (drop at bytes) (drop f._next bytes) v c.requires.bit c.requires.part.typed.default_has_value (bytes_from bytes at (λ k. omega (arith, c.type_inv.bytes k))) f.ensures.gives in
    let there = copied_some c.value.result v c.is_some-there.result c.is_some-there.ensures (rw (c.view.ensures) at c.value.ensures) in
    generally_took c.args.level i c.args.entry.now c.read_in_place.new.entry false bytes at at c.args.aside.now (Absent at) v (omega arith, c.requires.place) refl (omega arith) c.requires.bit
    (rw (z.0) at f.ensures.gives) (λ more. f.ensures.goes more ∙ ap (λ (r : List ℕ). done {F = FieldFault} (v, r ++ more)) z.0) f.ensures.entry
    (sym c.if-there.false ∙ there) (λ w is sent. absurd cc) (none_between i c.args.entry.now bytes at v z.1)
