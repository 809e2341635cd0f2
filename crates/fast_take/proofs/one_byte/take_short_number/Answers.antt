use Rattle.fast_take.proofs.Common.{◌≡◌, ◌∙◌, arith, refl, rules, sym, Copy, Mandatory}
use Rattle.fast_take.proofs.ShortLengths.{number_stands, other_number}
use Rattle.fast_take.proofs.one_byte.take_short_number.Goals as goal

pub returns-clause-stands : goal.returns-clause-stands
returns-clause-stands c =
    let i = c.args.instr.now in
    let operator : i.operator ≡ Copy = search rules in
    let mandatory : i.presence ≡ Mandatory = search rules in
    number_stands i c.args.entry.now _ c.args.bytes.now c.args.at _ (λ k. omega (arith, c.type_inv.bytes k)) (omega arith) operator c.requires.kind c.requires.part mandatory (omega arith) (sym (rw (c.view.ensures, c.put_other.ensures.unchanged c.if-put_other.false) at c.is_left_out.ensures) ∙ c.if-is_left_out.false) refl

pub returns-then-put_other-clause-stands : goal.returns-then-put_other-clause-stands
returns-then-put_other-clause-stands c =
    let i = c.args.instr.now in
    let operator : i.operator ≡ Copy = search rules in
    let mandatory : i.presence ≡ Mandatory = search rules in
    let p = c.put_other.ensures.put c.if-put_other.true in
    number_stands i c.args.entry.now _ c.args.bytes.now c.args.at _ (λ k. omega (arith, c.type_inv.bytes k)) (omega arith) operator c.requires.kind c.requires.part mandatory (omega arith)
    (other_number i c.args.entry.now p.0 c.from-number.result operator c.requires.kind p.1 p.2) p.3
