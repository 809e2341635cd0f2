use Rattle.std.proofs.Common.{arith, drop, refl, sym, ◌∙◌, inl, inr, rules, false, true}
use Rattle.fast_value.specs.declared.kind.Presence.TheVariants.{Mandatory}
use Rattle.std.proofs.lemmas.Int.{to_z-of_z}
use Rattle.std.specs.Int.{w128, w32}
use Rattle.std.specs.Int.RustNames.{FitsSigned}
use Rattle.std.proofs.lemmas.Result.{err_from_is_err_and}
use Rattle.fast_field.proofs.ReadFields.{bytes_from}
use Rattle.fast_take.proofs.TakenDecimals.{decimal_fails, decimal_kind, decimal_numeric, decimal_read, decimal_took, exponent_fails, first_fails, mantissa_fails, mantissa_stands, null_took, within}
use Rattle.fast_take.proofs.TakenIntegers.{none_is, number_sent, spelt_so, value_is}
use Rattle.fast_take.proofs.taken_decimal.take_decimal.Goals as goal

pub returns-in_err-sent : goal.returns-in_err-sent
returns-in_err-sent c =
    let i = c.args.instr.now in
    let p = err_from_is_err_and c.from_residual.result c.from_residual.ensures.1 in
    rw (p.1, p.2) (record { fault = inl (first_fails c.args.level i c.args.entry.now (drop c.args.at c.args.bytes.now) c.in_err-sent.field-0.0 c.requires.sends c.requires.kind c.in_err-sent.ensures.gives); entry = refl })

pub needed_from-first-requires-clause-spelt : goal.needed_from-first-requires-clause-spelt
needed_from-first-requires-clause-spelt c =
    let bytes = c.args.bytes.now in
    let at = c.args.at in
    let s = c.in_ok-sent in
    spelt_so c.args.level false c.args.instr.now.presence bytes at s.middle s.sent (bytes_from bytes at (λ k. omega (arith, c.type_inv.bytes k))) (omega (arith, s.ensures.place)) (omega (arith, s.ensures.place)) s.ensures.gives

pub returns-in-Null : goal.returns-in-Null
returns-in-Null c =
    let i = c.args.instr.now in
    let bytes = c.args.bytes.now in
    let at = c.args.at in
    let s = c.in_ok-sent in
    let n = c.needed_from-first in
    let out = sym (rw (c.view.ensures) at c.is_left_out-given.ensures) in
    null_took c.args.level i c.args.entry.now c.keep_none.new.entry bytes at n.result s.middle c.is_left_out-given.result c.tell.new.self c.tell.result
    c.requires.sends c.requires.kind (bytes_from bytes at (λ k. omega (arith, c.type_inv.bytes k))) (omega (arith, s.ensures.place)) (omega (arith, s.ensures.place)) (rw (c.in-Null.is) at s.ensures.gives)
    n.ensures.same n.ensures.short out c.keep_none.ensures c.tell.ensures.there
    (record { found = none_is i c.keep_none.new.entry true bytes c.tell.new.self c.tell.result c.tell.ensures.there; place = c.tell.ensures.place; ahead = c.tell.ensures.first; bit = c.tell.ensures.bit; best = c.tell.ensures.form bytes })

pub returns-in_err-exponent-in-Value : goal.returns-in_err-exponent-in-Value
returns-in_err-exponent-in-Value c =
    let i = c.args.instr.now in
    let bytes = c.args.bytes.now in
    let s = c.in_ok-sent in
    let p = err_from_is_err_and c.from_residual-in_err-exponent-in-Value.result c.from_residual-in_err-exponent-in-Value.ensures.1 in
    let fits : FitsSigned w128 c.in-Value.sent = search rules in
    let read = rw (c.in-Value.is) at s.ensures.gives in
    let fails = rw (c.view-in-Value.ensures, to_z-of_z w128 c.in-Value.sent fits) at c.in_err-exponent-in-Value.ensures in
    rw (p.1, p.2) (record { fault = inl (exponent_fails c.args.level i c.args.entry.now (drop c.args.at bytes) (drop s.middle bytes) c.in-Value.sent c.in_err-exponent-in-Value.field-0.0 c.requires.sends c.requires.kind read fails); entry = refl })

pub returns-in_err-sent-in-Value : goal.returns-in_err-sent-in-Value
returns-in_err-sent-in-Value c =
    let i = c.args.instr.now in
    let bytes = c.args.bytes.now in
    let s = c.in_ok-sent in
    let x = c.in_ok-exponent-in-Value in
    let p = err_from_is_err_and c.from_residual-in_err-sent-in-Value.result c.from_residual-in_err-sent-in-Value.ensures.1 in
    let fits : FitsSigned w128 c.in-Value.sent = search rules in
    let read = rw (c.in-Value.is) at s.ensures.gives in
    let near = rw (c.view-in-Value.ensures, to_z-of_z w128 c.in-Value.sent fits) at x.ensures in
    rw (p.1, p.2) (record { fault = inl (mantissa_fails c.args.level i c.args.entry.now (drop c.args.at bytes) (drop s.middle bytes) c.in-Value.sent x.exponent c.in_err-sent-in-Value.field-0.0 c.requires.sends c.requires.kind read near c.in_err-sent-in-Value.ensures.gives); entry = refl })

pub returns-in_err-value-in-Value : goal.returns-in_err-value-in-Value
returns-in_err-value-in-Value c =
    let i = c.args.instr.now in
    let bytes = c.args.bytes.now in
    let s = c.in_ok-sent in
    let x = c.in_ok-exponent-in-Value in
    let m = c.in_ok-sent-in-Value in
    let p = err_from_is_err_and c.from_residual-in_err-value-in-Value.result c.from_residual-in_err-value-in-Value.ensures.1 in
    let fits : FitsSigned w128 c.in-Value.sent = search rules in
    let mantissa_fits : FitsSigned w128 m.sent = search rules in
    let exponent_fits : FitsSigned w32 x.exponent = search rules in
    let read = rw (c.in-Value.is) at s.ensures.gives in
    let near = rw (c.view-in-Value.ensures, to_z-of_z w128 c.in-Value.sent fits) at x.ensures in
    let fails = rw (c.view-in-Value-2.ensures, to_z-of_z w128 m.sent mantissa_fits, to_z-of_z w32 x.exponent exponent_fits) at c.in_err-value-in-Value.ensures in
    rw (p.1, p.2) (record { fault = inl (decimal_fails c.args.level i c.args.entry.now (drop c.args.at bytes) (drop s.middle bytes) (drop m.next bytes) c.in-Value.sent x.exponent m.sent c.in_err-value-in-Value.field-0.0 c.requires.sends c.requires.kind read near m.ensures.gives fails); entry = refl })

pub needed_from-second-requires-clause-spelt : goal.needed_from-second-requires-clause-spelt
needed_from-second-requires-clause-spelt c =
    let bytes = c.args.bytes.now in
    let s = c.in_ok-sent in
    let m = c.in_ok-sent-in-Value in
    (Mandatory, m.sent, mantissa_stands c.args.level bytes s.middle m.next m.sent (bytes_from bytes s.middle (λ k. omega (arith, c.type_inv.bytes k))) (omega (arith, m.ensures.place)) (omega (arith, m.ensures.place)) m.ensures.gives)

pub returns-in_err-took-in-Value : goal.returns-in_err-took-in-Value
returns-in_err-took-in-Value c =
    let i = c.args.instr.now in
    let bytes = c.args.bytes.now in
    let s = c.in_ok-sent in
    let x = c.in_ok-exponent-in-Value in
    let m = c.in_ok-sent-in-Value in
    let v = c.in_ok-value-in-Value in
    let p = err_from_is_err_and c.from_residual-in_err-took-in-Value.result c.from_residual-in_err-took-in-Value.ensures.1 in
    let fits : FitsSigned w128 c.in-Value.sent = search rules in
    let mantissa_fits : FitsSigned w128 m.sent = search rules in
    let exponent_fits : FitsSigned w32 x.exponent = search rules in
    let read = rw (c.in-Value.is) at s.ensures.gives in
    let near = rw (c.view-in-Value.ensures, to_z-of_z w128 c.in-Value.sent fits) at x.ensures in
    let made = rw (c.view-in-Value-2.ensures, to_z-of_z w128 m.sent mantissa_fits, to_z-of_z w32 x.exponent exponent_fits) at v.ensures in
    let taken = decimal_read c.args.level i c.args.entry.now (drop c.args.at bytes) (drop s.middle bytes) (drop m.next bytes) c.in-Value.sent x.exponent m.sent v.value c.requires.sends c.requires.kind (within i v.value c.requires.part.kind_of_part c.requires.kind) read near m.ensures.gives made in
    rw (p.1, p.2) (record { fault = inr (c.in_err-took-in-Value.ensures.memory, λ waits. let both = sym taken ∙ waits in cc); entry = refl })

pub returns-in_ok-took-in-Value : goal.returns-in_ok-took-in-Value
returns-in_ok-took-in-Value c =
    let i = c.args.instr.now in
    let bytes = c.args.bytes.now in
    let at = c.args.at in
    let s = c.in_ok-sent in
    let x = c.in_ok-exponent-in-Value in
    let m = c.in_ok-sent-in-Value in
    let v = c.in_ok-value-in-Value in
    let n = c.needed_from-first in
    let k = c.needed_from-second in
    let t = c.in_ok-took-in-Value in
    let fits : FitsSigned w128 c.in-Value.sent = search rules in
    let mantissa_fits : FitsSigned w128 m.sent = search rules in
    let exponent_fits : FitsSigned w32 x.exponent = search rules in
    let read = rw (c.in-Value.is) at s.ensures.gives in
    let near = rw (c.view-in-Value.ensures, to_z-of_z w128 c.in-Value.sent fits) at x.ensures in
    let made = rw (c.view-in-Value-2.ensures, to_z-of_z w128 m.sent mantissa_fits, to_z-of_z w32 x.exponent exponent_fits) at v.ensures in
    let out = sym (rw (c.view-in-Value-3.ensures) at c.is_left_out-given-in-Value.ensures) in
    decimal_took c.args.level i c.args.entry.now c.keep.new.entry bytes at n.result s.middle k.result m.next c.is_left_out-given-in-Value.result c.in-Value.sent x.exponent m.sent v.value c.tell_pair.new.aside t.took
    c.requires.sends c.requires.kind c.requires.part.kind_of_part (bytes_from bytes at (λ k. omega (arith, c.type_inv.bytes k))) (bytes_from bytes s.middle (λ k. omega (arith, c.type_inv.bytes k))) (omega (arith, s.ensures.place)) (omega (arith, m.ensures.place)) (omega (arith, m.ensures.place))
    read near m.ensures.gives made n.ensures.same n.ensures.short k.ensures.same k.ensures.short out c.keep.ensures t.ensures.there
    (record { found = value_is i c.args.entry.now c.keep.new.entry bytes c.tell_pair.new.aside t.took c.number_aside-aside.result v.value (number_sent i.operator c.requires.sends) t.ensures.there t.ensures.unkept (c.number_aside-aside.ensures i.kind bytes (decimal_kind i.operator i c.args.entry.now x.exponent m.sent v.value c.requires.kind made) (decimal_numeric i.kind c.requires.kind)) c.keep.ensures; place = t.ensures.place; ahead = t.ensures.first; bit = t.ensures.bit; best = t.ensures.form })
