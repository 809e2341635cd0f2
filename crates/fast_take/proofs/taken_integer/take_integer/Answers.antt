use Rattle.std.proofs.Common.{arith, drop, refl, sym, rules, true}
use Rattle.std.proofs.lemmas.Int.{to_z-of_z}
use Rattle.std.specs.Int.{w128}
use Rattle.std.specs.Int.RustNames.{FitsSigned}
use Rattle.std.proofs.lemmas.Result.{err_from_is_err_and}
use Rattle.fast_field.proofs.ReadFields.{bytes_from}
use Rattle.fast_take.proofs.TakenIntegers.{integer_numeric, made_kind, none_is, null_took, number_sent, sent_fails, spelt_so, value_fails, value_is, value_took}
use Rattle.fast_take.proofs.taken_integer.take_integer.Goals as goal

pub returns-in_err-sent : goal.returns-in_err-sent
returns-in_err-sent c =
    let i = c.args.instr.now in
    let p = err_from_is_err_and c.from_residual.result c.from_residual.ensures.1 in
    let fails = rw (c.is_sent_unsigned-unsigned.ensures) at c.in_err-sent.ensures.gives in
    rw (p.1, p.2) (record { fault = (sent_fails c.args.level i c.args.entry.now (drop c.args.at c.args.bytes.now) c.in_err-sent.field-0.0 c.requires.sends c.requires.integer fails); entry = refl })

pub needed_from-first-requires-clause-spelt : goal.needed_from-first-requires-clause-spelt
needed_from-first-requires-clause-spelt c =
    let bytes = c.args.bytes.now in
    let at = c.args.at in
    let s = c.in_ok-sent in
    spelt_so c.args.level c.is_sent_unsigned-unsigned.result c.args.instr.now.presence bytes at s.next s.sent (bytes_from bytes at (λ k. omega (arith, c.type_inv.bytes k))) (omega (arith, s.ensures.place)) (omega (arith, s.ensures.place)) s.ensures.gives

pub returns-in_err-value-in-Value : goal.returns-in_err-value-in-Value
returns-in_err-value-in-Value c =
    let i = c.args.instr.now in
    let bytes = c.args.bytes.now in
    let at = c.args.at in
    let s = c.in_ok-sent in
    let p = err_from_is_err_and c.from_residual-in_err-value-in-Value.result c.from_residual-in_err-value-in-Value.ensures.1 in
    let read = rw (c.is_sent_unsigned-unsigned.ensures, c.in-Value.is) at s.ensures.gives in
    let fits : FitsSigned w128 c.in-Value.sent = search rules in
    let fails = rw (c.view-in-Value.ensures, to_z-of_z w128 c.in-Value.sent fits) at c.in_err-value-in-Value.ensures.valued in
    rw (p.1, p.2) (record { fault = (value_fails c.args.level i c.args.entry.now (drop at bytes) (drop s.next bytes) c.in-Value.sent c.in_err-value-in-Value.field-0.0 c.requires.sends c.requires.integer read fails); entry = refl })

pub returns-in-Null : goal.returns-in-Null
returns-in-Null c =
    let i = c.args.instr.now in
    let bytes = c.args.bytes.now in
    let at = c.args.at in
    let s = c.in_ok-sent in
    let n = c.needed_from-first in
    let out = sym (rw (c.view.ensures) at c.is_left_out-given.ensures) in
    null_took c.args.level i c.args.entry.now c.keep_none.new.entry bytes at n.result s.next c.is_sent_unsigned-unsigned.result c.is_left_out-given.result c.tell.new.self c.tell.result
    c.requires.sends c.requires.integer c.is_sent_unsigned-unsigned.ensures (bytes_from bytes at (λ k. omega (arith, c.type_inv.bytes k))) (omega (arith, s.ensures.place)) (omega (arith, s.ensures.place)) (rw (c.in-Null.is) at s.ensures.gives)
    n.ensures.same n.ensures.short out c.keep_none.ensures c.tell.ensures.there
    (record { found = none_is i c.keep_none.new.entry true bytes c.tell.new.self c.tell.result c.tell.ensures.there; place = c.tell.ensures.place; ahead = c.tell.ensures.first; bit = c.tell.ensures.bit; form = c.tell.ensures.form bytes })

pub returns-in_ok-value-in-Value : goal.returns-in_ok-value-in-Value
returns-in_ok-value-in-Value c =
    let i = c.args.instr.now in
    let bytes = c.args.bytes.now in
    let at = c.args.at in
    let s = c.in_ok-sent in
    let n = c.needed_from-first in
    let v = c.in_ok-value-in-Value in
    let tell = c.tell-in-Value in
    let fits : FitsSigned w128 c.in-Value.sent = search rules in
    let cast = to_z-of_z w128 c.in-Value.sent fits in
    let out = sym (rw (c.view-in-Value-2.ensures) at c.is_left_out-given-in-Value.ensures) in
    value_took c.args.level i c.args.entry.now c.keep.new.entry bytes at n.result s.next c.is_sent_unsigned-unsigned.result c.is_left_out-given-in-Value.result c.in-Value.sent v.value tell.new.self tell.result
    c.requires.sends c.requires.integer c.is_sent_unsigned-unsigned.ensures (bytes_from bytes at (λ k. omega (arith, c.type_inv.bytes k))) (omega (arith, s.ensures.place)) (omega (arith, s.ensures.place)) (rw (c.in-Value.is) at s.ensures.gives)
    n.ensures.same n.ensures.short (rw (c.view-in-Value.ensures, cast) at v.ensures.made) (rw (c.view-in-Value.ensures, cast) at v.ensures.valued) out c.keep.ensures tell.ensures.there
    (record { found = value_is i c.args.entry.now c.keep.new.entry bytes tell.new.self tell.result c.number_aside-aside.result v.value (number_sent i.operator c.requires.sends) tell.ensures.there tell.ensures.unkept (c.number_aside-aside.ensures i.kind bytes (made_kind i.operator i c.args.entry.now c.in-Value.sent v.value c.requires.sends c.requires.integer (rw (c.view-in-Value.ensures, cast) at v.ensures.made)) (integer_numeric i.kind c.requires.integer)) c.keep.ensures; place = tell.ensures.place; ahead = tell.ensures.first; bit = tell.ensures.bit; form = tell.ensures.form bytes })
