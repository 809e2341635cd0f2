use Rattle.std.proofs.Common.{arith, drop, refl, sym, inl, inr, rules, true, slice_range}
use Rattle.std.proofs.lemmas.Int.{to_z-of_z}
use Rattle.std.specs.Int.{w128}
use Rattle.std.specs.Int.RustNames.{FitsSigned}
use Rattle.std.proofs.lemmas.Result.{err_from_is_err_and}
use Rattle.fast_field.specs.FieldReading.{unit_value}
use Rattle.fast_field.proofs.ReadFields.{bytes_from}
use Rattle.fast_take.proofs.TakenIntegers.{none_is, spelt_so, value_is, whole_sent}
use Rattle.fast_take.proofs.TakenVectors.{units_aside, behind_fails, count_is, first_fails, no_waiting, null_took, value_fails, vector_taken}
use Rattle.fast_take.proofs.taken_vector.take_vector.Goals as goal

pub returns-in_err-sent : goal.returns-in_err-sent
returns-in_err-sent c =
    let i = c.args.instr.now in
    let p = err_from_is_err_and c.from_residual.result c.from_residual.ensures.1 in
    rw (p.1, p.2) (record { fault = inl (first_fails c.args.level i c.args.entry.now (drop c.args.at c.args.bytes.now) c.in_err-sent.field-0.0 c.requires.whole c.requires.kind c.in_err-sent.ensures.gives); entry = refl })

pub needed_from-first-requires-clause-spelt : goal.needed_from-first-requires-clause-spelt
needed_from-first-requires-clause-spelt c =
    let bytes = c.args.bytes.now in
    let at = c.args.at in
    let s = c.in_ok-sent in
    spelt_so c.args.level true c.args.instr.now.presence bytes at s.start s.sent (bytes_from bytes at (λ k. omega (arith, c.type_inv.bytes k))) (omega (arith, s.ensures.place)) (omega (arith, s.ensures.place)) s.ensures.gives

pub place_behind-requires-clause-count : goal.place_behind-requires-clause-count
place_behind-requires-clause-count c =
    let bytes = c.args.bytes.now in
    let at = c.args.at in
    let s = c.in_ok-sent in
    let fits : FitsSigned w128 c.in-Value.count = search rules in
    rw (to_z-of_z w128 c.in-Value.count fits) (count_is c.args.level c.args.instr.now.presence bytes at s.start c.in-Value.count (bytes_from bytes at (λ k. omega (arith, c.type_inv.bytes k))) (omega (arith, s.ensures.place)) (omega (arith, s.ensures.place)) (rw (c.in-Value.is) at s.ensures.gives))

pub returns-in_err-next-in-Value : goal.returns-in_err-next-in-Value
returns-in_err-next-in-Value c =
    let i = c.args.instr.now in
    let bytes = c.args.bytes.now in
    let s = c.in_ok-sent in
    let p = err_from_is_err_and c.from_residual-in_err-next-in-Value.result c.from_residual-in_err-next-in-Value.ensures.1 in
    let fits : FitsSigned w128 c.in-Value.count = search rules in
    let behind = rw (to_z-of_z w128 c.in-Value.count fits) at c.in_err-next-in-Value.ensures in
    rw (p.1, p.2) (record { fault = inl (behind_fails c.args.level i c.args.entry.now bytes c.args.at s.start c.in-Value.count c.in_err-next-in-Value.field-0.0 c.requires.whole c.requires.kind (omega (arith, s.ensures.place)) (rw (c.in-Value.is) at s.ensures.gives) behind); entry = refl })

pub returns-in_err-value-in-Value : goal.returns-in_err-value-in-Value
returns-in_err-value-in-Value c =
    let i = c.args.instr.now in
    let bytes = c.args.bytes.now in
    let s = c.in_ok-sent in
    let n = c.in_ok-next-in-Value in
    let p = err_from_is_err_and c.from_residual-in_err-value-in-Value.result c.from_residual-in_err-value-in-Value.ensures.1 in
    let fits : FitsSigned w128 c.in-Value.count = search rules in
    let behind = rw (to_z-of_z w128 c.in-Value.count fits) at n.ensures in
    let read = rw (c.in-Value.is) at s.ensures.gives in
    rw (p.1, p.2) (record {
      fault = elim c.in_err-value-in-Value.ensures [
        | inl memory ↦ inr (memory, no_waiting c.args.level i c.args.entry.now bytes c.args.at s.start n.next c.in-Value.count (unit_value i.kind (slice_range bytes s.start n.next)) c.requires.whole c.requires.kind c.requires.part.kind_of_part (omega (arith, s.ensures.place)) read behind refl)
        | inr text ↦ inl (value_fails c.args.level i c.args.entry.now bytes c.args.at s.start n.next c.in-Value.count c.in_err-value-in-Value.field-0.0 c.requires.whole c.requires.kind (omega (arith, s.ensures.place)) read behind text)
      ];
      entry = refl;
    })

pub returns-in-Null : goal.returns-in-Null
returns-in-Null c =
    let i = c.args.instr.now in
    let bytes = c.args.bytes.now in
    let at = c.args.at in
    let s = c.in_ok-sent in
    let n = c.needed_from-first in
    let out = sym (rw (c.view.ensures) at c.is_left_out-given.ensures) in
    null_took c.args.level i c.args.entry.now c.keep_none.new.entry bytes at n.result s.start c.is_left_out-given.result c.tell.new.self c.tell.result
    c.requires.whole c.requires.kind (bytes_from bytes at (λ k. omega (arith, c.type_inv.bytes k))) (omega (arith, s.ensures.place)) (omega (arith, s.ensures.place)) (rw (c.in-Null.is) at s.ensures.gives)
    n.ensures.same n.ensures.short out c.keep_none.ensures c.tell.ensures.there
    (record { found = none_is i c.keep_none.new.entry true bytes c.tell.new.self c.tell.result c.tell.ensures.there; place = c.tell.ensures.place; ahead = c.tell.ensures.first; bit = c.tell.ensures.bit; best = c.tell.ensures.form bytes })

pub returns-in_ok-value-in-Value : goal.returns-in_ok-value-in-Value
returns-in_ok-value-in-Value c =
    let i = c.args.instr.now in
    let bytes = c.args.bytes.now in
    let at = c.args.at in
    let s = c.in_ok-sent in
    let f = c.needed_from-first in
    let n = c.in_ok-next-in-Value in
    let v = c.in_ok-value-in-Value in
    let tell = c.tell-in-Value in
    let fits : FitsSigned w128 c.in-Value.count = search rules in
    let behind = rw (to_z-of_z w128 c.in-Value.count fits) at n.ensures in
    let out = sym (rw (c.view-in-Value.ensures) at c.is_left_out-given-in-Value.ensures) in
    vector_taken c.args.level i c.args.entry.now c.keep.new.entry bytes at f.result s.start n.next c.in-Value.count c.is_left_out-given-in-Value.result v.value tell.new.self tell.result
    c.requires.whole c.requires.kind c.requires.part.kind_of_part (bytes_from bytes at (λ k. omega (arith, c.type_inv.bytes k))) (bytes_from bytes s.start (λ k. omega (arith, c.type_inv.bytes k))) (f.ensures.place.0) (f.ensures.place.1) (omega (arith, s.ensures.place)) (omega (arith, s.ensures.place))
    (rw (c.in-Value.is) at s.ensures.gives) behind v.ensures f.ensures.same f.ensures.short out c.keep.ensures tell.ensures.there
    (record { found = value_is i c.args.entry.now c.keep.new.entry bytes tell.new.self tell.result _ v.value (whole_sent i.operator c.requires.whole) tell.ensures.there tell.ensures.unkept (units_aside i.kind bytes s.start n.next v.value c.requires.kind v.ensures) c.keep.ensures; place = tell.ensures.place; ahead = tell.ensures.first; bit = tell.ensures.bit; best = tell.ensures.form bytes })
