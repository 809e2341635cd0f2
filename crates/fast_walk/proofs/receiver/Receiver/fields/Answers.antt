use Rattle.fast_walk.proofs.Common.{◌<◌, ◌-◌, None, ◌∙◌, arith, rules, Part, list_of, Fields}
use Rattle.fast_walk.proofs.Taking.{takes_all, takes_none, takes_on, takes_one}
use Rattle.fast_walk.proofs.Telling.{asked_for, told_keeps}
use Rattle.fast_walk.proofs.receiver.Receiver.fields.Goals as goal

pub returns-then-fields-eq0-clause-goes : goal.returns-then-fields-eq0-clause-goes
returns-then-fields-eq0-clause-goes g c =
    let from : Fields = record { mantissa = None; rest = c.args.rest; spare = c.args.spare; place = c.args.at } in
    takes_all g.Self.Receiver.has c.args.level c.args.bytes.now from c.fields.fields c.fields.invariant.mantissa c.fields.invariant.takes

pub returns-in-None-clause-goes : goal.returns-in-None-clause-goes
returns-in-None-clause-goes g c =
    let from : Fields = record { mantissa = None; rest = c.args.rest; spare = c.args.spare; place = c.args.at } in
    takes_all g.Self.Receiver.has c.args.level c.args.bytes.now from c.fields.fields c.fields.invariant.mantissa c.fields.invariant.takes

pub returns-in_default-clause-goes : goal.returns-in_default-clause-goes
returns-in_default-clause-goes g c =
    let from : Fields = record { mantissa = None; rest = c.args.rest; spare = c.args.spare; place = c.args.at } in
    let has = g.Self.Receiver.has in
    let stops = c.in-Err.ensures.stops c.in_default.not-Memory in
    let none = takes_none has c.args.level c.args.bytes.now c.fields.self c.field.new.self (g.E.Entries.contents c.fields.entries) (g.E.Entries.contents c.field.new.entries) c.fields.bits c.fields.fields stops.1 stops.2 in
    takes_all has c.args.level c.args.bytes.now from c.fields.fields c.fields.invariant.mantissa
    (takes_on has c.args.level c.args.bytes.now c.args.self.now c.fields.self c.field.new.self from c.fields.fields c.fields.fields c.fields.invariant.takes none)

pub returns-in_default-clause-kept : goal.returns-in_default-clause-kept
returns-in_default-clause-kept g c = rw ((c.in-Err.ensures.stops c.in_default.not-Memory).1) c.fields.invariant.kept

pub returns-in_default-clause-awaits : goal.returns-in_default-clause-awaits
returns-in_default-clause-awaits g c = λ around h. c.in-Err.ensures.awaits_on c.in_default.not-Memory around c.fields.bits (c.fields.invariant.awaits around h)

pub fields-preserved : goal.fields-preserved
fields-preserved g c =
    let from : Fields = record { mantissa = None; rest = c.args.rest; spare = c.args.spare; place = c.args.at } in
    let has = g.Self.Receiver.has in
    let whole = c.in-Some.whole.now in
    let ok = c.in-Ok.ensures in
    let some : 0 < c.fields.fields.spare = omega (arith, c.if-fields-eq0.false) in
    let first = c.in-Some.ensures in
    let served = rw (first.1) at c.fields.invariant.served in
    let took = rw (c.first_for-bit.ensures, c.part_needs_bit-needs.ensures) at ok.goes.1 in
    let map = rw (c.part_needs_bit-needs.ensures) at c.take_for.ensures in
    let one = takes_one has c.args.level c.args.bytes.now c.fields.self c.field.new.self c.fields.fields c.in-Some.others c.in-Ok.next some first.1 took map (ok.goes.2 first.0 (list_of c.in-Some.others.now)) in
    record {
      place = search rules;
      mantissa = c.fields.invariant.mantissa;
      few = omega (arith, c.fields.invariant.few);
      served = rw (ok.same_keys) served.1;
      kept = told_keeps c.args.level whole c.first_for-bit.result (g.E.Entries.contents c.fields.entries) (g.E.Entries.contents c.field.new.entries) c.args.bytes.now c.fields.fields.place c.in-Ok.next
          (λ k. omega (arith, c.type_inv.bytes k)) (asked_for whole c.part_needs_bit-needs.result c.first_for-bit.result c.fields.bits c.part_needs_bit-needs.ensures c.first_for-bit.ensures)
          Part.Whole whole.kind ok.goes.0 tt served.0.0.1 ok.goes.1 c.fields.invariant.kept;
      awaits = λ around h. rw map (ok.awaits around c.fields.bits (rw (c.part_needs_bit-needs.ensures) at c.first_for-bit.ensures) (c.fields.invariant.awaits around h));
      takes = takes_on has c.args.level c.args.bytes.now c.args.self.now c.fields.self c.field.new.self from c.fields.fields (record { mantissa = c.fields.fields.mantissa; rest = c.in-Some.others; spare = c.fields.fields.spare - 1; place = c.in-Ok.next }) c.fields.invariant.takes one;
      keeps = λ set ms d h. ok.keeps set ms d (c.fields.invariant.keeps set ms d h);
      same_keys = ok.same_keys ∙ c.fields.invariant.same_keys;
    }
