use Rattle.fast_wire.proofs.Common.{◌+◌, drop, arith, length-drop, inl, take_rest, WireFault}
use Rattle.fast_wire.proofs.Entities.{entity_from}
use Rattle.fast_wire.proofs.FormReaders.{entity_given, fault_given, window_waits, window_passes}
use Rattle.fast_wire.proofs.stop_bit.entity_end.Goals as goal
use Rattle.fast_wire.proofs.stop_bit.entity_end.Goals.{then-rest-limit, else-rest-limit}

pub returns-in-Some-clause-answer : goal.returns-in-Some-clause-answer
returns-in-Some-clause-answer c =
    let first = rw take_rest at c.in-Some.ensures in
    let e = entity_from c.args.bytes.now c.args.at c.min.result c.in-Some.i (λ k. omega (arith, c.type_inv.bytes k)) first in
    (omega arith, e.1, omega arith, e.2)

pub returns-in-Some-clause-gives : goal.returns-in-Some-clause-gives
returns-in-Some-clause-gives c =
    let first = rw take_rest at c.in-Some.ensures in
    let e = entity_from c.args.bytes.now c.args.at c.min.result c.in-Some.i (λ k. omega (arith, c.type_inv.bytes k)) first in
    entity_given c.args.bytes.now c.args.at (c.args.at + c.in-Some.i + 1) c.args.limit (omega arith) e.1 (omega arith) e.2

pub returns-in-None-clause-gives : goal.returns-in-None-clause-gives
returns-in-None-clause-gives c =
    let rest = drop c.args.at c.args.bytes.now in
    let none = rw take_rest at c.in-None.ensures in
    let size = rw take_rest at c.min.ensures in
    elim c.if-rest-limit.branch [
      | then-rest-limit w ↦
          let few = rw take_rest at w.if-rest-limit.true in
          rw w.missing-is (inl (fault_given c.args.limit c.args.bytes.now c.args.at WireFault.NeedMore c.requires.place (omega (arith, few, length-drop c.args.at c.args.bytes.now), window_waits rest c.args.limit c.min.result size few none)))
      | else-rest-limit w ↦
          let many = rw take_rest at w.if-rest-limit.false in
          rw w.missing-is (inl (fault_given c.args.limit c.args.bytes.now c.args.at WireFault.TooLong c.requires.place (omega (arith, many, c.requires.some, length-drop c.args.at c.args.bytes.now), window_passes rest c.args.limit c.min.result size many none)))
    ]
