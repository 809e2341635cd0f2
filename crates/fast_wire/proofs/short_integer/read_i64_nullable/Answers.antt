use Rattle.fast_wire.proofs.Common.{rules, w64, to_z-of_z, SFits}
use Rattle.fast_wire.proofs.ShortIntegers.{short_signed_nullable_given}
use Rattle.fast_wire.proofs.short_integer.read_i64_nullable.Goals as goal

pub returns-in-Some-clause-gives : goal.returns-in-Some-clause-gives
returns-in-Some-clause-gives c =
    let fits : SFits w64 c.in-Some.sent = search rules in
    rw (c.received_signed.ensures, to_z-of_z w64 c.in-Some.sent fits)
    (short_signed_nullable_given c.args.bytes.now c.args.at c.in-Some.sent c.in-Some.next c.in-Some.ensures)
