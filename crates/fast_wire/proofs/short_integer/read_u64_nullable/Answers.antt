use Rattle.fast_wire.proofs.ShortIntegers.{short_nullable_given}
use Rattle.fast_wire.proofs.short_integer.read_u64_nullable.Goals as goal

pub returns-in-Some-clause-gives : goal.returns-in-Some-clause-gives
returns-in-Some-clause-gives c = rw c.received.ensures (short_nullable_given c.args.bytes.now c.args.at c.in-Some.sent c.in-Some.next c.in-Some.ensures)
