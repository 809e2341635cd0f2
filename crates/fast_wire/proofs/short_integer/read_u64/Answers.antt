use Rattle.fast_wire.proofs.ShortIntegers.{short_given}
use Rattle.fast_wire.proofs.short_integer.read_u64.Goals as goal

pub returns-in-Some-clause-gives : goal.returns-in-Some-clause-gives
returns-in-Some-clause-gives c = short_given c.args.bytes.now c.args.at c.in-Some.found.0 c.in-Some.found.1 c.in-Some.ensures
