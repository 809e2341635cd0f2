use Rattle.std.proofs.Common.{rules}
use Rattle.fast_wire.proofs.nullable.write_unsigned_nullable.Goals as goal

pub returns : goal.returns
returns c = search rules
