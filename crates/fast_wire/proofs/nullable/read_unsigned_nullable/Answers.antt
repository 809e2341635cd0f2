use Rattle.std.proofs.Common.{arith}
use Rattle.fast_wire.proofs.Calls.{unsigned_nullable_answers}
use Rattle.fast_wire.proofs.nullable.read_unsigned_nullable.Goals as goal

pub returns : goal.returns
returns c =
    unsigned_nullable_answers c.args.bytes.now c.args.at c.unsigned_nullable_from.result (λ k. omega (arith, c.type_inv.bytes k)) c.requires c.unsigned_nullable_from.ensures.place c.unsigned_nullable_from.ensures.gives
