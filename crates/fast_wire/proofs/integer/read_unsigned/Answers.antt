use Rattle.std.proofs.Common.{arith}
use Rattle.fast_wire.proofs.Calls.{unsigned_answers}
use Rattle.fast_wire.proofs.integer.read_unsigned.Goals as goal

pub returns : goal.returns
returns c =
    unsigned_answers c.args.bytes.now c.args.at c.unsigned_from.result (λ k. omega (arith, c.type_inv.bytes k)) c.requires c.unsigned_from.ensures.place c.unsigned_from.ensures.gives
