use Rattle.std.proofs.Common.{arith}
use Rattle.fast_wire.proofs.Calls.{signed_nullable_answers}
use Rattle.fast_wire.proofs.nullable.read_signed_nullable.Goals as goal

pub returns : goal.returns
returns c =
    signed_nullable_answers c.args.bytes.now c.args.at c.complement_nullable_from.result (λ k. omega (arith, c.type_inv.bytes k)) c.requires c.complement_nullable_from.ensures.place c.complement_nullable_from.ensures.gives
