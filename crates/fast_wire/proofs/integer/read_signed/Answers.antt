use Rattle.std.proofs.Common.{arith}
use Rattle.fast_wire.proofs.Calls.{signed_answers}
use Rattle.fast_wire.proofs.integer.read_signed.Goals as goal

pub returns : goal.returns
returns c =
    signed_answers c.args.bytes.now c.args.at c.complement_from.result (λ k. omega (arith, c.type_inv.bytes k)) c.requires c.complement_from.ensures.place c.complement_from.ensures.gives
