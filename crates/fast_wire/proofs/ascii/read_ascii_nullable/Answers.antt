use Rattle.fast_wire.proofs.Common.{arith, items_of}
use Rattle.fast_wire.proofs.Calls.{ascii_nullable_answers}
use Rattle.fast_wire.proofs.ascii.read_ascii_nullable.Goals as goal

pub returns : goal.returns
returns c =
    ascii_nullable_answers items_of c.args.bytes.now c.args.at c.ascii_nullable_from.result (λ k. omega (arith, c.type_inv.bytes k)) c.requires c.ascii_nullable_from.ensures.place c.ascii_nullable_from.ensures.gives
