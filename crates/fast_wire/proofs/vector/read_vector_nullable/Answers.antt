use Rattle.fast_wire.proofs.Common.{arith, items_of}
use Rattle.fast_wire.proofs.Calls.{vector_nullable_answers}
use Rattle.fast_wire.proofs.vector.read_vector_nullable.Goals as goal

pub returns : goal.returns
returns c =
    vector_nullable_answers items_of c.args.bytes.now c.args.at c.vector_nullable_from.result (λ k. omega (arith, c.type_inv.bytes k)) c.requires c.vector_nullable_from.ensures.place c.vector_nullable_from.ensures.gives
