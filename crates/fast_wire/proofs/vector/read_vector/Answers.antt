use Rattle.std.proofs.Common.{arith}
use Rattle.fast_wire.proofs.Calls.{vector_answers}
use Rattle.fast_wire.proofs.vector.read_vector.Goals as goal

pub returns : goal.returns
returns c =
    vector_answers (λ v. v.items) c.args.bytes.now c.args.at c.vector_from.result (λ k. omega (arith, c.type_inv.bytes k)) c.requires c.vector_from.ensures.place c.vector_from.ensures.gives
