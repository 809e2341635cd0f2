use Rattle.std.proofs.Common.{arith}
use Rattle.fast_wire.proofs.Calls.{ascii_answers}
use Rattle.fast_wire.proofs.ascii.read_ascii.Goals as goal

pub returns : goal.returns
returns c =
    ascii_answers (λ v. v.items) c.args.bytes.now c.args.at c.ascii_from.result (λ k. omega (arith, c.type_inv.bytes k)) c.requires c.ascii_from.ensures.place c.ascii_from.ensures.gives
