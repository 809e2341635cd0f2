use Rattle.std.proofs.Common.{arith}
use Rattle.fast_wire.proofs.Calls.{map_answers}
use Rattle.fast_wire.proofs.presence_map.read_map.Goals as goal

pub returns : goal.returns
returns c =
    map_answers (λ v. v) c.args.bytes.now c.args.at c.map_from.result (λ k. omega (arith, c.type_inv.bytes k)) c.requires c.map_from.ensures.place c.map_from.ensures.gives
