use Rattle.std.proofs.Common.{arith}
use Rattle.fast_take.proofs.OneByte.{unsigned_stands}
use Rattle.fast_take.proofs.one_byte.read_length.Goals as goal

pub returns-then-bytes-at-clause-stands : goal.returns-then-bytes-at-clause-stands
returns-then-bytes-at-clause-stands c =
    unsigned_stands c.args.bytes.now c.args.at _ (λ k. omega (arith, c.type_inv.bytes k)) (omega arith) c.args.presence (omega (arith, c.zero_byte-zero.ensures))
