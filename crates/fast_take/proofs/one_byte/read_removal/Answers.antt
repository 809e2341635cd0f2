use Rattle.std.proofs.Common.{arith}
use Rattle.fast_take.proofs.OneByte.{signed_stands, zero_low}
use Rattle.fast_take.proofs.one_byte.read_removal.Goals as goal

pub returns-then-removed-lt-FEW-clause-stands : goal.returns-then-removed-lt-FEW-clause-stands
returns-then-removed-lt-FEW-clause-stands c =
    signed_stands c.args.bytes.now c.args.at _ (λ k. omega (arith, c.type_inv.bytes k)) (omega arith) c.args.presence (omega (arith, zero_low c.args.presence, c.zero_byte-zero.ensures, c.type_inv.bytes c.args.at)) (omega (arith, zero_low c.args.presence, c.zero_byte-zero.ensures, c.type_inv.bytes c.args.at))
