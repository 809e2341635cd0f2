use Rattle.fast_field.proofs.Common.{w128, to_z-of_z, Mandatory, ShortestSigned}
use Rattle.fast_field.proofs.TwoPieces.{both_appended, small_fits}
use Rattle.fast_field.proofs.whole.write_pair.Goals as goal

pub returns-in-Ok : goal.returns-in-Ok
returns-in-Ok c =
    both_appended (ShortestSigned c.args.presence c.args.exponent) (ShortestSigned Mandatory c.args.mantissa) c.args.out.now.items c.write_signed.new.out.items c.write_signed-2.new.out.items
    (rw (to_z-of_z w128 c.args.exponent (small_fits c.args.exponent c.requires.exponent)) at c.in_ok-write_signed.ensures)
    (rw (to_z-of_z w128 c.args.mantissa (small_fits c.args.mantissa c.requires.mantissa)) at c.in-Ok.ensures)
