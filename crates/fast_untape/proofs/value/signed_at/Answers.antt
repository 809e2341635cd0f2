use Rattle.std.proofs.Common.{pos, refl}
use Rattle.fast_untape.proofs.Values.{no_signed}
use Rattle.fast_untape.proofs.value.signed_at.Goals as goal

pub returns-then-not-is_signed : goal.returns-then-not-is_signed
returns-then-not-is_signed c = no_signed c.args.node.now c.requires.kind (λ kind instruction mantissa e. c.if-not-is_signed.ensures.no refl kind instruction mantissa (pos 0) e)
