use Rattle.std.proofs.Common.{refl}
use Rattle.fast_untape.proofs.Values.{no_decimal}
use Rattle.fast_untape.proofs.value.decimal_at.Goals as goal

pub returns-then-not-is_signed : goal.returns-then-not-is_signed
returns-then-not-is_signed c = no_decimal c.args.node.now c.requires.kind (c.if-not-is_signed.ensures.no refl)
