use Rattle.std.proofs.Common.{refl}
use Rattle.fast_untape.proofs.Values.{no_unsigned}
use Rattle.fast_untape.proofs.value.unsigned_at.Goals as goal

pub returns-then-not-is_long : goal.returns-then-not-is_long
returns-then-not-is_long c = no_unsigned c.args.node.now c.requires.kind (λ kind instruction number e. c.if-not-is_long.ensures.no refl kind instruction number 0 e)
