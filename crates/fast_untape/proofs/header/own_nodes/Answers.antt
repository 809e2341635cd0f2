use Rattle.std.proofs.Common.{length, refl}
use Rattle.fast_untape.proofs.header.own_nodes.Goals as goal

pub returns-then-not-is_long : goal.returns-then-not-is_long
returns-then-not-is_long c = λ instruction number own behind e join. c.if-not-is_long.ensures.no refl c.args.kind instruction number (length own) e
