use Rattle.std.proofs.Common.{None, refl}
use Rattle.fast_untape.proofs.Values.{neither}
use Rattle.fast_untape.proofs.value.value_at.Goals as goal

pub returns-then-is_absent : goal.returns-then-is_absent
returns-then-is_absent c = (None, c.node_of.ensures, c.if-is_absent.ensures.yes refl c.args.bytes.now)

pub returns-in-None-number_at : goal.returns-in-None-number_at
returns-in-None-number_at c = neither c.args.bytes.now c.args.node.now (c.if-is_absent.ensures.no refl c.args.bytes.now) c.in-None-number_at.ensures
