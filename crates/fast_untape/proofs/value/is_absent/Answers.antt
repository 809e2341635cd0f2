use Rattle.std.proofs.Common.{refl}
use Rattle.fast_tape.specs.Tapes.{absent_kind}
use Rattle.fast_untape.proofs.value.is_absent.Goals as goal

pub returns-then-not-is_long-clause-no : goal.returns-then-not-is_long-clause-no
returns-then-not-is_long-clause-no c = λ e bytes says. c.if-not-is_long.ensures.no refl absent_kind c.args.node.now.instruction 0 0 says
