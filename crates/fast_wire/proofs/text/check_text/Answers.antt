use Rattle.std.proofs.Common.{rules}
use Rattle.fast_wire.proofs.text.check_text.Goals as goal

pub returns-then-is_utf8 : goal.returns-then-is_utf8
returns-then-is_utf8 c = search rules

pub returns-else-is_utf8 : goal.returns-else-is_utf8
returns-else-is_utf8 c = search rules
