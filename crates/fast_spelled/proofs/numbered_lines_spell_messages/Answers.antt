use Rattle.fast_spelled.proofs.InPackets.{numbered_lines_spell, numbered_once}
use Rattle.fast_spelled.proofs.numbered_lines_spell_messages.Goals as goal

pub returns-clause-spelled : goal.returns-clause-spelled
returns-clause-spelled c = numbered_lines_spell

pub returns-clause-once : goal.returns-clause-once
returns-clause-once c = numbered_once
