use Rattle.fast_spelled.proofs.InPackets.{numbered_spells, same_numbered}
use Rattle.fast_spelled.proofs.numbered_lines_spell_their_messages.Goals as goal

pub returns-clause-spelled : goal.returns-clause-spelled
returns-clause-spelled c = numbered_spells

pub returns-clause-once : goal.returns-clause-once
returns-clause-once c = same_numbered
