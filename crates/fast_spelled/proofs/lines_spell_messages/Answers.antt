use Rattle.fast_spelled.proofs.Streams.{lines_spell, spelled_once}
use Rattle.fast_spelled.proofs.lines_spell_messages.Goals as goal

pub returns-clause-spelled : goal.returns-clause-spelled
returns-clause-spelled c = lines_spell

pub returns-clause-once : goal.returns-clause-once
returns-clause-once c = spelled_once
