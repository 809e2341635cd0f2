use Rattle.fast_spelled.proofs.Whole.{line_spells}
use Rattle.fast_spelled.proofs.lines_spell_their_messages.Goals as goal

pub returns : goal.returns
returns c = line_spells
