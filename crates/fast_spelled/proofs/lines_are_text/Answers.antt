use Rattle.fast_spelled.proofs.Texture.{lines_are_text}
use Rattle.fast_spelled.proofs.lines_are_text.Goals as goal

pub returns : goal.returns
returns c = lines_are_text
