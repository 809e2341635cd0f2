use Rattle.fast_tape.proofs.Nodes.{one_content}
use Rattle.fast_tape.proofs.laws.one_content.Goals as goal

pub returns : goal.returns
returns c = λ bytes messages others nodes. one_content bytes messages others nodes
