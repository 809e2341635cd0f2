use Rattle.fast_tape.proofs.Nodes.{message_count}
use Rattle.fast_tape.proofs.laws.as_many_nodes.Goals as goal

pub returns : goal.returns
returns c = λ bytes message nodes. message_count bytes message nodes
