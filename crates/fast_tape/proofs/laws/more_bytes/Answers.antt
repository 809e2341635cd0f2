use Rattle.fast_tape.specs.Tapes.{marks_of_messages}
use Rattle.fast_tape.proofs.Nodes.{say_all_more}
use Rattle.fast_tape.proofs.laws.more_bytes.Goals as goal

pub returns : goal.returns
returns c = λ bytes more messages nodes. say_all_more bytes more (marks_of_messages messages) nodes
