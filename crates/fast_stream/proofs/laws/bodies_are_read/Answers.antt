use Rattle.fast_stream.proofs.BodyReaders.{body_reader}
use Rattle.fast_stream.proofs.MessageReaders.{is_exact}
use Rattle.fast_stream.proofs.laws.bodies_are_read.Goals as goal

pub returns : goal.returns
returns c = λ level members typed. body_reader level (is_exact level) members typed
