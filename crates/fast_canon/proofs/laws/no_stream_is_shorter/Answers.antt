use Rattle.fast_canon.proofs.StreamLaws.{none_shorter}
use Rattle.fast_canon.proofs.laws.no_stream_is_shorter.Goals as goal

pub returns : goal.returns
returns c = λ mode set stream bytes messages sound. none_shorter set sound mode stream bytes messages
