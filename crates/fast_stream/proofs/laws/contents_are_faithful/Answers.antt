use Rattle.fast_stream.proofs.EqualNodes.{messages_exact}
use Rattle.fast_stream.proofs.SameNodes.{alike}
use Rattle.fast_stream.proofs.laws.contents_are_faithful.Goals as goal

pub returns : goal.returns
returns c = record { equal = messages_exact; alike = alike }
