use Rattle.fast_stream.proofs.Levels.{carried_usually}
use Rattle.fast_stream.proofs.laws.carried_usually.Goals as goal

pub returns : goal.returns
returns c = carried_usually
