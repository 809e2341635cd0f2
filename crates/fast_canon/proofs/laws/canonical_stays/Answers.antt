use Rattle.fast_canon.proofs.StreamLaws.{stays}
use Rattle.fast_canon.proofs.laws.canonical_stays.Goals as goal

pub returns : goal.returns
returns c = λ level set messages others bytes more sound. stays set sound level messages others bytes more
