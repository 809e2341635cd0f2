use Rattle.fast_packet_laws.proofs.CanonicalLaws.{stays}
use Rattle.fast_packet_laws.proofs.laws.canonical_stays.Goals as goal

pub returns : goal.returns
returns c = λ level set packets others bytes more sound. stays set sound level packets others bytes more
