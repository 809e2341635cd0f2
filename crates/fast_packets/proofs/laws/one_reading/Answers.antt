use Rattle.fast_packets.proofs.Readers.{one_reading}
use Rattle.fast_packets.proofs.laws.one_reading.Goals as goal

pub returns : goal.returns
returns c = λ level set bytes packets others sound. one_reading set sound level packets others bytes
