use Rattle.fast_canon.proofs.StreamLaws.{same_exactly}
use Rattle.fast_canon.proofs.laws.same_messages_same_bytes.Goals as goal

pub returns : goal.returns
returns c = λ set messages others bytes more sound. same_exactly set sound messages others bytes more
