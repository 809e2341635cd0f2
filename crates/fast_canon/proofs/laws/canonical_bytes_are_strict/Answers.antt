use Rattle.fast_canon.proofs.Common.{Strict, in_mode, canonical_carries}
use Rattle.fast_canon.proofs.StreamLaws.{canonical_exists}
use Rattle.fast_canon.proofs.laws.canonical_bytes_are_strict.Goals as goal

pub returns-clause-of_streams : goal.returns-clause-of_streams
returns-clause-of_streams c = λ mode set stream messages sound. canonical_exists set sound mode Strict stream messages

pub returns-clause-all : goal.returns-clause-all
returns-clause-all c = λ set messages bytes h. in_mode Strict set bytes messages (canonical_carries Strict set messages bytes h)
