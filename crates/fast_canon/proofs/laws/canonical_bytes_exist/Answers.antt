use Rattle.fast_canon.proofs.StreamLaws.{canonical_exists}
use Rattle.fast_canon.proofs.laws.canonical_bytes_exist.Goals as goal

pub returns : goal.returns
returns c = λ mode set stream messages sound. canonical_exists set sound mode mode.level stream messages
