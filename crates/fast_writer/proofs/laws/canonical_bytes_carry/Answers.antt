use Rattle.fast_writer.proofs.LawProofs.{canonical_carries}
use Rattle.fast_writer.proofs.laws.canonical_bytes_carry.Goals as goal

pub returns : goal.returns
returns c = canonical_carries
