use Rattle.fast_wire.proofs.Common.{◌∙◌, ap, arith, unsigned_size, unsigned_nullable_size}
use Rattle.fast_wire.proofs.nullable.size_unsigned_nullable.Goals as goal

pub returns-clause-size : goal.returns-clause-size
unfolding unsigned_nullable_size
returns-clause-size c = c.size_unsigned.ensures.size ∙ ap unsigned_size (c.unsigned_sent.ensures.small (let h = c.requires in omega arith))
