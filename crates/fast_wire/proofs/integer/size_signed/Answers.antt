use Rattle.fast_wire.proofs.Common.{sym, w128, to_z-of_z, entity_of}
use Rattle.fast_wire.proofs.UnsignedForms.{entity_length}
use Rattle.fast_wire.proofs.SignedForms.{signed_shortest, lift}
use Rattle.fast_wire.proofs.Sizes.{signed_least}
use Rattle.fast_wire.proofs.integer.size_signed.Goals as goal

pub returns-clause-size : goal.returns-clause-size
returns-clause-size c = signed_least c.args.value c.least_signed_size.result (rw (to_z-of_z w128 c.args.value c.ranges.value) at c.least_signed_size.ensures)

pub returns-clause-least : goal.returns-clause-least
returns-clause-least c =
    let n = c.least_signed_size.result in let v = c.args.value in
    (entity_of n (lift n v), signed_shortest v n (rw (to_z-of_z w128 v c.ranges.value) at c.least_signed_size.ensures), sym (entity_length n (lift n v)))
