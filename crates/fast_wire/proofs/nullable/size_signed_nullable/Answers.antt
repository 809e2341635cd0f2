use Rattle.fast_wire.proofs.Common.{◌∙◌, ap, arith, rules, w128, to_z-of_z, SFits, signed_size, signed_nullable_size}
use Rattle.fast_wire.proofs.nullable.size_signed_nullable.Goals as goal

pub returns-clause-size : goal.returns-clause-size
unfolding signed_nullable_size
returns-clause-size c =
    let z = c.signed_sent.result in
    let fits : SFits w128 z = search rules in
    c.size_signed.ensures.size ∙ ap signed_size (to_z-of_z w128 z fits ∙ c.signed_sent.ensures.small (let h = c.requires in omega arith))
