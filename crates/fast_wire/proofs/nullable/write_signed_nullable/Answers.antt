use Rattle.fast_wire.proofs.Common.{rules, w128, to_z-of_z, SFits}
use Rattle.fast_wire.proofs.Written.{sent_written}
use Rattle.fast_wire.proofs.nullable.write_signed_nullable.Goals as goal

pub returns : goal.returns
returns c =
    let z = c.signed_sent.result in let s = c.signed_sent.ensures in
    let fits : SFits w128 z = search rules in
    sent_written c.args.out.now c.write_signed.new.out c.args.value z c.write_signed.result s.small s.large (rw (to_z-of_z w128 z fits) at c.write_signed.ensures)
