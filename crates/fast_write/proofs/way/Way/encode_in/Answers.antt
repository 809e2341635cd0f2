use Rattle.std.proofs.Common.{ap, ◌∙◌}
use Rattle.fast_write.proofs.OneLine.{at_other, at_same, encoded}
use Rattle.fast_write.proofs.way.Way.encode_in.Goals as goal

pub returns-then-packet-self-clause-encoded : goal.returns-then-packet-self-clause-encoded
returns-then-packet-self-clause-encoded g c =
    let e = c.encode.ensures in
    encoded _ _ _ _ _ c.encode.result _ _ _ c.args.self.now.same_set (at_same _ _ _ c.if-packet-self.true) c.clear.ensures.items e.written e.refused e.no_form

pub returns-clause-encoded : goal.returns-clause-encoded
returns-clause-encoded g c =
    let e = c.encode-2.ensures in
    encoded _ _ _ _ _ c.encode-2.result _ _ _ (ap (λ r. r.now) c.reset.ensures.set ∙ c.args.self.now.same_set) (c.reset.ensures.empty ∙ at_other _ _ _ c.if-packet-self.false) c.clear.ensures.items e.written e.refused e.no_form
