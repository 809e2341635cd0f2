use Rattle.std.proofs.Common.{◌∙◌}
use Rattle.std.proofs.lemmas.List.{take_rest}
use Rattle.fast_io.proofs.Outputs.{takes_more}
use Rattle.fast_io.proofs.whole.push_all.Goals as goal

pub loop-rest-preserved : goal.loop-rest-preserved
loop-rest-preserved g c = (
  rw take_rest (takes_more _ _ _ _ _ c.in-Ok.count c.loop-rest.invariant.0 c.in-Ok.ensures.bytes.2),
  c.in-Ok.ensures.error ∙ c.loop-rest.invariant.1,
  c.in-Ok.ensures.flush ∙ c.loop-rest.invariant.2,
)
