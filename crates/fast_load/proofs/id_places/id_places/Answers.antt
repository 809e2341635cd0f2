use Rattle.std.proofs.Common.{ap, ◌+◌}
use Rattle.fast_load.proofs.IdPlaceLaws.{enters, finds}
use Rattle.fast_load.proofs.id_places.id_places.Goals as goal

pub loop-template-preserved : goal.loop-template-preserved
loop-template-preserved c = record {
  place = ap (λ n. n + 1) c.loop-template.invariant.place;
  lead = enters c.loop-template.places c.enter_place.new.places c.args.templates.now c.loop-template.template-index c.loop-template.place c.template-item.result c.loop-template-test.true c.template-item.is c.loop-template.invariant.place c.loop-template.invariant.lead c.in_ok-enter_place.ensures;
}

pub returns : goal.returns
returns c = finds c.loop-template.places c.args.templates.now c.loop-template.template-index c.loop-template-test.false c.loop-template.invariant.lead
