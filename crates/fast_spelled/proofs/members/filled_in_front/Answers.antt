use Rattle.std.proofs.Common.{ap, sym, ◌∙◌, None}
use Rattle.std.specs.Option.{is_some}
use Rattle.fast_spelled.proofs.Places.{fewer_filled, get_or_any, one_more_filled}
use Rattle.fast_spelled.proofs.members.filled_in_front.Goals as goal

pub loop-place-preserved : goal.loop-place-preserved
loop-place-preserved c =
    one_more_filled c.args.slots.now c.loop-place.place c.loop-place.invariant
    (ap is_some (get_or_any c.args.slots.now c.loop-place.place None c.index-slots-place.result c.loop-place-test.true ∙ sym c.index-slots-place.is) ∙ c.if-is_none.ensures)

pub returns : goal.returns
returns c = fewer_filled c.args.slots.now c.loop-place.place _ c.loop-place.invariant c.loop-place-test.false
