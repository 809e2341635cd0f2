use Rattle.std.proofs.Common.{◌≡◌, drop}
use Rattle.json.specs.Value.{items_view, members_view}
use Rattle.fast_written.specs.JsonData.{items_fit, members_fit}
use Rattle.fast_written.proofs.data.+judges.Given as goal

abbrev pub invariant-items_fit-loop-item : goal.invariant-items_fit-loop-item
invariant-items_fit-loop-item l = items_fit (items_view (drop l.item-index l.items)) ≡ items_fit (items_view l.items)

abbrev pub invariant-members_fit-loop-member : goal.invariant-members_fit-loop-member
invariant-members_fit-loop-member l = members_fit (members_view (drop l.member-index l.members)) ≡ members_fit (members_view l.members)
