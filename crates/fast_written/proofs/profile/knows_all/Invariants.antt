use Rattle.std.proofs.Common.{◌≡◌, drop}
use Rattle.json.specs.Value.{members_view}
use Rattle.fast_written.specs.JsonData.{all_known}
use Rattle.fast_written.proofs.profile.knows_all.Given as goal

abbrev pub invariant-loop-member : goal.invariant-loop-member
invariant-loop-member l = all_known l.row (members_view (drop l.member-index l.members)) ≡ all_known l.row (members_view l.members)
