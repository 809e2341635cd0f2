use Rattle.std.proofs.Common.{◌≤◌, drop}
use Rattle.fast_template.specs.Resolved.{list_of, size_of}
use Rattle.fast_layout.specs.Fields.{rows_of}
use Rattle.fast_layout.proofs.Laid.{IsLaid}
use Rattle.fast_layout.proofs.layout.Layout.+laying.Given as goal

abbrev pub invariant-push_members-loop-member : goal.invariant-push_members-loop-member
invariant-push_members-loop-member l = record {
  laid : IsLaid (rows_of (list_of l.members)) (rows_of (list_of (drop l.member-index l.members))) l.fn.self l.self;
  small : size_of (list_of (drop l.member-index l.members)) ≤ 65535;
}
