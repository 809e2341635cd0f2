use Rattle.fast_load.proofs.Common.{◌≡◌, ◌≤◌, ◌+◌, drop, too_large}
use Rattle.fast_load.proofs.extents.first_too_large.Given as goal

abbrev pub invariant-loop-extent : goal.invariant-loop-extent
invariant-loop-extent l = record {
  place : l.place ≡ l.extent-index + 1;
  sum : l.sum ≤ 65535;
  rest : too_large (drop l.extent-index l.extents) l.place l.sum ≡ too_large l.extents 1 0;
}
