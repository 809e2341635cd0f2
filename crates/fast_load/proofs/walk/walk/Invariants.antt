use Rattle.fast_load.proofs.Common.{◌≡◌, ◌++◌, map, drop, flat_map, found_of}
use Rattle.fast_load.proofs.WalkLaws.{along}
use Rattle.fast_load.proofs.walk.walk.Given as goal

abbrev pub invariant-loop-found : goal.invariant-loop-found
invariant-loop-found g l = record {
  walked : along (g.J.Judge.judges l.judge) (map found_of (drop l.found-index l.found-items)) l.next ≡ along (g.J.Judge.judges l.judge) (map found_of l.found-items) l.fn.number;
  kept : l.kept.items ++ flat_map (g.J.Judge.keeps l.judge) (map found_of (drop l.found-index l.found-items)) ≡ l.initial.kept.items ++ flat_map (g.J.Judge.keeps l.judge) (map found_of l.found-items);
}
