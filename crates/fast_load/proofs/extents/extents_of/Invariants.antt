use Rattle.fast_load.proofs.Common.{◌≡◌, map, length, written_template_of}
use Rattle.fast_load.proofs.ExtentLaws.{KnowsExtents}
use Rattle.fast_load.proofs.extents.extents_of.Given as goal

abbrev pub invariant-loop-place : goal.invariant-loop-place
invariant-loop-place g l = record {
  len : length l.extents.items ≡ length l.templates;
  known : KnowsExtents (map written_template_of l.templates) l.order l.place-index l.extents.items;
}

abbrev pub ghost-extent_of_all : goal.ghost-extent_of_all
ghost-extent_of_all g a = g.place
