use Rattle.fast_load.proofs.Common.{◌≡◌, map, heading, heading_of, written_template_of}
use Rattle.fast_load.proofs.Flattening.{KnowsLists}
use Rattle.fast_load.proofs.flat_lists.flat_templates.Given as goal

abbrev pub invariant-loop-place : goal.invariant-loop-place
invariant-loop-place l = record {
  headings : map heading_of l.flats.items ≡ map (λ t. heading (written_template_of t)) l.templates;
  known : KnowsLists (map written_template_of l.templates) l.order l.place-index l.flats.items;
}
