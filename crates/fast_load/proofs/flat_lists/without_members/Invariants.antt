use Rattle.fast_load.proofs.Common.{◌≡◌, map, take, heading, heading_of, written_template_of}
use Rattle.fast_load.proofs.flat_lists.without_members.Given as goal

abbrev pub invariant-loop-template : goal.invariant-loop-template
invariant-loop-template l = map heading_of l.flats.items ≡ map (λ t. heading (written_template_of t)) (take l.template-index l.templates)
