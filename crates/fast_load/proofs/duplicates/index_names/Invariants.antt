use Rattle.fast_load.proofs.Common.{◌≡◌, map, drop, take, [], ◌+◌, written_template_of, NamesLead, IdsLead, first_duplicate}
use Rattle.fast_load.proofs.duplicates.index_names.Given as goal

abbrev pub invariant-loop-template : goal.invariant-loop-template
invariant-loop-template l =
    (l.place ≡ l.template-index)
    × NamesLead l.names (map written_template_of (take l.template-index l.templates))
    × IdsLead l.ids (map written_template_of (take l.template-index l.templates))
    × (first_duplicate (map written_template_of (take l.template-index l.templates)) (map written_template_of (drop l.template-index l.templates)) (l.template-index + 1)
    ≡ first_duplicate [] (map written_template_of l.templates) 1)
