-- What a template set was asked for last. (Own.)
use Rattle.std.specs.Prelude.{◌≡◌, List, option_map}
use Rattle.std.specs.List.{AllByRecursion}
use Rattle.fast_template.specs.TemplateSets.{TemplateList, template_of}
use Rattle.fast_walk.specs.declared.last.Found.{Found}

-- What was answered is what the set has under that identifier.
abbrev pub IsFound : TemplateList → Found → Type 0
IsFound set found = option_map (λ t. t.now) found.template ≡ template_of found.id set

abbrev pub AreFound : TemplateList → List Found → Type 0
AreFound set found = AllByRecursion (IsFound set) found
