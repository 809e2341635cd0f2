-- The templates that are kept.
use Rattle.std.specs.Prelude.{Option, Some, None}
use Rattle.fast_template.specs.TemplateSets.{TemplateList}
use Rattle.fast_kept.specs.declared.kept.Kept.{Kept}

-- the set that is behind a handle; none where nothing is
abbrev pub set_of : Option Kept → Option TemplateList
set_of None = None
set_of (Some (Kept.Set set)) = Some set
set_of (Some k) = None
