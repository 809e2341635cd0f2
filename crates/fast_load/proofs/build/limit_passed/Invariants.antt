use Rattle.fast_load.proofs.Common.{map, written_template_of, place_or}
use Rattle.fast_load.proofs.build.limit_passed.Given as goal

abbrev pub ghost-extents_of : goal.ghost-extents_of
ghost-extents_of a = place_or (map written_template_of a.templates.now)
