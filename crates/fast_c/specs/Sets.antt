-- What a call did with handles of template sets.
use Rattle.std.specs.Prelude.{◌≡◌, ℕ, List, Option, Some, None, Ok, Err}
use Rattle.fast_template.specs.TemplateSets.{TemplateList}
use Rattle.fast_kept.specs.Sets.{set_of}
use Rattle.fast_kept.specs.declared.kept.Kept.{Kept}
use Rattle.fast_slices.specs.Answers.{no_counts}
use Rattle.fast_slices.specs.Calls.{Done, LoadsText, RefusesText}
use Rattle.fast_slices.specs.declared.answer.Refusal.{Refusal}

-- The templates of a text are behind the handle; or the text is refused, and the handle stays as it was.
abbrev pub KeepsText : List ℕ → Option Kept → Option Kept → Done → Type 0
KeepsText text old new (Ok counts) = (counts ≡ no_counts) × ((set : TemplateList) × LoadsText text (Ok set) × (new ≡ Some (Kept.Set set)))
KeepsText text old new (Err r) = RefusesText text r × (new ≡ old)

-- This was done with the set of a handle; or it has none, and nothing was done.
abbrev pub WithSet : (TemplateList → Done → Type 0) → Type 0 → Option TemplateList → Done → Type 0
WithSet Does Stays (Some set) done = Does set done
WithSet Does Stays None done = (done ≡ Err Refusal.Handle) × Stays

abbrev pub WithKept : (TemplateList → Done → Type 0) → Type 0 → Option Kept → Done → Type 0
WithKept Does Stays kept done = WithSet Does Stays (set_of kept) done

-- The set is behind another handle too; or memory was refused, and that handle stays as it was.
abbrev pub SharesSet : Option Kept → Option Kept → TemplateList → Done → Type 0
SharesSet old new set (Ok counts) = (counts ≡ no_counts) × (new ≡ Some (Kept.Set set))
SharesSet old new set (Err r) = (r ≡ Refusal.Memory) × (new ≡ old)
