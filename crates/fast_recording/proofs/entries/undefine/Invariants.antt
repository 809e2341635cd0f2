use Rattle.std.proofs.Common.{◌≡◌, ◌<◌, ◌/◌, ℕ, slice_index_or, vec_len}
use Rattle.fast_dictionary.specs.declared.entry.Entry.TheVariants.{Undefined}
use Rattle.fast_recording.specs.Touched.{AreTouched}
use Rattle.fast_recording.proofs.entries.undefine.Given as goal

abbrev pub invariant-loop-group : goal.invariant-loop-group
invariant-loop-group l =
    (vec_len l.entries ≡ vec_len l.initial.entries)
    × (vec_len l.groups ≡ vec_len l.initial.groups)
    × ((n : ℕ) → n / 32 < l.group → slice_index_or l.entries.items n Undefined ≡ Undefined)
    × AreTouched l.entries.items l.groups.items
