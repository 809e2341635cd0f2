use Rattle.std.proofs.Common.{◌≡◌, ◌≢◌, ◌≤◌, ◌<◌, ◌/◌, ℕ, slice_index_or, vec_len}
use Rattle.fast_dictionary.specs.declared.entry.Entry.TheVariants.{Undefined}
use Rattle.fast_recording.proofs.entries.undefine_group.Given as goal

abbrev pub invariant-loop-slot : goal.invariant-loop-slot
invariant-loop-slot l =
    (vec_len l.entries ≡ vec_len l.initial.entries)
    × ((n : ℕ) → l.first ≤ n → n < l.slot → slice_index_or l.entries.items n Undefined ≡ Undefined)
    × ((n : ℕ) → n / 32 ≢ l.group → slice_index_or l.entries.items n Undefined ≡ slice_index_or l.initial.entries.items n Undefined)
