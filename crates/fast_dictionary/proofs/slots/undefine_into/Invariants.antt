use Rattle.fast_dictionary.proofs.Common.{◌≡◌, ◌<◌, ℕ, slice_index_or, vec_len, Undefined}
use Rattle.fast_dictionary.proofs.slots.undefine_into.Given as goal

abbrev pub invariant-loop-slot : goal.invariant-loop-slot
invariant-loop-slot l = (vec_len l.entries ≡ vec_len l.initial.entries) × ((n : ℕ) → n < l.slot → slice_index_or l.entries.items n Undefined ≡ Undefined)
