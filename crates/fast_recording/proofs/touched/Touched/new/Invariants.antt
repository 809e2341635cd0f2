use Rattle.std.proofs.Common.{◌≡◌, ℕ, false, slice_index_or, vec_len}
use Rattle.fast_recording.proofs.touched.Touched.new.Given as goal

abbrev pub invariant-loop : goal.invariant-loop
invariant-loop l = (vec_len l.groups ≡ l.counter) × ((n : ℕ) → slice_index_or l.groups.items n false ≡ false)
