use Rattle.fast_take.proofs.Common.{◌≡◌, ◌<◌, ◌%◌, ℕ, slice_index}
use Rattle.fast_take.proofs.cut.count_same.Given as goal

abbrev pub invariant-loop-i : goal.invariant-loop-i
invariant-loop-i l = (j : ℕ) → j < l.i → slice_index l.text j ≡ slice_index l.form j % 128
