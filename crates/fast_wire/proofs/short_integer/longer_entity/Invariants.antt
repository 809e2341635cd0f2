use Rattle.fast_wire.proofs.Common.{◌≡◌, ℕ, ◌-◌, ◌<◌, drop, take, slice_index, unsigned_of, under_sign}
use Rattle.fast_wire.proofs.short_integer.longer_entity.Given as goal

abbrev pub invariant-loop-i : goal.invariant-loop-i
invariant-loop-i l =
    let window = take 9 (drop l.at l.bytes) in
    (l.at < l.i) × (l.number ≡ under_sign l.negative (l.i - l.at) (unsigned_of (take (l.i - l.at) window)))
    × ((k : ℕ) → k < l.i - l.at → slice_index window k < 128)
