use Rattle.std.proofs.Common.{◌≡◌, ℕ, ◌+◌, ◌-◌, length}
use Rattle.fast_gaps.specs.Gaps.{texts_in}
use Rattle.fast_gaps.proofs.texts.Texts.make_room.Given as goal

abbrev pub invariant-loop-alloc : goal.invariant-loop-alloc
invariant-loop-alloc l = (other : ℕ) → texts_in l.self other ≡ texts_in l.initial.self other

abbrev pub decreases-loop-alloc : goal.decreases-loop-alloc
decreases-loop-alloc l = l.slot + 1 - length l.self.by_slot.items
