-- A call that is handed a room and two more.
use Rattle.std.specs.Prelude.{◌≡◌, ℕ, List}
use denote.Ref.{MutBor}
use denote.Param.Members.{Once}
use Rattle.std.specs.Prelude.{Option}
use Rattle.fast_tape.specs.declared.node.TapeNode.{TapeNode}
use Rattle.fast_kept.specs.declared.lent.Lent.{Lent}

abbrev pub Rooms : Type 0
Rooms = MutBor (Option Lent) × (MutBor (List TapeNode) × (MutBor (List ℕ) × Unit {0}))

-- at a room with x and rooms with xs and ys, it may give r and leave x', xs' and ys' there
pub record ReturnsAtRooms {F R : Type 0} (g : Once F Rooms (R × Rooms)) (f : F) (x : Option Lent) (xs : List TapeNode) (ys : List ℕ) (r : R) (x' : Option Lent) (xs' : List TapeNode) (ys' : List ℕ) : Type 0 where
  pub shown : Rooms
  pub room : shown.0.now ≡ x
  pub nodes : shown.1.0.now ≡ xs
  pub bytes : shown.1.1.0.now ≡ ys
  pub left : Rooms
  pub met : g.post f shown (r, left)
  pub room' : left.0.now ≡ x'
  pub nodes' : left.1.0.now ≡ xs'
  pub bytes' : left.1.1.0.now ≡ ys'
