-- What is done with the tape of a message that is open (our own).
use Rattle.std.specs.Prelude.{◌≡◌, ℕ, List, [], ◌∷◌, ◌++◌, length}
use Rattle.fast_tape.specs.declared.node.TapeNode.{TapeNode}
use Rattle.fast_tape.specs.declared.open.OpenTape.{OpenTape}
use Rattle.fast_tape.specs.Moved.{with_length}
use Rattle.fast_tape.specs.Tapes.{Head, Mark, opens, Says}

-- one node more, which says this, and more bytes behind those that were there
pub record Adds (mark : Mark) (old new : OpenTape) : Type 0 where
  pub node : TapeNode
  pub more : List ℕ
  pub nodes : new.tape.nodes.items ≡ old.tape.nodes.items ++ node ∷ []
  pub bytes : new.tape.bytes.items ≡ old.tape.bytes.items ++ more
  pub says : Says new.tape.bytes.items mark node
  pub starts : new.starts.items ≡ old.starts.items

-- a segment more, which has no node yet
pub record Opens (head : Head) (old new : OpenTape) : Type 0 where
  pub node : TapeNode
  pub nodes : new.tape.nodes.items ≡ old.tape.nodes.items ++ node ∷ []
  pub bytes : new.tape.bytes.items ≡ old.tape.bytes.items
  pub says : Says new.tape.bytes.items (opens head 0) node
  pub starts : new.starts.items ≡ old.starts.items ++ length old.tape.nodes.items ∷ []

-- the innermost segment is closed: its header says how many nodes are behind it
pub record Closes (old new : OpenTape) : Type 0 where
  pub bytes : new.tape.bytes.items ≡ old.tape.bytes.items
  pub nodes : (before own : List TapeNode) (header : TapeNode) (starts : List ℕ)
      → old.tape.nodes.items ≡ before ++ header ∷ own → old.starts.items ≡ starts ++ length before ∷ []
      → (new.tape.nodes.items ≡ before ++ with_length header (length own) ∷ own) × (new.starts.items ≡ starts)
